-- The bounds that map files show are numbers that a text can tell.
use Rattle.std.proofs.Common.{ℕ, ◌<◌, ◌≤◌, ◌^◌, List, [], ◌∷◌, arith}
use Rattle.std.specs.Prelude.{Bool, true, false, Option, Some, None, IfSome, if◌then◌else◌}
use Rattle.std.specs.Option.{option_map_or}
use Rattle.std.specs.Str.{bytes_eq}
use Rattle.tw_base.specs.declared.history.thread.Entry.{Entry}
use Rattle.tw_base.specs.declared.history.tree_proof.Ancestor.{Ancestor}
use Rattle.tw_base.specs.declared.history.tree_proof.TreeProof.{TreeProof}
use Rattle.tw_base.specs.declared.history.tree_proof.TreeProof.TheVariants.{Gap, Present}
use Rattle.tw_base.specs.declared.kinds.limits.TheConstants.{LAST_STEP}
use Rattle.tw_base.specs.format.Codecs.{by_kind, counted, many, number_codec, pair, seen, variant}
use Rattle.tw_base.specs.history.EntryCodec.{entry_codec}
use Rattle.tw_base.specs.history.HistoryCodec.{thread_codec}
use Rattle.tw_base.specs.history.TreeProofs.{ancestors_of}
use Rattle.tw_base.specs.history.Ways.{is_left, nearest_left, nearest_right}
use Rattle.tw_base.specs.kinds.Lists.{Each}
use Rattle.tw_base.proofs.lemmas.kinds.ListLemmas.{Each-map}
use Rattle.tw_treeproof.specs.Codecs.{ancestor_codec, gap_codec}
use Rattle.tw_tmap.specs.declared.map_file.HighFile.{HighFile}
use Rattle.tw_tmap.specs.declared.map_file.LowFile.{LowFile}
use Rattle.tw_tmap.specs.declared.map_file.LowPart.{LowPart}
use Rattle.tw_tmap.specs.Checking.{archived_if_of, before_told, high_ask, high_told, low_ask, low_told, step_if_of}
use Rattle.tw_tmap.proofs.MapCodec.{BeforeFits, HighFits, LowFits}
use Rattle.tw_plain.specs.Maps.{AreBounds}

-- both steps of an entry are below the format's limit
abbrev IsSmall : Entry → Type 0
IsSmall e = (e.thread.step ≤ LAST_STEP) × (e.archived ≤ LAST_STEP)

ancestor-small : (a : Ancestor) → ancestor_codec.Fits a → IsSmall a.entry
unfolding ancestor_codec entry_codec thread_codec seen pair number_codec
ancestor-small a fits = (fits.0.0.1.0.1, fits.0.1.1)

gap-small : (proof : TreeProof) → gap_codec.Fits proof → Each (λ (a : Ancestor). IsSmall a.entry) (ancestors_of proof)
unfolding gap_codec variant counted by_kind many
gap-small (Present left right up) fits = absurd fits
gap-small (Gap up) fits = Each-map (λ a. ancestor_codec.Fits a) (λ (a : Ancestor). IsSmall a.entry) up ancestor-small fits.1.1.1

-- ---- the nearest one

module _ (left : Entry → Bool) where
  right-small : (up : List Ancestor) → Each (λ (a : Ancestor). IsSmall a.entry) up → IfSome (nearest_right left up) IsSmall
  right-small [] all = tt
  right-small (a ∷ up) all = by (left a.entry) (right-small up all.1)
    where
      by : (b : Bool) → IfSome (nearest_right left up) IsSmall → IfSome (if b then nearest_right left up else Some a.entry) IsSmall
      by true rest = rest
      by false rest = all.0

  left-small : (up : List Ancestor) → Each (λ (a : Ancestor). IsSmall a.entry) up → IfSome (nearest_left left up) IsSmall
  left-small [] all = tt
  left-small (a ∷ up) all = by (left a.entry) (left-small up all.1)
    where
      by : (b : Bool) → IfSome (nearest_left left up) IsSmall → IfSome (if b then Some a.entry else nearest_left left up) IsSmall
      by true rest = all.0
      by false rest = rest

-- ---- what is told of it

step-small : (peer : List ℕ) (o : Option Entry) → IfSome o IsSmall → step_if_of peer o < 2 ^ 64
step-small peer None small = omega arith
step-small peer (Some e) small = by (bytes_eq e.thread.from peer)
  where
    by : (b : Bool) → (if b then e.thread.step else 0) < 2 ^ 64
    by true = let most : e.thread.step ≤ LAST_STEP = small.0 in omega (arith, most)
    by false = omega arith

archived-small : (service : List ℕ) (o : Option Entry) → IfSome o IsSmall → IfSome (archived_if_of service o) (λ step. step < 2 ^ 64)
archived-small service None small = tt
archived-small service (Some e) small = by (bytes_eq e.thread.from service)
  where
    by : (b : Bool) → IfSome (if b then Some e.archived else None) (λ step. step < 2 ^ 64)
    by true = let most : e.archived ≤ LAST_STEP = small.1 in omega (arith, most)
    by false = tt

low-small : (low : LowFile) → LowFits low → low_told low < 2 ^ 64
low-small low fits = by low.shown fits.before
  where
    by : (o : Option LowPart) → BeforeFits low.top low.step o → option_map_or (before_told low) o 0 < 2 ^ 64
    by None before = omega arith
    by (Some p) before =
        step-small low.peer (nearest_right (is_left (low_ask low)) (ancestors_of p.shown))
        (right-small (is_left (low_ask low)) (ancestors_of p.shown) (gap-small p.shown before.1.tree))

high-small : (high : HighFile) → HighFits high → IfSome (high_told high) (λ step. step < 2 ^ 64)
high-small high fits =
    archived-small high.peer (nearest_left (is_left (high_ask high)) (ancestors_of high.shown))
    (left-small (is_left (high_ask high)) (ancestors_of high.shown) (gap-small high.shown fits.tree))

pub are-bounds : (low : LowFile) (high : HighFile) → LowFits low → HighFits high → AreBounds (low_told low) (high_told high) high.top
are-bounds low high low_fits high_fits =
    let top : high.top ≤ LAST_STEP = high_fits.steps.top_within in
    (low-small low low_fits, high-small high high_fits, omega (arith, top))
