-- What accepted map files say of the histories of a family.
use Rattle.std.proofs.Common.{◌≡◌, ℕ, ◌-◌, ◌^◌, ◌≤◌, List, [], ◌∷◌, length, sym, ap, ◌∙◌, subst, arith, inl}
use Rattle.std.specs.Prelude.{true, Option, Some, None, ◌==◌, ◌&&◌}
use Rattle.std.specs.Option.{option_map_or}
use Rattle.std.specs.Str.{bytes_eq}
use Rattle.std.proofs.lemmas.Bool.{and_parts, eqb-true}
use Rattle.std.proofs.lemmas.Slice.Eq.{bytes_eq-Decides}
use Rattle.tw_base.specs.declared.history.thread.Entry.{Entry}
use Rattle.tw_base.specs.declared.history.thread.Key.{Key}
use Rattle.tw_base.specs.declared.history.thread.Thread.{Thread}
use Rattle.tw_base.specs.declared.history.tree_proof.Ask.TheVariants as ask
use Rattle.tw_base.specs.declared.history.tree_proof.TreeProof.{TreeProof}
use Rattle.tw_base.specs.declared.history.tree_proof.TreeProof.TheVariants as trees
use Rattle.tw_base.specs.declared.kinds.limits.TheConstants.{LAST_STEP}
use Rattle.tw_base.specs.history.Family.{HasHistory, family_texts}
use Rattle.tw_base.specs.history.History.{History, received}
use Rattle.tw_base.specs.history.Sound.{IsSound}
use Rattle.tw_base.specs.history.Tree.{entries, tree}
use Rattle.tw_base.specs.kinds.Bytes.{AreBytes}
use Rattle.tw_base.specs.kinds.Lists.{In}
use Rattle.tw_base.proofs.lemmas.history.Archives.{tree-has_received}
use Rattle.tw_base.proofs.lemmas.history.Families.{sound_of}
use Rattle.tw_base.proofs.lemmas.history.Trees.{IsArchived, entry_at-parts, received-sound, tree-archived}
use Rattle.tw_base.proofs.lemmas.kinds.Clashes.{Among-right, and_then}
use Rattle.tw_base.proofs.lemmas.kinds.ListLemmas.{Each-in}
use Rattle.tw_base.specs.history.TreeProofs.{ancestors_of}
use Rattle.tw_base.specs.history.Ways.{is_left, nearest_left, nearest_right}
use Rattle.tw_skipproof.specs.declared.existence.Part.{Part}
use Rattle.tw_treeproof.specs.Codecs.{gap_codec}
use Rattle.tw_treeproof.specs.Sizes.{HasProofSizes}
use Rattle.tw_chain.specs.Checks.{top_of, under_anchor}
use Rattle.tw_chain.specs.Checks.Check.{AnswerOf, InOrder, NeedsAnchor}
use Rattle.tw_chain.proofs.CheckBinds.{Anchored, AreChecked, Opened, OrTheyClash, Setting, anchored, anchored-part}
use Rattle.tw_chain.proofs.CheckBinds.{answer-step, each-checked, parted, setting_of}
use Rattle.tw_chain.proofs.PieceSizes.{PartSizes, gap-sizes, opening-sizes, path-sizes}
use Rattle.tw_tmap.specs.declared.map_file.HighFile.{HighFile}
use Rattle.tw_tmap.specs.declared.map_file.LowFile.{LowFile}
use Rattle.tw_tmap.specs.declared.map_file.LowPart.{LowPart}
use Rattle.tw_tmap.specs.declared.map_verdict.MapVerdict.{MapVerdict}
use Rattle.tw_tmap.specs.declared.map_verdict.MapVerdict.TheVariants.{Yes, No, Gap}
use Rattle.tw_tmap.specs.Binding.{BindsMap}
use Rattle.tw_tmap.specs.Bounds.{IsBetweenSteps, high_bound, low_bound}
use Rattle.tw_tmap.specs.Checking.{AreMapFilesAccepted, before_checks, before_told, fit, high_ask, high_checks}
use Rattle.tw_tmap.specs.Checking.{high_part, high_told, low_ask, low_checks, low_file_part, low_told, map_checks}
use Rattle.tw_tmap.specs.Checking.{map_texts, map_verdict}
use Rattle.tw_tmap.proofs.Bounded.{high-is, low-is}
use Rattle.tw_tmap.proofs.MapChecks.{yes-accepted}
use Rattle.tw_tmap.proofs.MapCodec.{BeforeFits, HighFits, LowFits, LowPartFits}

same_history : (family : List History) (service : List ℕ) (one other : History) → HasHistory family service one
    → HasHistory family service other → one ≡ other
same_history family service one other is also = let same : Some one ≡ Some other = sym is ∙ also in cc

-- the threads that a sound history received have steps within the format's limit
pub received-small : (h : History) → IsSound h → (i : ℕ) → i ≤ length h.steps → (e : Entry) → In e (received h i)
    → e.thread.step ≤ LAST_STEP
received-small h sound i within e there =
    let archived : IsArchived h i e = Each-in (IsArchived h i) (entries (tree h i)) e (tree-archived h i)
    (tree-has_received h sound i within e there) in
    (received-sound h sound archived.0 e.thread (entry_at-parts h archived.0 e archived.2).1).0.2

-- the tree proofs of empty places, for whatever is asked of keys
pub below-sizes : (asked : Key) (proof : TreeProof) → gap_codec.Fits proof → HasProofSizes (ask.Below asked) proof
below-sizes asked (trees.Present left right up) fits = gap-sizes asked (trees.Present left right up) fits
below-sizes asked (trees.Gap up) fits = gap-sizes asked (trees.Gap up) fits

pub above-sizes : (asked : Key) (proof : TreeProof) → gap_codec.Fits proof → HasProofSizes (ask.Above asked) proof
above-sizes asked (trees.Present left right up) fits = gap-sizes asked (trees.Present left right up) fits
above-sizes asked (trees.Gap up) fits = gap-sizes asked (trees.Gap up) fits

module _ (s : Setting) where
  -- ---- the low file

  record LowBound (f : LowFile) (low : ℕ) : Type 0 where
    own : History
    has_own : HasHistory s.family f.service own
    within : f.step ≤ length own.steps
    is : low ≡ low_bound own f.step f.peer

  low-first : (f : LowFile) → f.step ≡ 1 → Anchored s (record { from = f.service; step = f.top }) → f.step ≤ f.top
      → LowBound f 0
  unfolding received
  low-first f first held order = record {
    own = held.has.0;
    has_own = held.has.1;
    within = omega (arith, order, held.has.2);
    is = ap (λ (step : ℕ). low_bound held.has.0 step f.peer) (sym first);
  }

  low-later : (f : LowFile) (p : LowPart) → LowPartFits f.top (f.step - 1) p → f.step ≤ f.top
      → AreChecked s (before_checks f p) → OrTheyClash s (LowBound f (before_told f p))
  low-later f p fits order checked =
      let at : Part = low_file_part f p in
      let sizes : PartSizes at =
      record {
        links = path-sizes f.top (f.step - 1) p.path.links fits.path;
        opening = opening-sizes 0 (f.step - 1) p.opening fits.opening;
      } in
      let parts = parted s (under_anchor 0 at) (AnswerOf 0 p.opening.archive_root (low_ask f) p.shown ∷ []) checked in
      let held = (anchored s (top_of at) parts.0.1.0).has in
      and_then s.dig s.texts _ _ (anchored-part s 0 at sizes parts.0)
      (λ (opened : Opened s f.service (f.step - 1) p.opening). and_then s.dig s.texts _ _
      (answer-step s 0 f.service (f.step - 1) p.opening (low_ask f) p.shown
      (below-sizes (record { from = f.peer; step = 2 ^ 40 }) p.shown fits.tree) opened parts.1.0)
      (λ answer. (
      let sound : IsSound opened.history = sound_of s.family f.service opened.history s.sound opened.has in
      inl (record {
        own = opened.history;
        has_own = opened.has;
        within = (let same = same_history s.family f.service held.0 opened.history held.1 opened.has in
            subst (λ (h : History). f.step ≤ length h.steps) same (omega (arith, order, held.2)));
        is = low-is opened.history sound (f.step - 1) opened.within f.peer
            (nearest_right (is_left (low_ask f)) (ancestors_of p.shown))
            (received-small opened.history sound (f.step - 1) opened.within) answer;
      }))))

  low-binds : (f : LowFile) → LowFits f → AreChecked s (low_checks f) → OrTheyClash s (LowBound f (low_told f))
  low-binds f fits checked = by f.shown fits.before checked
    where
      by : (o : Option LowPart) → BeforeFits f.top f.step o
          → AreChecked s (InOrder f.step f.top ∷ option_map_or (before_checks f) o
          (NeedsAnchor (record { from = f.service; step = f.top }) ∷ []))
          → OrTheyClash s (LowBound f (option_map_or (before_told f) o 0))
      by None first checked =
          let some = fits.steps.some in
          inl (low-first f (omega (arith, first, some)) (anchored s (record { from = f.service; step = f.top })
          checked.1.0) checked.0.passes)
      by (Some p) later checked = low-later f p later.1 checked.0.passes checked.1

  -- ---- the high file

  record HighBound (f : HighFile) (high : Option ℕ) : Type 0 where
    other : History
    has_other : HasHistory s.family f.service other
    within : f.top ≤ length other.steps
    is : high ≡ high_bound other f.peer f.step f.top

  high-binds : (f : HighFile) → HighFits f → AreChecked s (high_checks f) → OrTheyClash s (HighBound f (high_told f))
  high-binds f fits checked =
      let at : Part = high_part f in
      let sizes : PartSizes at = record { links = tt; opening = opening-sizes 0 f.top f.opening fits.opening } in
      let parts = parted s (under_anchor 1 at) (AnswerOf 1 f.opening.archive_root (high_ask f) f.shown ∷ []) checked in
      and_then s.dig s.texts _ _ (anchored-part s 1 at sizes parts.0)
      (λ (opened : Opened s f.service f.top f.opening). and_then s.dig s.texts _ _
      (answer-step s 1 f.service f.top f.opening (high_ask f) f.shown
      (above-sizes (record { from = f.peer; step = f.step - 1 }) f.shown fits.tree) opened parts.1.0)
      (λ answer. (
      let sound : IsSound opened.history = sound_of s.family f.service opened.history s.sound opened.has in
      inl (record {
        other = opened.history;
        has_other = opened.has;
        within = opened.within;
        is = high-is opened.history sound f.top opened.within f.peer f.step
            (nearest_left (is_left (high_ask f)) (ancestors_of f.shown)) fits.steps.some answer;
      }))))

  -- ---- both

  both-bind : (low : LowFile) (high : HighFile) → LowFits low → HighFits high → fit low high ≡ true
      → AreChecked s (map_checks low high)
      → OrTheyClash s (IsBetweenSteps s.family low.service low.step low.peer (low_told low) (high_told high) high.top)
  both-bind low high low_fits high_fits fits checked =
      let parts = parted s (low_checks low) (high_checks high) checked in
      let names = and_parts (bytes_eq low.service high.peer) (low.step == high.step && bytes_eq low.peer high.service)
      fits in
      let others = and_parts (low.step == high.step) (bytes_eq low.peer high.service) names.1 in
      let service : high.peer ≡ low.service = sym ((bytes_eq-Decides low.service high.peer).0 names.0) in
      let step : high.step ≡ low.step = sym (eqb-true low.step high.step others.0) in
      let peer : high.service ≡ low.peer = sym ((bytes_eq-Decides low.peer high.service).0 others.1) in
      and_then s.dig s.texts _ _ (low-binds low low_fits parts.0)
      (λ own. and_then s.dig s.texts _ _ (high-binds high high_fits parts.1)
      (λ other. inl (record {
        own = own.own;
        has_own = own.has_own;
        within = own.within;
        other = other.other;
        has_other = subst (λ (name : List ℕ). HasHistory s.family name other.other) peer other.has_other;
        upto_within = other.within;
        low_is = own.is;
        high_is = other.is
            ∙ ap (λ (from : List ℕ). high_bound other.other from high.step high.top) service
            ∙ ap (λ (n : ℕ). high_bound other.other low.service n high.top) step;
      })))

module _ (dig : List ℕ → List ℕ) (size : (text : List ℕ) → length (dig text) ≡ 32) (are : (text : List ℕ)
    → AreBytes (dig text)) (anchors : List Thread) (low : LowFile)
    (high : HighFile) (low_fits : LowFits low) (high_fits : HighFits high) where
  accepted-binds : AreMapFilesAccepted dig anchors low high → BindsMap dig anchors low high
      (Yes (low_told low) (high_told high) high.top)
  accepted-binds accepted family sound has =
      let of_family : List (List ℕ) = family_texts dig family in
      let own : List (List ℕ) = map_texts dig low high in
      let s : Setting = setting_of dig size are anchors family sound own in
      both-bind s low high low_fits high_fits accepted.0 (each-checked s (map_checks low high) accepted.1 has
      (λ t a. Among-right t of_family own a))

  -- a verdict binds, whatever it is
  pub verdict-binds : (verdict : MapVerdict) → verdict ≡ map_verdict dig anchors low high → BindsMap dig anchors low
      high verdict
  verdict-binds (No reason) is = tt
  verdict-binds Gap is = tt
  verdict-binds (Yes l h upto) is =
      let yes = yes-accepted dig anchors low high l h upto (sym is) in
      let same : Yes (low_told low) (high_told high) high.top ≡ Yes l h upto = λ k. Yes (sym yes.1 k) (sym yes.2 k)
      (sym yes.3 k) in
      subst (BindsMap dig anchors low high) same (accepted-binds yes.0)
