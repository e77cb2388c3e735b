-- The proof that a tree has of an entry, or of a key that it lacks, has a spelling where few nodes stand above its
-- place.
use Rattle.std.proofs.Common.{◌≡◌, ℕ, ◌≤◌, List, [], ◌∷◌, ◌++◌, length, Bool, true, false, refl, arith}
use Rattle.std.specs.Prelude.{if◌then◌else◌}
use Rattle.tw_base.specs.declared.history.thread.Entry.{Entry}
use Rattle.tw_base.specs.declared.history.thread.Key.{Key}
use Rattle.tw_base.specs.declared.history.tree_proof.Ancestor.{Ancestor}
use Rattle.tw_base.specs.declared.history.tree_proof.Ask.{Ask}
use Rattle.tw_base.specs.declared.history.tree_proof.Ask.TheVariants as ask
use Rattle.tw_base.specs.declared.history.tree_proof.TreeProof.{TreeProof}
use Rattle.tw_base.specs.declared.history.tree_proof.TreeProof.TheVariants.{Present, Gap}
use Rattle.tw_base.specs.format.Codecs.{Codec, by_kind, bytes_codec, counted, many, number_codec, pair, seen, variant}
use Rattle.tw_base.specs.history.EntryCodec.{entry_codec}
use Rattle.tw_base.specs.history.Tree.{Tree, IsRising, entries}
use Rattle.tw_base.specs.history.Tree.Tree.{Empty, Branch}
use Rattle.tw_base.specs.kinds.Bytes.{AreBytes}
use Rattle.tw_base.specs.kinds.Lists.{Each}
use Rattle.tw_base.proofs.lemmas.kinds.DigestBytes.{tree_label-digest}
use Rattle.tw_base.proofs.lemmas.kinds.ListLemmas.{Each-append, Each-parts}
use Rattle.tw_base.specs.history.TreeProofs.{IsSo, ancestor, ancestors_of, place_of_ask, proof_at, proof_of, way_up}
use Rattle.tw_base.specs.history.Ways.{has_asked_key, is_left}
use Rattle.tw_treeproof.specs.declared.limits.TheConstants.{MOST_ABOVE_ENTRY, MOST_ABOVE_PLACE}
use Rattle.tw_treeproof.specs.Codecs.{ancestor_codec, gap_codec, present_codec}
use Rattle.tw_treeproof.proofs.Places.{IsAt, at-place}

-- ---- a tree proof that has a spelling has few nodes above its place

pub present-few : (p : TreeProof) → present_codec.Fits p → length (ancestors_of p) ≤ MOST_ABOVE_ENTRY
unfolding present_codec variant by_kind number_codec
present-few (Present left right up) fits = fits.1.0.1
present-few (Gap up) fits = absurd fits

pub gap-few : (p : TreeProof) → gap_codec.Fits p → length (ancestors_of p) ≤ MOST_ABOVE_PLACE
unfolding gap_codec variant counted by_kind number_codec
gap-few (Present left right up) fits = absurd fits
gap-few (Gap up) fits = fits.1.0.1

-- ---- and one that the tree has, with few nodes, has a spelling

module _ (dig : List ℕ → List ℕ) (size : (text : List ℕ) → length (dig text) ≡ 32) (are : (text : List ℕ)
    → AreBytes (dig text)) where
  abbrev Fit : List Ancestor → Type 0
  Fit = Each ancestor_codec.Fits

  node-fits : (e : Entry) (other : Tree) → entry_codec.Fits e → ancestor_codec.Fits (ancestor dig e other)
  unfolding ancestor_codec seen pair bytes_codec
  node-fits e other fits = (fits, tree_label-digest dig size are other)

  way-fits : (asked : Ask) (t : Tree) → Each entry_codec.Fits (entries t) → Fit (way_up dig asked t)
  unfolding way_up
  way-fits asked Empty all = tt
  way-fits asked (Branch l e r) all =
      let parts = Each-parts entry_codec.Fits (entries l) (e ∷ entries r) all in
      by (has_asked_key asked e) (is_left asked e) (way-fits asked l parts.0) (way-fits asked r parts.1.1) parts.1.0
    where
      by : (meets left : Bool) → Fit (way_up dig asked l) → Fit (way_up dig asked r) → entry_codec.Fits e
          → Fit (if meets then [] else (if left then way_up dig asked l ++ ancestor dig e r ∷ [] else way_up dig asked r
          ++ ancestor dig e l ∷ []))
      by true left one other here = tt
      by false true one other here = Each-append ancestor_codec.Fits (way_up dig asked l) (ancestor dig e r ∷ []) one
          (node-fits e r here, tt)
      by false false one other here = Each-append ancestor_codec.Fits (way_up dig asked r) (ancestor dig e l ∷ []) other
          (node-fits e l here, tt)

  present-at : (e : Entry) (place : Tree) (up : List Ancestor) → IsAt (ask.Present e) place
      → length (ancestors_of (proof_at dig place up)) ≤ MOST_ABOVE_ENTRY → Fit up
      → present_codec.Fits (proof_at dig place up)
  unfolding present_codec variant by_kind pair many number_codec bytes_codec
  present-at e Empty up at few all = absurd at
  present-at e (Branch l f r) up at few all =
      (refl, ((omega arith, few), (tree_label-digest dig size are l, (tree_label-digest dig size are r, (refl, all)))))

  gap-at : (key : Key) (place : Tree) (up : List Ancestor) → IsAt (ask.Absent key) place
      → length (ancestors_of (proof_at dig place up)) ≤ MOST_ABOVE_PLACE → Fit up
      → gap_codec.Fits (proof_at dig place up)
  unfolding gap_codec variant by_kind counted many number_codec
  gap-at key Empty up at few all = (refl, ((omega arith, few), (refl, all)))
  gap-at key (Branch l f r) up at few all = absurd at

  -- what fits at the place of an answer fits of the whole tree
  own-fits : (c : Codec TreeProof) (most : ℕ) (asked : Ask)
      → ((place : Tree) (up : List Ancestor) → IsAt asked place → length (ancestors_of (proof_at dig place up)) ≤ most
      → Fit up → c.Fits (proof_at dig place up))
      → (t : Tree) → IsRising (entries t) → IsSo (entries t) asked → Each entry_codec.Fits (entries t)
      → length (ancestors_of (proof_of dig t asked)) ≤ most → c.Fits (proof_of dig t asked)
  own-fits c most asked here t rising so all few =
      here (place_of_ask asked t) (way_up dig asked t) (at-place t asked rising so) few (way-fits asked t all)

  pub own-present-fits : (t : Tree) (e : Entry) → IsRising (entries t) → IsSo (entries t) (ask.Present e)
      → Each entry_codec.Fits (entries t)
      → length (ancestors_of (proof_of dig t (ask.Present e))) ≤ MOST_ABOVE_ENTRY
      → present_codec.Fits (proof_of dig t (ask.Present e))
  own-present-fits t e = own-fits present_codec MOST_ABOVE_ENTRY (ask.Present e) (present-at e) t

  pub own-gap-fits : (t : Tree) (key : Key) → IsRising (entries t) → IsSo (entries t) (ask.Absent key)
      → Each entry_codec.Fits (entries t)
      → length (ancestors_of (proof_of dig t (ask.Absent key))) ≤ MOST_ABOVE_PLACE
      → gap_codec.Fits (proof_of dig t (ask.Absent key))
  own-gap-fits t key = own-fits gap_codec MOST_ABOVE_PLACE (ask.Absent key) (gap-at key) t
