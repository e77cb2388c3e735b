-- The proof that a tree has: it checks under the tree's label, shows the tree's answer, and has a spelling.
use Rattle.std.proofs.Common.{◌≡◌, ℕ, ◌+◌, ◌<◌, ◌≤◌, List, [], ◌∷◌, ◌++◌, length, Bool, true, false, refl, ap, sym}
use Rattle.std.proofs.Common.{◌∙◌, subst, arith}
use Rattle.std.proofs.Math.Nat.{le-max_left, le-max_right}
use Rattle.std.proofs.lemmas.List.{length-append}
use Rattle.tw_base.specs.declared.history.thread.Entry.{Entry}
use Rattle.tw_base.specs.declared.history.tree_proof.Ancestor.{Ancestor}
use Rattle.tw_base.specs.declared.history.tree_proof.Ask.{Ask}
use Rattle.tw_base.specs.declared.history.tree_proof.Ask.TheVariants.{Present, Absent, Below, Above}
use Rattle.tw_base.specs.history.Auth.{tree_label}
use Rattle.tw_base.specs.kinds.Bytes.{AreBytes}
use Rattle.tw_base.specs.format.Codecs.{by_kind, bytes_codec, counted, many, number_codec, pair, seen, variant}
use Rattle.tw_base.specs.history.Entries.{entry_text}
use Rattle.tw_base.specs.kinds.Lists.{Each}
use Rattle.tw_base.specs.history.Tree.{IsRising, Tree, entries, height}
use Rattle.tw_base.specs.history.Tree.Tree.{Empty, Branch}
use Rattle.tw_base.proofs.lemmas.kinds.ListLemmas.{Each-append, Each-parts}
use Rattle.tw_base.specs.history.EntryCodec.{entry_codec}
use Rattle.tw_base.specs.history.TreeProofs.{IsSo, ancestor, ancestors_of, place_of_ask, proof_at, proof_of, way_up}
use Rattle.tw_base.specs.history.Ways.{IsNotAsked, climbed_tree, has_asked_key, is_left}
use Rattle.tw_base.proofs.lemmas.history.Ways.{at-ancestors, way-here, way-left, way-right}
use Rattle.tw_treeproof.specs.declared.limits.TheConstants.{MOST_ABOVE_PLACE}
use Rattle.tw_treeproof.specs.Answers.{Checks, IsAnswer, asks_entry, is_of_entry, place_text}
use Rattle.tw_treeproof.specs.Answers.{shown_answer}
use Rattle.tw_treeproof.specs.Codecs.{ancestor_codec, gap_codec, present_codec, tree_proof_codec}
use Rattle.tw_treeproof.proofs.Places.{IsAt, at-place}
use Rattle.tw_treeproof.proofs.Ways.{first-found, last-found, way-climbs, way-free}

module _ (dig : List ℕ → List ℕ) where
  at-kind : (ask : Ask) (place : Tree) (up : List Ancestor) → IsAt ask place → is_of_entry (proof_at dig place up)
      ≡ asks_entry ask
  at-kind (Present e) Empty up at = absurd at
  at-kind (Present e) (Branch l f r) up at = refl
  at-kind _ Empty up at = refl
  at-kind _ (Branch l f r) up at = absurd at

  at-label : (ask : Ask) (place : Tree) (up : List Ancestor) → IsAt ask place
      → dig (place_text ask (proof_at dig place up)) ≡ tree_label dig place
  unfolding tree_label
  at-label (Present e) Empty up at = absurd at
  at-label (Present e) (Branch l f r) up at = ap (λ x. dig (entry_text (tree_label dig l) x (tree_label dig r)))
      (sym at)
  at-label _ Empty up at = refl
  at-label _ (Branch l f r) up at = absurd at

  pub own-checks : (t : Tree) (ask : Ask) → IsRising (entries t) → IsSo (entries t) ask → Checks dig (tree_label dig t)
      ask (proof_of dig t ask)
  own-checks t ask rising so =
      let at = at-place t ask rising so in
      let same = at-ancestors dig (place_of_ask ask t) (way_up dig ask t) in
      record {
        kind = at-kind ask (place_of_ask ask t) (way_up dig ask t) at;
        free = subst (Each (IsNotAsked ask)) (sym same) (way-free dig ask t);
        label =
            ap (λ up. climbed_tree dig (is_left ask) up (dig (place_text ask (proof_of dig t ask)))) same
            ∙ ap (climbed_tree dig (is_left ask) (way_up dig ask t))
            (at-label ask (place_of_ask ask t) (way_up dig ask t) at)
            ∙ way-climbs dig ask t;
      }

  -- what the nodes above the place show is so of the entries
  pub way-answers : (t : Tree) (ask : Ask) → IsRising (entries t) → IsSo (entries t) ask → IsAnswer (entries t) ask
      (shown_answer ask (way_up dig ask t))
  way-answers t (Present e) rising so = so
  way-answers t (Absent key) rising so = so
  way-answers t (Below key) rising so = last-found dig key t rising
  way-answers t (Above key) rising so = first-found dig key t rising

  pub own-answers : (t : Tree) (ask : Ask) → IsRising (entries t) → IsSo (entries t) ask → IsAnswer (entries t) ask
      (shown_answer ask (ancestors_of (proof_of dig t ask)))
  own-answers t ask rising so =
      subst (λ up. IsAnswer (entries t) ask (shown_answer ask up))
      (sym (at-ancestors dig (place_of_ask ask t) (way_up dig ask t))) (way-answers t ask rising so)

  -- the way down to the place, and what is below it, is no longer than the tree is high
  way-short : (ask : Ask) (t : Tree) → length (way_up dig ask t) + height (place_of_ask ask t) ≤ height t
  unfolding way_up place_of_ask height
  way-short ask Empty = omega arith
  way-short ask (Branch l e r) = by (has_asked_key ask e) (is_left ask e) refl refl (way-short ask l) (way-short ask r)
    where
      Short : Tree → Type 0
      Short t = length (way_up dig ask t) + height (place_of_ask ask t) ≤ height t

      along : (up : List Ancestor) (place : Tree) → way_up dig ask (Branch l e r) ≡ up → place_of_ask ask (Branch l e r)
          ≡ place → length up + height place ≤ height (Branch l e r) → Short (Branch l e r)
      along up place ways places short = subst (λ u. length u + height (place_of_ask ask (Branch l e r)) ≤ height
          (Branch l e r)) (sym ways) (subst (λ p. length up + height p ≤ height (Branch l e r)) (sym places) short)

      -- past the node, down to that side of it
      past : (s other : Tree) → (way_up dig ask (Branch l e r) ≡ way_up dig ask s ++ ancestor dig e other ∷ [])
          × (place_of_ask ask (Branch l e r) ≡ place_of_ask ask s) → height s < height (Branch l e r) → Short s
          → Short (Branch l e r)
      past s other down lower short =
          along (way_up dig ask s ++ ancestor dig e other ∷ []) (place_of_ask ask s) down.0 down.1
          (omega (arith, short, lower, length-append (way_up dig ask s) (ancestor dig e other ∷ [])))

      by : (meets left : Bool) → has_asked_key ask e ≡ meets → is_left ask e ≡ left → Short l → Short r
          → Short (Branch l e r)
      by true left is way one other = let here = way-here dig ask l e r is in along [] (Branch l e r) here.0 here.1
          (omega arith)
      by false true is way one other =
          past l r (way-left dig ask l e r is way) (omega (arith, le-max_left (height l) (height r))) one
      by false false is way one other =
          past r l (way-right dig ask l e r is way) (omega (arith, le-max_right (height l) (height r))) other

  module _ (size : (text : List ℕ) → length (dig text) ≡ 32) (bytes : (text : List ℕ) → AreBytes (dig text)) where
    label-fits : (t : Tree) → (length (tree_label dig t) ≡ 32) × AreBytes (tree_label dig t)
    unfolding tree_label
    label-fits Empty = (size _, bytes _)
    label-fits (Branch l e r) = (size _, bytes _)

    node-fits : (e : Entry) (other : Tree) → entry_codec.Fits e → ancestor_codec.Fits (ancestor dig e other)
    unfolding ancestor_codec seen pair bytes_codec
    node-fits e other fits = (fits, label-fits other)

    way-fits : (ask : Ask) (t : Tree) → Each entry_codec.Fits (entries t) → Each ancestor_codec.Fits (way_up dig ask t)
    unfolding way_up
    way-fits ask Empty all = tt
    way-fits ask (Branch l e r) all =
        let parts = Each-parts entry_codec.Fits (entries l) (e ∷ entries r) all in
        by (has_asked_key ask e) (is_left ask e) refl refl (way-fits ask l parts.0) (way-fits ask r parts.1.1) parts.1.0
      where
        Fit : List Ancestor → Type 0
        Fit = Each ancestor_codec.Fits

        by : (meets left : Bool) → has_asked_key ask e ≡ meets → is_left ask e ≡ left → Fit (way_up dig ask l)
            → Fit (way_up dig ask r) → entry_codec.Fits e → Fit (way_up dig ask (Branch l e r))
        by true left is way one other here = subst Fit (sym (way-here dig ask l e r is).0) tt
        by false true is way one other here = subst Fit (sym (way-left dig ask l e r is way).0)
            (Each-append ancestor_codec.Fits (way_up dig ask l) (ancestor dig e r ∷ []) one (node-fits e r here, tt))
        by false false is way one other here = subst Fit (sym (way-right dig ask l e r is way).0)
            (Each-append ancestor_codec.Fits (way_up dig ask r) (ancestor dig e l ∷ []) other (node-fits e l here, tt))

    at-fits : (ask : Ask) (place : Tree) (up : List Ancestor) → IsAt ask place → length up + height place
        ≤ MOST_ABOVE_PLACE → Each ancestor_codec.Fits up → (tree_proof_codec (asks_entry ask)).Fits
        (proof_at dig place up)
    unfolding present_codec gap_codec variant by_kind counted pair many number_codec bytes_codec height
    at-fits (Present e) Empty up at short all = absurd at
    at-fits (Present e) (Branch l f r) up at short all =
        (refl, ((omega arith, omega (arith, short)), (label-fits l, (label-fits r, (refl, all)))))
    at-fits (Absent key) Empty up at short all = (refl, ((omega arith, omega (arith, short)), (refl, all)))
    at-fits (Absent key) (Branch l f r) up at short all = absurd at
    at-fits (Below key) Empty up at short all = (refl, ((omega arith, omega (arith, short)), (refl, all)))
    at-fits (Below key) (Branch l f r) up at short all = absurd at
    at-fits (Above key) Empty up at short all = (refl, ((omega arith, omega (arith, short)), (refl, all)))
    at-fits (Above key) (Branch l f r) up at short all = absurd at

    pub own-fits : (t : Tree) (ask : Ask) → IsRising (entries t) → IsSo (entries t) ask → height t ≤ MOST_ABOVE_PLACE
        → Each entry_codec.Fits (entries t)
        → (tree_proof_codec (asks_entry ask)).Fits (proof_of dig t ask)
    own-fits t ask rising so low all =
        at-fits ask (place_of_ask ask t) (way_up dig ask t) (at-place t ask rising so)
        (omega (arith, way-short ask t, low)) (way-fits ask t all)
