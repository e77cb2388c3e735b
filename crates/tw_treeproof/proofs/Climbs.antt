-- The loops over the ancestors: that which computes a tree's label upwards, and that which looks for the asked key.
use Rattle.std.proofs.Common.{◌≡◌, ℕ, ◌+◌, ◌<◌, ◌≤◌, List, ◌∷◌, length, drop, get_or, refl, ap, sym, ◌∙◌, subst}
use Rattle.std.proofs.lemmas.List.{drop_all, drop_more}
use Rattle.tw_base.specs.declared.history.tree_proof.Ancestor.{Ancestor}
use Rattle.tw_base.specs.declared.history.tree_proof.Ask.{Ask}
use Rattle.tw_base.specs.history.Entries.{IsFit}
use Rattle.tw_base.specs.kinds.Bytes.{HasBytes}
use Rattle.tw_base.specs.kinds.Lists.{Each}
use Rattle.tw_base.specs.history.Ways.{IsNotAsked, climbed_tree, is_left, over_text}
use Rattle.tw_treeproof.specs.Sizes.{HaveSizes}

rest-from : (up : List Ancestor) (i : ℕ) (a : Ancestor) → i < length up → a ≡ get_or up i a → drop i up ≡ a ∷ drop
    (i + 1) up
rest-from up i a l is = drop_more up i a l ∙ ap (λ x. x ∷ drop (i + 1) up) (sym is)

module _ (dig : List ℕ → List ℕ) (ask : Ask) (up : List Ancestor) (place : List ℕ) where
  -- the ancestors before the i-th are climbed
  pub record Climbing (i : ℕ) (reached : List ℕ) : Type 0 where
    pub label : climbed_tree dig (is_left ask) (drop i up) reached ≡ climbed_tree dig (is_left ask) up place
    pub sizes : HaveSizes (drop i up) → HaveSizes up

  pub begins : Climbing 0 place
  begins = record { label = refl; sizes = λ all. all }

  pub climbs : (i : ℕ) (label : List ℕ) (a : Ancestor) → i < length up → a ≡ get_or up i a → Climbing i label
      → (above : List ℕ) → HasBytes 32 a.other → IsFit a.entry → above ≡ dig (over_text (is_left ask) a label)
      → Climbing (i + 1) above
  unfolding climbed_tree
  climbs i label a l is so_far above other fits made =
      let rest = rest-from up i a l is in
      let Q : List Ancestor → Type 0 = HaveSizes in
      record {
        label = ap (climbed_tree dig (is_left ask) (drop (i + 1) up)) made
            ∙ ap (λ x. climbed_tree dig (is_left ask) x label) (sym rest) ∙ so_far.label;
        sizes = λ all. so_far.sizes (subst Q (sym rest) ((other, fits), all));
      }

  pub climbed_all : (i : ℕ) (label : List ℕ) → length up ≤ i → Climbing i label
      → (label ≡ climbed_tree dig (is_left ask) up place) × HaveSizes up
  unfolding climbed_tree
  climbed_all i label l so_far =
      let none = drop_all i up l in
      let Q : List Ancestor → Type 0 = HaveSizes in (
        ap (λ x. climbed_tree dig (is_left ask) x label) (sym none) ∙ so_far.label,
        so_far.sizes (subst Q (sym none) tt),
      )

module _ (ask : Ask) (up : List Ancestor) where
  -- none of the ancestors before the i-th has the asked key
  pub record Freeing (i : ℕ) : Type 0 where
    pub free : Each (IsNotAsked ask) (drop i up) → Each (IsNotAsked ask) up
    pub each : Each (IsNotAsked ask) up → Each (IsNotAsked ask) (drop i up)

  pub none_before : Freeing 0
  none_before = record { free = λ all. all; each = λ all. all }

  module _ (i : ℕ) (a : Ancestor) (l : i < length up) (is : a ≡ get_or up i a) (so_far : Freeing i) where
    abbrev P : List Ancestor → Type 0
    P = Each (IsNotAsked ask)

    pub not_free : (IsNotAsked ask a → ⊥) → Each (IsNotAsked ask) up → ⊥
    not_free never all = never (subst P (rest-from up i a l is) (so_far.each all)).0

    pub frees : IsNotAsked ask a → Freeing (i + 1)
    frees free = record {
      free = λ all. so_far.free (subst P (sym (rest-from up i a l is)) (free, all));
      each = λ all. (subst P (rest-from up i a l is) (so_far.each all)).1;
    }

  pub all_free : (i : ℕ) → length up ≤ i → Freeing i → Each (IsNotAsked ask) up
  all_free i l so_far =
      let P : List Ancestor → Type 0 = Each (IsNotAsked ask) in
      so_far.free (subst P (sym (drop_all i up l)) tt)
