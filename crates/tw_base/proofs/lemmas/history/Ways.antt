-- The ways down from a node of a tree, and the nodes that a proof of a place has above it.
use Rattle.std.proofs.Common.{◌≡◌, ℕ, List, [], ◌∷◌, ◌++◌, Bool, true, false, refl, ap, ◌∙◌}
use Rattle.std.specs.Prelude.{if◌then◌else◌}
use Rattle.tw_base.specs.declared.history.thread.Entry.{Entry}
use Rattle.tw_base.specs.declared.history.tree_proof.Ancestor.{Ancestor}
use Rattle.tw_base.specs.declared.history.tree_proof.Ask.{Ask}
use Rattle.tw_base.specs.history.Tree.{Tree}
use Rattle.tw_base.specs.history.Tree.Tree.{Empty, Branch}
use Rattle.tw_base.specs.history.TreeProofs.{ancestor, ancestors_of, place_of_ask, proof_at, way_up}
use Rattle.tw_base.specs.history.Ways.{has_asked_key, is_left}

-- one step down
abbrev pub step_down : {X : Type 0} → (meets left : Bool) (here one other : X) → X
step_down meets left here one other = if meets then here else (if left then one else other)

pub down-here : {X : Type 0} (meets left : Bool) (here one other : X) → meets ≡ true → step_down meets left here one
    other ≡ here
down-here meets left here one other is = ap (λ b. step_down b left here one other) is

pub down-left : {X : Type 0} (meets left : Bool) (here one other : X) → meets ≡ false → left ≡ true
    → step_down meets left here one other ≡ one
down-left meets left here one other is way = ap (λ b. step_down b left here one other) is
    ∙ ap (λ b. if b then one else other) way

pub down-right : {X : Type 0} (meets left : Bool) (here one other : X) → meets ≡ false → left ≡ false
    → step_down meets left here one other ≡ other
down-right meets left here one other is way = ap (λ b. step_down b left here one other) is
    ∙ ap (λ b. if b then one else other) way

module _ (dig : List ℕ → List ℕ) where
  -- the ways down from a node
  module _ (ask : Ask) (l : Tree) (e : Entry) (r : Tree) where
    pub way-here : has_asked_key ask e ≡ true → (way_up dig ask (Branch l e r) ≡ [])
        × (place_of_ask ask (Branch l e r) ≡ Branch l e r)
    unfolding way_up place_of_ask
    way-here is = (down-here _ (is_left ask e) _ _ _ is, down-here _ (is_left ask e) _ _ _ is)

    pub way-left : has_asked_key ask e ≡ false → is_left ask e ≡ true
        → (way_up dig ask (Branch l e r) ≡ way_up dig ask l ++ ancestor dig e r ∷ [])
        × (place_of_ask ask (Branch l e r) ≡ place_of_ask ask l)
    unfolding way_up place_of_ask
    way-left is way = (down-left _ _ _ _ _ is way, down-left _ _ _ _ _ is way)

    pub way-right : has_asked_key ask e ≡ false → is_left ask e ≡ false
        → (way_up dig ask (Branch l e r) ≡ way_up dig ask r ++ ancestor dig e l ∷ [])
        × (place_of_ask ask (Branch l e r) ≡ place_of_ask ask r)
    unfolding way_up place_of_ask
    way-right is way = (down-right _ _ _ _ _ is way, down-right _ _ _ _ _ is way)

  pub at-ancestors : (place : Tree) (up : List Ancestor) → ancestors_of (proof_at dig place up) ≡ up
  at-ancestors Empty up = refl
  at-ancestors (Branch l e r) up = refl
