-- One node down from the root of a tree in slots.
use Rattle.std.proofs.Common.{◌≡◌, ◌≢◌, ℕ, ◌+◌, ◌<◌, ◌≤◌, Bool, true, false, Option, Some, refl, sym, ap, ◌∙◌, ◌⊎◌, inl}
use Rattle.std.proofs.Common.{inr, arith}
use Rattle.std.specs.Prelude.{◌==◌, nat_lt}
use Rattle.std.proofs.Math.Nat.{le-max_left, le-max_right}
use Rattle.std.proofs.lemmas.Option.{same_Some}
use Rattle.tw_rbnode.specs.declared.links.Link.{Link}
use Rattle.tw_rbnode.specs.Shape.{Shape, Empty, Node, depth, size}
use Rattle.tw_rbnode.specs.Slots.{slot_of, link, At, IsTree, below_at}
use Rattle.tw_rbnode.proofs.Places.{seen, left_tree, right_tree}

-- the root, and both sides
pub record Parts (f : ℕ → Option Link) (low : ℕ) (t : Shape) (at : ℕ) (node : Link) : Type 0 where
  pub red : Bool
  pub left : Shape
  pub right : Shape
  pub is : t ≡ Node red left right
  pub sized : size t ≡ size left + 1 + size right
  pub at_is : at ≡ low + size left + 1
  pub left_deep : depth left < depth t
  pub right_deep : depth right < depth t
  pub left_tree : IsTree f low left node.left
  pub right_tree : IsTree f at right node.right

pub parts : (f : ℕ → Option Link) (low : ℕ) (t : Shape) (at : ℕ) (node : Link) → IsTree f low t at → at ≢ 0
    → f at ≡ Some node → Parts f low t at node
parts f low Empty at node tree some e = absurd (some tree.top_is)
parts f low (Node red l r) at node tree some e = record {
  red = red;
  left = l;
  right = r;
  is = refl;
  sized = refl;
  at_is = (seen f low red l r at node tree e).at_is;
  left_deep = omega (arith, le-max_left (depth l) (depth r));
  right_deep = omega (arith, le-max_right (depth l) (depth r));
  left_tree = left_tree f low red l r at node tree e;
  right_tree = right_tree f low red l r at node tree e;
}

-- slot 0 is the root of no node
pub no_node : (f : ℕ → Option Link) (low : ℕ) (t : Shape) (at : ℕ) → IsTree f low t at → at ≡ 0 → t ≡ Empty
no_node f low Empty at tree none = refl
no_node f low (Node red l r) at tree none = absurd (let e : at ≡ low + size l + 1 = tree.top_is in omega arith)

-- a tree with slots has a root
pub has_node : (f : ℕ → Option Link) (low : ℕ) (t : Shape) (at : ℕ) → IsTree f low t at → 0 < size t → at ≢ 0
has_node f low Empty at tree some none = absurd (omega arith)
has_node f low (Node red l r) at tree some none = let e : at ≡ low + size l + 1 = tree.top_is in omega arith

pub within : (f : ℕ → Option Link) (low : ℕ) (t : Shape) (at : ℕ) → IsTree f low t at → at ≢ 0 → (low < at)
    × (at ≤ low + size t)
within f low Empty at tree some = absurd (some tree.top_is)
within f low (Node red l r) at tree some = let e : at ≡ low + size l + 1 = tree.top_is in (omega arith, omega arith)

module _ (slot n : ℕ) where
  pub same : slot ≡ n → (slot == n) ≡ true
  same e = grind arith

  pub other : slot ≢ n → (slot == n) ≡ false
  other e = grind arith

  pub before : slot < n → nat_lt slot n ≡ true
  before e = grind arith

  pub not_before : n ≤ slot → nat_lt slot n ≡ false
  not_before e = grind arith

pub below-reads : (f : ℕ → Option Link) (slot base : ℕ) (t : Shape) (node : Link) → At f base t → base < slot
    → slot ≤ base + size t → f slot ≡ Some node → (node.left, node.right) ≡ below_at slot base t
unfolding below_at
below-reads f slot base Empty node at low high e = absurd (omega arith)
below-reads f slot base (Node red l r) node at low high e =
    let m = base + size l + 1 in
    let cases : (slot ≡ base + size l + 1) ⊎ (slot < base + size l + 1) ⊎ (base + size l + 1 < slot) = grind arith in
    elim cases [
      | inl h ↦
          let x : link red (slot_of base l) (slot_of (base + size l + 1) r) ≡ node =
          same_Some _ _ (sym at.0 ∙ ap f (sym h) ∙ e) in
          rw (same slot (base + size l + 1) h) (λ k. ((sym x k).left, (sym x k).right))
      | inr two ↦ elim two [
        | inl h ↦
            rw (other slot (base + size l + 1) (omega (arith, h)))
            (rw (before slot (base + size l + 1) h) (below-reads f slot base l node at.1 low (omega (arith, h)) e))
        | inr h ↦
            rw (other slot (base + size l + 1) (omega (arith, h)))
            (rw (not_before slot (base + size l + 1) (omega (arith, h))) (below-reads f slot (base + size l + 1) r node
            at.2 h (omega (arith, high)) e))
      ]
    ]
