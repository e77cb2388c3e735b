-- A new slot among the slots of a tree.
use Rattle.std.proofs.Common.{◌≡◌, ◌≢◌, ℕ, ◌+◌, ◌<◌, ◌≤◌, Bool, false, Option, Some, refl, sym, ap, ◌∙◌, subst, ◌⊎◌}
use Rattle.std.proofs.Common.{inl, inr, arith}
use Rattle.tw_rbnode.specs.declared.links.Link.{Link}
use Rattle.tw_rbnode.specs.Shape.{Shape, Empty, Node, size, blacken, grown_shape}
use Rattle.tw_rbnode.specs.Slots.{slot_of, link, At, IsTree, bump, bumped, Gap, IsGap}
use Rattle.tw_rbnode.proofs.Places.{At-frame, at_node, seen}
use Rattle.tw_rbnode.proofs.Growing.{bump_before, bump_behind}
use Rattle.tw_rbnode.proofs.RedBlack.{size_grown}

-- the links of f stand in g, where the new slot leaves them
abbrev pub Opens : (f g : ℕ → Option Link) → ℕ → Type 0
Opens f g place = (k : ℕ) (x : Link) → k < 25 → f k ≡ Some x → x.left < 255 → x.right < 255 → g (bump place k) ≡ Some
    (bumped place x)

slot_most : (base : ℕ) (t : Shape) → slot_of base t ≤ base + size t
slot_most base Empty = omega arith
slot_most base (Node red l r) = omega arith

slot_low : (place base : ℕ) (t : Shape) → base + size t ≤ place → bump place (slot_of base t) ≡ slot_of base t
slot_low place base t h = bump_before place (slot_of base t) (omega (arith, slot_most base t))

slot_high : (place base : ℕ) (t : Shape) → place ≤ base → bump place (slot_of base t) ≡ slot_of (base + 1) t
slot_high place base Empty h = bump_before place 0 (omega arith)
slot_high place base (Node red l r) h = omega (arith, bump_behind place (base + size l + 1) (omega arith))

node_opened : (f g : ℕ → Option Link) (place base : ℕ) (red : Bool) (l r : Shape) → Opens f g place
    → At f base (Node red l r) → base + (size l + 1 + size r) < 25 →
    g (bump place (base + size l + 1)) ≡ Some
    (link red (bump place (slot_of base l)) (bump place (slot_of (base + size l + 1) r)))
node_opened f g place base red l r opens h room =
    opens (base + size l + 1) _ (omega arith) h.0 (omega (arith, slot_most base l))
    (omega (arith, slot_most (base + size l + 1) r))

pub low_opened : (f g : ℕ → Option Link) (place base : ℕ) (t : Shape) → Opens f g place → At f base t
    → base + size t < 25 → base + size t ≤ place → At g base t
low_opened f g place base Empty opens h room low = tt
low_opened f g place base (Node red l r) opens h room low =
    let el = slot_low place base l (omega arith) in
    let er = slot_low place (base + size l + 1) r (omega arith) in
    let e = bump_before place (base + size l + 1) (omega arith) in
    at_node g base red l r (base + size l + 1) _ _ refl el er (ap g (sym e) ∙ node_opened f g place base red l r opens h
    room)
    (low_opened f g place base l opens h.1 (omega arith) (omega arith)) (low_opened f g place (base + size l + 1) r
    opens h.2 (omega arith) (omega arith))

pub high_opened : (f g : ℕ → Option Link) (place base : ℕ) (t : Shape) → Opens f g place → At f base t
    → base + size t < 25 → place ≤ base → At g (base + 1) t
high_opened f g place base Empty opens h room high = tt
high_opened f g place base (Node red l r) opens h room high =
    let el = slot_high place base l high in
    let er = slot_high place (base + size l + 1) r (omega arith) in
    let e : bump place (base + size l + 1) ≡ base + size l + 1 + 1 = bump_behind place (base + size l + 1)
    (omega arith) in
    at_node g (base + 1) red l r (base + size l + 1 + 1) _ _ (omega arith) el er
    (ap g (sym e) ∙ node_opened f g place base red l r opens h room)
    (high_opened f g place base l opens h.1 (omega arith) high) (high_opened f g place (base + size l + 1) r opens h.2
    (omega arith) (omega arith))

pub gap_opened : (f g : ℕ → Option Link) (place base : ℕ) (t : Shape) → Opens f g place → At f base t
    → base + size t < 25 → base ≤ place → place ≤ base + size t → Gap g place base t
gap_opened f g place base Empty opens h room first last = tt
gap_opened f g place base (Node red l r) opens h room first last =
    let node = node_opened f g place base red l r opens h room in
    let cases : (place ≤ base + size l) ⊎ (base + size l < place) = grind arith in
    elim cases [
      | inl near ↦
          let e : bump place (base + size l + 1) ≡ base + size l + 2 =
          omega (arith, bump_behind place (base + size l + 1) (omega arith)) in
          let there : base + size l + 1 + 1 ≡ base + size l + 2 = omega arith in
          let P : ℕ → Type 0 = λ k. At g k r in
          inl (
            near,
            ap g (sym e) ∙ node ∙ ap (λ u. Some (link red (bump place (slot_of base l)) u))
                (slot_high place (base + size l + 1) r (omega arith) ∙ ap (λ k. slot_of k r) there),
            gap_opened f g place base l opens h.1 (omega arith) first near,
            subst P there (high_opened f g place (base + size l + 1) r opens h.2 (omega arith) (omega arith)),
          )
      | inr far ↦
          let e : bump place (base + size l + 1) ≡ base + size l + 1 = bump_before place (base + size l + 1)
          (omega arith) in
          inr (
            far,
            ap g (sym e) ∙ node ∙ ap (λ u. Some (link red u (bump place (slot_of (base + size l + 1) r))))
                (slot_low place base l (omega arith)),
            low_opened f g place base l opens h.1 (omega arith) (omega arith),
            gap_opened f g place (base + size l + 1) r opens h.2 (omega arith) (omega arith) (omega arith),
          )
    ]

pub opened_gap : (f g : ℕ → Option Link) (t : Shape) (top count place : ℕ) → IsTree f 0 t top → size t ≡ count
    → Opens f g place → count < 25 → place ≤ count → IsGap g 0 count t (bump place top) place
opened_gap f g t top count place tree sized opens room there =
    let zero_is : bump place 0 ≡ 0 = bump_before place 0 (omega arith) in
    record {
      blank = ap g (sym zero_is) ∙ opens 0 _ (omega arith) tree.blank (omega arith) (omega arith)
          ∙ ap (λ k. Some (link false k k)) zero_is;
      top_is = ap (bump place) tree.top_is;
      from_low = omega arith;
      to_high = there;
      high_is = omega arith;
      room = room;
      gap = gap_opened f g place 0 t opens tree.at (omega arith) (omega arith) (omega arith);
    }

-- a black root
pub blackened : (f g : ℕ → Option Link) (base : ℕ) (t : Shape) (top : ℕ) (x : Link) → IsTree f base t top → 0 < top
    → f top ≡ Some x → g top ≡ Some (link false x.left x.right) → ((k : ℕ) → k ≢ top → g k ≡ f k)
    → IsTree g base (blacken t) top
blackened f g base Empty top x tree some e there others = absurd (let none : top ≡ 0 = tree.top_is in omega arith)
blackened f g base (Node red l r) top x tree some e there others =
    let s = seen f base red l r top x tree e in
    let top_is : top ≡ base + size l + 1 = s.at_is in
    record {
      blank = others 0 (omega arith) ∙ tree.blank;
      top_is = tree.top_is;
      at = at_node g base false l r top x.left x.right s.at_is s.left_is s.right_is there
          (At-frame f g base l s.at_left (λ k p q. others k (omega arith)))
          (At-frame f g top r s.at_right (λ k p q. others k (omega arith)));
    }

pub slot_some : (base : ℕ) (t : Shape) → 0 < size t → base < slot_of base t
slot_some base Empty h = absurd (omega arith)
slot_some base (Node red l r) h = omega arith

pub grown_top : (f : ℕ → Option Link) (p : ℕ) (t : Shape) (top : ℕ) → IsTree f 0 (grown_shape p t) top → 0 < top
grown_top f p t top tree = omega (arith, slot_some 0 (grown_shape p t) (omega (arith, size_grown p t)), tree.top_is)
