-- A node more in the slots.
use Rattle.std.proofs.Common.{◌≡◌, ◌≢◌, ℕ, ◌+◌, ◌-◌, ◌<◌, ◌≤◌, Bool, true, false, cond, Option, Some, refl, sym, ap}
use Rattle.std.proofs.Common.{◌∙◌, subst, inl, inr, arith, nat_le}
use Rattle.std.proofs.lemmas.Option.{same_Some}
use Rattle.std.proofs.lemmas.Bool.{le-leb, lt-leb}
use Rattle.tw_rbnode.specs.declared.links.Link.{Link}
use Rattle.tw_rbnode.specs.Shape.{Shape, Empty, Node, size, is_red, recoloured, join_left, join_right, grown_shape}
use Rattle.tw_rbnode.specs.Slots.{slot_of, link, At, SameOutside, IsTree, bump, Gap, IsGap}
use Rattle.tw_rbnode.proofs.Places.{At-frame, at_node, seen, left_tree, right_tree, JoinsLeft, JoinsRight, no_way}
use Rattle.tw_rbnode.proofs.RedBlack.{size_grown}

pub bump_before : (place slot : ℕ) → slot ≤ place → bump place slot ≡ slot
bump_before place slot h = let e : nat_le slot place ≡ true = le-leb slot place h in rw e refl

pub bump_behind : (place slot : ℕ) → place < slot → bump place slot ≡ slot + 1
bump_behind place slot h = let e : nat_le slot place ≡ false = lt-leb slot place h in rw e refl

-- three links set, one after the other
pub three_set : (f g1 g2 g3 : ℕ → Option Link) (x y z : ℕ) (a b c : Option Link) → x ≢ y → x ≢ z → y ≢ z →
    g1 x ≡ a → ((k : ℕ) → k ≢ x → g1 k ≡ f k) → g2 y ≡ b → ((k : ℕ) → k ≢ y → g2 k ≡ g1 k) → g3 z ≡ c
    → ((k : ℕ) → k ≢ z → g3 k ≡ g2 k) →
    (g3 x ≡ a) × (g3 y ≡ b) × (g3 z ≡ c) × ((k : ℕ) → k ≢ x → k ≢ y → k ≢ z → g3 k ≡ f k)
three_set f g1 g2 g3 x y z a b c xy xz yz ea oa eb ob ec oc =
    (oc x xz ∙ ob x xy ∙ ea, oc y yz ∙ eb, ec, λ k kx ky kz. oc k kz ∙ ob k ky ∙ oa k kx)

pub recoloured_at : (f g1 g2 g : ℕ → Option Link) (base : ℕ) (l r : Shape) (at : ℕ) (node left right : Link)
    → IsTree f base (Node false l r) at →
    f at ≡ Some node → f node.left ≡ Some left → f node.right ≡ Some right → is_red l ≡ true → is_red r ≡ true →
    g1 at ≡ Some (link true node.left node.right) → ((k : ℕ) → k ≢ at → g1 k ≡ f k) →
    g2 node.left ≡ Some (link false left.left left.right) → ((k : ℕ) → k ≢ node.left → g2 k ≡ g1 k) →
    g node.right ≡ Some (link false right.left right.right) → ((k : ℕ) → k ≢ node.right → g k ≡ g2 k) →
    IsTree g base (recoloured l r) at × SameOutside f g base (base + size l + 1 + size r)
recoloured_at f g1 g2 g base Empty r at node left right tree n e1 e2 rl rr ea oa eb ob ec oc = no_way (sym rl)
recoloured_at f g1 g2 g base (Node false a b) r at node left right tree n e1 e2 rl rr ea oa eb ob ec oc =
    no_way (sym rl)
recoloured_at f g1 g2 g base (Node true a b) Empty at node left right tree n e1 e2 rl rr ea oa eb ob ec oc =
    no_way (sym rr)
recoloured_at f g1 g2 g base (Node true a b) (Node false u v) at node left right tree n e1 e2 rl rr ea oa eb ob ec oc =
    no_way (sym rr)
recoloured_at f g1 g2 g base (Node true a b) (Node true u v) at node left right tree n e1 e2 rl rr ea oa eb ob ec oc =
    let s = seen f base false (Node true a b) (Node true u v) at node tree n in
    let lt = left_tree f base false (Node true a b) (Node true u v) at node tree n in
    let rt = right_tree f base false (Node true a b) (Node true u v) at node tree n in
    let sl = seen f base true a b node.left left lt e1 in
    let sr = seen f at true u v node.right right rt e2 in
    let at_is : at ≡ base + (size a + 1 + size b) + 1 = s.at_is in
    let x_is : node.left ≡ base + size a + 1 = sl.at_is in
    let y_is : node.right ≡ at + size u + 1 = sr.at_is in
    let all = three_set f g1 g2 g at node.left node.right _ _ _ (omega arith) (omega arith) (omega arith) ea oa eb ob ec
    oc in
    let others = all.3 in
    let at_a : At g base a = At-frame f g base a sl.at_left (λ k p q. others k (omega arith) (omega arith)
    (omega arith)) in
    let at_b : At g node.left b = At-frame f g node.left b sl.at_right (λ k p q. others k (omega arith) (omega arith)
    (omega arith)) in
    let at_u : At g at u = At-frame f g at u sr.at_left (λ k p q. others k (omega arith) (omega arith) (omega arith)) in
    let at_v : At g node.right v = At-frame f g node.right v sr.at_right (λ k p q. others k (omega arith) (omega arith)
    (omega arith)) in (
      record {
        blank = others 0 (omega arith) (omega arith) (omega arith) ∙ tree.blank;
        top_is = tree.top_is;
        at = at_node g base true (Node false a b) (Node false u v) at node.left node.right s.at_is x_is y_is all.0
            (at_node g base false a b node.left left.left left.right x_is sl.left_is sl.right_is all.1 at_a at_b)
            (at_node g at false u v node.right right.left right.right y_is sr.left_is sr.right_is all.2 at_u at_v);
      },
      λ k. elim [
        | inl low ↦ others k (omega arith) (omega arith) (omega arith)
        | inr high ↦ others k (omega arith) (omega arith) (omega arith)
      ],
    )

abbrev pub Grows : (f g : ℕ → Option Link) (low high : ℕ) (t : Shape) (place top : ℕ) → Type 0
Grows f g low high t place top = IsTree g low (grown_shape (place - low) t) top × SameOutside f g low (high + 1)

-- what a node above the gap tells, where the place is on its left side
pub record OnLeft (f : ℕ → Option Link) (low high : ℕ) (red : Bool) (l r : Shape) (at place : ℕ) (node : Link) : Type
    0 where
  pub at_is : at ≡ low + size l + 2
  pub red_is : red ≡ node.red
  pub gap : IsGap f low (at - 2) l node.left place
  pub right_is : node.right ≡ slot_of at r
  pub at_right : At f at r

pub record OnRight (f : ℕ → Option Link) (low high : ℕ) (red : Bool) (l r : Shape) (at place : ℕ) (node : Link) : Type
    0 where
  pub at_is : at ≡ low + size l + 1
  pub red_is : red ≡ node.red
  pub gap : IsGap f at high r node.right place
  pub left_is : node.left ≡ slot_of low l
  pub at_left : At f low l

pub on_left : (f : ℕ → Option Link) (low high : ℕ) (red : Bool) (l r : Shape) (at place : ℕ) (node : Link)
    → IsGap f low high (Node red l r) at place →
    f at ≡ Some node → place < at → OnLeft f low high red l r at place node
on_left f low high red l r at place node gap n before =
    let top : at ≡ bump place (low + size l + 1) = gap.top_is in
    let first : low ≤ place = gap.from_low in
    let whole : high ≡ low + (size l + 1 + size r) = gap.high_is in
    let room : high < 25 = gap.room in
    elim gap.gap [
      | inl g ↦
          let near : place ≤ low + size l = g.0 in
          let at_is : at ≡ low + size l + 2 = omega (arith, bump_behind place (low + size l + 1) (omega arith)) in
          let same : link red (bump place (slot_of low l)) (slot_of (low + size l + 2) r) ≡ node =
          same_Some _ _ (sym g.1 ∙ ap f (sym at_is) ∙ n) in
          let P : ℕ → Type 0 = λ k. At f k r in
          record {
            at_is = at_is;
            red_is = ap (λ (y : Link). y.red) same;
            gap = record {
              blank = gap.blank;
              top_is = ap (λ (y : Link). y.left) (sym same);
              from_low = first;
              to_high = omega arith;
              high_is = omega arith;
              room = omega arith;
              gap = g.2;
            };
            right_is = ap (λ (y : Link). y.right) (sym same) ∙ ap (λ k. slot_of k r) (sym at_is);
            at_right = subst P (sym at_is) g.3;
          }
      | inr g ↦ absurd (let far : low + size l < place = g.0 in
          omega (arith, bump_before place (low + size l + 1) (omega arith)))
    ]

pub on_right : (f : ℕ → Option Link) (low high : ℕ) (red : Bool) (l r : Shape) (at place : ℕ) (node : Link)
    → IsGap f low high (Node red l r) at place →
    f at ≡ Some node → at ≤ place → OnRight f low high red l r at place node
on_right f low high red l r at place node gap n before =
    let top : at ≡ bump place (low + size l + 1) = gap.top_is in
    let last : place ≤ high = gap.to_high in
    let whole : high ≡ low + (size l + 1 + size r) = gap.high_is in
    let room : high < 25 = gap.room in
    elim gap.gap [
      | inl g ↦ absurd (let near : place ≤ low + size l = g.0 in
          omega (arith, bump_behind place (low + size l + 1) (omega arith)))
      | inr g ↦
          let far : low + size l < place = g.0 in
          let at_is : at ≡ low + size l + 1 = omega (arith, bump_before place (low + size l + 1) (omega arith)) in
          let same : link red (slot_of low l) (bump place (slot_of (low + size l + 1) r)) ≡ node =
          same_Some _ _ (sym g.1 ∙ ap f (sym at_is) ∙ n) in
          let P : ℕ → Type 0 = λ k. Gap f place k r in
          record {
            at_is = at_is;
            red_is = ap (λ (y : Link). y.red) same;
            gap = record {
              blank = gap.blank;
              top_is = ap (λ (y : Link). y.right) (sym same) ∙ ap (λ k. bump place (slot_of k r)) (sym at_is);
              from_low = before;
              to_high = last;
              high_is = omega arith;
              room = room;
              gap = subst P (sym at_is) g.3;
            };
            left_is = ap (λ (y : Link). y.left) (sym same);
            at_left = g.2;
          }
    ]

-- the node is there: its slot isn't 0
pub gap_node : (f : ℕ → Option Link) (low high : ℕ) (t : Shape) (at place : ℕ) → IsGap f low high t at place → at ≢ 0 →
    (red : Bool) × (l : Shape) × (r : Shape) × IsGap f low high (Node red l r) at place
gap_node f low high Empty at place gap some = absurd (some (gap.top_is ∙ bump_before place 0 (omega arith)))
gap_node f low high (Node red l r) at place gap some = (red, l, r, gap)

-- the left side has grown, and the node leads to it: a tree to be mended
pub left_joined : (f f1 f2 : ℕ → Option Link) (low high : ℕ) (red : Bool) (l r : Shape) (at place left : ℕ)
    (node : Link) →
    IsGap f low high (Node red l r) at place → f at ≡ Some node → place < at →
    ((t : Shape) → IsGap f low (at - 2) t node.left place → Grows f f1 low (at - 2) t place left) →
    f2 at ≡ Some (link node.red left node.right) → ((k : ℕ) → k ≢ at → f2 k ≡ f1 k)
    → IsTree f2 low (Node red (grown_shape (place - low) l) r) at
left_joined f f1 f2 low high red l r at place left node gap n before call there others =
    let o = on_left f low high red l r at place node gap n before in
    let done = call l o.gap in
    let more : size (grown_shape (place - low) l) ≡ size l + 1 = size_grown (place - low) l in
    let at_is : at ≡ low + size l + 2 = o.at_is in
    let at_here : at ≡ low + size (grown_shape (place - low) l) + 1 = omega arith in
    record {
      blank = others 0 (omega arith) ∙ done.0.blank;
      top_is = at_here;
      at = at_node f2 low red (grown_shape (place - low) l) r at left node.right at_here done.0.top_is o.right_is
          (there ∙ ap (λ b. Some (link b left node.right)) (sym o.red_is))
          (At-frame f1 f2 low (grown_shape (place - low) l) done.0.at (λ k p q. others k (omega arith)))
          (At-frame f f2 at r o.at_right (λ k p q. others k (omega arith) ∙ done.1 k (inr (omega arith))));
    }

pub right_joined : (f f1 f2 : ℕ → Option Link) (low high : ℕ) (red : Bool) (l r : Shape) (at place right : ℕ)
    (node : Link) →
    IsGap f low high (Node red l r) at place → f at ≡ Some node → at ≤ place →
    ((t : Shape) → IsGap f at high t node.right place → Grows f f1 at high t place right) →
    f2 at ≡ Some (link node.red node.left right) → ((k : ℕ) → k ≢ at → f2 k ≡ f1 k)
    → IsTree f2 low (Node red l (grown_shape (place - at) r)) at
right_joined f f1 f2 low high red l r at place right node gap n before call there others =
    let o = on_right f low high red l r at place node gap n before in
    let done = call r o.gap in
    let at_is : at ≡ low + size l + 1 = o.at_is in
    record {
      blank = others 0 (omega arith) ∙ done.0.blank;
      top_is = at_is;
      at = at_node f2 low red l (grown_shape (place - at) r) at node.left right at_is o.left_is done.0.top_is
          (there ∙ ap (λ b. Some (link b node.left right)) (sym o.red_is))
          (At-frame f f2 low l o.at_left (λ k p q. others k (omega arith) ∙ done.1 k (inl (omega arith))))
          (At-frame f1 f2 at (grown_shape (place - at) r) done.0.at (λ k p q. others k (omega arith)));
    }

pub grows_left : (f f1 f2 f3 : ℕ → Option Link) (low high : ℕ) (t : Shape) (at place left result : ℕ) (node : Link) →
    IsGap f low high t at place → at ≢ 0 → f at ≡ Some node → place < at →
    ((t : Shape) → IsGap f low (at - 2) t node.left place → Grows f f1 low (at - 2) t place left) →
    f2 at ≡ Some (link node.red left node.right) → ((k : ℕ) → k ≢ at → f2 k ≡ f1 k) →
    ((base : ℕ) (red : Bool) (l r : Shape) → IsTree f2 base (Node red l r) at → JoinsLeft f2 f3 base red l r result) →
    Grows f f3 low high t place result
grows_left f f1 f2 f3 low high Empty at place left result node gap some n before call there others mend =
    absurd (some (gap.top_is ∙ bump_before place 0 (omega arith)))
grows_left f f1 f2 f3 low high (Node red l r) at place left result node gap some n before call there others mend =
    let o = on_left f low high red l r at place node gap n before in
    let done = call l o.gap in
    let joined = mend low red (grown_shape (place - low) l) r (left_joined f f1 f2 low high red l r at place left node
    gap n before call there others) in
    let more : size (grown_shape (place - low) l) ≡ size l + 1 = size_grown (place - low) l in
    let at_is : at ≡ low + size l + 2 = o.at_is in
    let near : place ≤ at - 2 = o.gap.to_high in
    let whole : high ≡ low + (size l + 1 + size r) = gap.high_is in
    let goes : nat_le (place - low) (size l) ≡ true = le-leb (place - low) (size l) (omega arith) in
    let P : Bool → Type 0 = λ b. IsTree f3 low (cond b (join_left red (grown_shape (place - low) l) r)
    (join_right red l (grown_shape (place - low - (size l + 1)) r))) result in (
      subst P (sym goes) joined.0,
      λ k. elim [
        | inl below ↦ joined.1 k (inl below) ∙ others k (omega arith) ∙ done.1 k (inl below)
        | inr above ↦ joined.1 k (inr (omega arith)) ∙ others k (omega arith) ∙ done.1 k (inr (omega arith))
      ],
    )

pub grows_right : (f f1 f2 f3 : ℕ → Option Link) (low high : ℕ) (t : Shape) (at place right result : ℕ) (node : Link) →
    IsGap f low high t at place → at ≢ 0 → f at ≡ Some node → at ≤ place →
    ((t : Shape) → IsGap f at high t node.right place → Grows f f1 at high t place right) →
    f2 at ≡ Some (link node.red node.left right) → ((k : ℕ) → k ≢ at → f2 k ≡ f1 k) →
    ((base : ℕ) (red : Bool) (l r : Shape) → IsTree f2 base (Node red l r) at → JoinsRight f2 f3 base red l r result) →
    Grows f f3 low high t place result
grows_right f f1 f2 f3 low high Empty at place right result node gap some n before call there others mend =
    absurd (some (gap.top_is ∙ bump_before place 0 (omega arith)))
grows_right f f1 f2 f3 low high (Node red l r) at place right result node gap some n before call there others mend =
    let o = on_right f low high red l r at place node gap n before in
    let done = call r o.gap in
    let joined = mend low red l (grown_shape (place - at) r) (right_joined f f1 f2 low high red l r at place right node
    gap n before call there others) in
    let more : size (grown_shape (place - at) r) ≡ size r + 1 = size_grown (place - at) r in
    let at_is : at ≡ low + size l + 1 = o.at_is in
    let whole : high ≡ low + (size l + 1 + size r) = gap.high_is in
    let goes : nat_le (place - low) (size l) ≡ false = lt-leb (place - low) (size l) (omega arith) in
    let same : place - at ≡ place - low - (size l + 1) = omega arith in
    let Q : ℕ → Type 0 = λ p. IsTree f3 low (join_right red l (grown_shape p r)) result in
    let P : Bool → Type 0 = λ b. IsTree f3 low (cond b (join_left red (grown_shape (place - low) l) r)
    (join_right red l (grown_shape (place - low - (size l + 1)) r))) result in (
      subst P (sym goes) (subst Q same joined.0),
      λ k. elim [
        | inl below ↦ joined.1 k (inl below) ∙ others k (omega arith) ∙ done.1 k (inl (omega arith))
        | inr above ↦ joined.1 k (inr (omega arith)) ∙ others k (omega arith) ∙ done.1 k (inr (omega arith))
      ],
    )
