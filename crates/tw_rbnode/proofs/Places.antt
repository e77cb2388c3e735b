-- Trees in slots, as links change.
use Rattle.std.proofs.Common.{not, ◌≡◌, ◌≢◌, ℕ, ◌+◌, ◌<◌, ◌≤◌, Bool, true, false, List, length, Option, Some, refl, sym}
use Rattle.std.proofs.Common.{ap, ◌∙◌, subst, inl, inr, arith, slice_get}
use Rattle.std.proofs.lemmas.Option.{same_Some, slice_get_within}
use Rattle.tw_rbnode.specs.declared.links.Link.{Link}
use Rattle.tw_rbnode.specs.Shape.{Shape, Empty, Node, size, is_red, turned, over_red_left, join_left, over_red_right}
use Rattle.tw_rbnode.specs.Shape.{join_right}
use Rattle.tw_rbnode.specs.Slots.{slot_of, link, At, Blank, SameOutside, IsTree}

pub At-frame : (f g : ℕ → Option Link) (base : ℕ) (t : Shape) → At f base t → ((k : ℕ) → base < k → k ≤ base + size t
    → g k ≡ f k) → At g base t
At-frame f g base Empty h same = tt
At-frame f g base (Node red l r) h same = (
  same (base + size l + 1) (omega arith) (omega arith) ∙ h.0,
  At-frame f g base l h.1 (λ k a b. same k a (omega arith)),
  At-frame f g (base + size l + 1) r h.2 (λ k a b. same k (omega arith) (omega arith)),
)

pub at_node : (f : ℕ → Option Link) (base : ℕ) (red : Bool) (l r : Shape) (p left right : ℕ) →
    p ≡ base + size l + 1 → left ≡ slot_of base l → right ≡ slot_of p r → f p ≡ Some (link red left right) → At f base l
    → At f p r → At f base (Node red l r)
at_node f base red l r p left right e el er h hl hr =
    let P : ℕ → Type 0 = λ q. (f q ≡ Some (link red (slot_of base l) (slot_of q r))) × At f base l × At f q r in
    subst P e (h ∙ ap (λ u. Some (link red u right)) el ∙ ap (λ v. Some (link red (slot_of base l) v)) er, hl, hr)

-- the three nodes turned
pub turned_at : (f g : ℕ → Option Link) (base : ℕ) (a b c d : Shape) (x y z sa sb sc sd : ℕ) →
    x ≡ base + size a + 1 → y ≡ x + size b + 1 → z ≡ y + size c + 1 →
    At f base a → At f x b → At f y c → At f z d →
    sa ≡ slot_of base a → sb ≡ slot_of x b → sc ≡ slot_of y c → sd ≡ slot_of z d →
    g x ≡ Some (link true sa sb) → g y ≡ Some (link false x z) → g z ≡ Some (link true sc sd) →
    ((k : ℕ) → k ≢ x → k ≢ y → k ≢ z → g k ≡ f k) → Blank f →
    (high : ℕ) → high ≡ z + size d → IsTree g base (turned a b c d) y × SameOutside f g base high
turned_at f g base a b c d x y z sa sb sc sd ex ey ez ha hb hc hd ea eb ec ed gx gy gz others blank high high_is =
    let at_a : At g base a = At-frame f g base a ha (λ k p q. others k (omega arith) (omega arith) (omega arith)) in
    let at_b : At g x b = At-frame f g x b hb (λ k p q. others k (omega arith) (omega arith) (omega arith)) in
    let at_c : At g y c = At-frame f g y c hc (λ k p q. others k (omega arith) (omega arith) (omega arith)) in
    let at_d : At g z d = At-frame f g z d hd (λ k p q. others k (omega arith) (omega arith) (omega arith)) in (
      record {
        blank = others 0 (omega arith) (omega arith) (omega arith) ∙ blank;
        top_is = omega arith;
        at = at_node g base false (Node true a b) (Node true c d) y x z (omega arith) ex ez gy
            (at_node g base true a b x sa sb ex ea eb gx at_a at_b) (at_node g y true c d z sc sd ez ec ed gz at_c
            at_d);
      },
      λ k. elim [
        | inl low ↦ others k (omega arith) (omega arith) (omega arith)
        | inr high ↦ others k (omega arith) (omega arith) (omega arith)
      ],
    )

-- what a slot reads as
pub reads_red : (f : ℕ → Option Link) (base : ℕ) (t : Shape) (x : Link) → Blank f → At f base t
    → f (slot_of base t) ≡ Some x → is_red t ≡ x.red
reads_red f base Empty x blank h e = ap (λ (y : Link). y.red) (same_Some _ _ (sym blank ∙ e))
reads_red f base (Node red l r) x blank h e = ap (λ (y : Link). y.red) (same_Some _ _ (sym h.0 ∙ e))

pub reads_node : (f : ℕ → Option Link) (base : ℕ) (red : Bool) (l r : Shape) (x : Link) → At f base (Node red l r)
    → f (base + size l + 1) ≡ Some x →
    (red ≡ x.red) × (x.left ≡ slot_of base l) × (x.right ≡ slot_of (base + size l + 1) r)
reads_node f base red l r x h e =
    let same : link red (slot_of base l) (slot_of (base + size l + 1) r) ≡ x = same_Some _ _ (sym h.0 ∙ e) in
    (ap (λ (y : Link). y.red) same, ap (λ (y : Link). y.left) (sym same), ap (λ (y : Link). y.right) (sym same))

-- what a tree's slot and its child read as
pub record Seen (f : ℕ → Option Link) (base : ℕ) (red : Bool) (l r : Shape) (at : ℕ) (node : Link) : Type 0 where
  pub at_is : at ≡ base + size l + 1
  pub red_is : red ≡ node.red
  pub left_is : node.left ≡ slot_of base l
  pub right_is : node.right ≡ slot_of at r
  pub at_left : At f base l
  pub at_right : At f at r

pub seen : (f : ℕ → Option Link) (base : ℕ) (red : Bool) (l r : Shape) (at : ℕ) (node : Link)
    → IsTree f base (Node red l r) at → f at ≡ Some node → Seen f base red l r at node
seen f base red l r at node tree e =
    let P : ℕ → Type 0 = λ q. f q ≡ Some node → Seen f base red l r q node in
    subst P (sym tree.top_is) (λ e. let parts = reads_node f base red l r node tree.at e in
    record {
      at_is = refl;
      red_is = parts.0;
      left_is = parts.1;
      right_is = parts.2;
      at_left = tree.at.1;
      at_right = tree.at.2;
    }) e

pub left_tree : (f : ℕ → Option Link) (base : ℕ) (red : Bool) (l r : Shape) (at : ℕ) (node : Link)
    → IsTree f base (Node red l r) at → f at ≡ Some node → IsTree f base l node.left
left_tree f base red l r at node tree e = let s = seen f base red l r at node tree e in
    record { blank = tree.blank; top_is = s.left_is; at = s.at_left }

pub right_tree : (f : ℕ → Option Link) (base : ℕ) (red : Bool) (l r : Shape) (at : ℕ) (node : Link)
    → IsTree f base (Node red l r) at → f at ≡ Some node → IsTree f at r node.right
right_tree f base red l r at node tree e = let s = seen f base red l r at node tree e in
    record { blank = tree.blank; top_is = s.right_is; at = s.at_right }

pub tree_red : (f : ℕ → Option Link) (base : ℕ) (t : Shape) (top : ℕ) (x : Link) → IsTree f base t top → f top ≡ Some x
    → is_red t ≡ x.red
tree_red f base t top x tree e = reads_red f base t x tree.blank tree.at (sym (ap f tree.top_is) ∙ e)

-- a link that is read leads to slots that are there
pub tree_slot : (links : List Link) (base : ℕ) (t : Shape) (top : ℕ) → IsTree (slice_get links) base t top
    → top < length links
tree_slot links base Empty top tree = slice_get_within links top _ (ap (slice_get links) tree.top_is ∙ tree.blank)
tree_slot links base (Node red l r) top tree = slice_get_within links top _ (ap (slice_get links) tree.top_is
    ∙ tree.at.0)

abbrev pub JoinsLeft : (f g : ℕ → Option Link) (base : ℕ) (red : Bool) (l r : Shape) → ℕ → Type 0
JoinsLeft f g base red l r top = IsTree g base (join_left red l r) top × SameOutside f g base
    (base + size l + 1 + size r)

-- no red node has a red child
pub kept_left : (f : ℕ → Option Link) (base : ℕ) (red : Bool) (l r : Shape) (at : ℕ) (node child outer inner : Link)
    → IsTree f base (Node red l r) at →
    f at ≡ Some node → f node.left ≡ Some child → f child.left ≡ Some outer → f child.right ≡ Some inner
    → outer.red ≡ false → inner.red ≡ false → JoinsLeft f f base red l r at
kept_left f base true l r at node child outer inner tree n c o i eo ei = (tree, λ k _. refl)
kept_left f base false Empty r at node child outer inner tree n c o i eo ei = (tree, λ k _. refl)
kept_left f base false (Node false a m) r at node child outer inner tree n c o i eo ei = (tree, λ k _. refl)
kept_left f base false (Node true a m) r at node child outer inner tree n c o i eo ei =
    let left : IsTree f base (Node true a m) node.left = left_tree f base false (Node true a m) r at node tree n in
    let a_tree : IsTree f base a child.left = left_tree f base true a m node.left child left c in
    let m_tree : IsTree f node.left m child.right = right_tree f base true a m node.left child left c in
    let ea : is_red a ≡ false = tree_red f base a child.left outer a_tree o ∙ eo in
    let em : is_red m ≡ false = tree_red f node.left m child.right inner m_tree i ∙ ei in
    let same : over_red_left a m r ≡ Node false (Node true a m) r = rw (ea, em) refl in
    let P : Shape → Type 0 = λ t. IsTree f base t at in
    (subst P (sym same) tree, λ k _. refl)

pub no_way : {A : Type 0} → true ≡ false → A
no_way e = absurd (let clash : true ≡ false = e in cc)

pub turned_outer_left : (f g : ℕ → Option Link) (base : ℕ) (red : Bool) (l r : Shape) (at : ℕ)
    (node child outer other : Link) → IsTree f base (Node red l r) at →
    f at ≡ Some node → f node.left ≡ Some child → f child.left ≡ Some outer → f node.right ≡ Some other →
    node.red ≡ false → child.red ≡ true → outer.red ≡ true → other.red ≡ false →
    g child.left ≡ Some (link true outer.left outer.right) → g node.left ≡ Some (link false child.left at)
    → g at ≡ Some (link true child.right node.right) →
    ((k : ℕ) → k ≢ child.left → k ≢ node.left → k ≢ at → g k ≡ f k) → JoinsLeft f g base red l r node.left
turned_outer_left f g base true l r at node child outer other tree n c o i en ec eo ei gx gy gz others =
    no_way ((seen f base true l r at node tree n).red_is ∙ en)
turned_outer_left f g base false Empty r at node child outer other tree n c o i en ec eo ei gx gy gz others =
    no_way (sym (tree_red f base (Empty) node.left child (left_tree f base false (Empty) r at node tree n) c ∙ ec))
turned_outer_left f g base false (Node false a m) r at node child outer other tree n c o i en ec eo ei gx gy gz others =
    no_way (sym (tree_red f base (Node false a m) node.left child (left_tree f base false (Node false a m) r at node
    tree n) c ∙ ec))
turned_outer_left f g base false (Node true Empty m) r at node child outer other tree n c o i en ec eo ei gx gy gz
    others =
    no_way (sym (tree_red f base (Empty) child.left outer (left_tree f base true Empty m node.left child
    (left_tree f base false (Node true Empty m) r at node tree n) c) o ∙ eo))
turned_outer_left f g base false (Node true (Node false a b) m) r at node child outer other tree n c o i en ec eo ei gx
    gy gz others =
    no_way (sym (tree_red f base (Node false a b) child.left outer (left_tree f base true (Node false a b) m node.left
    child (left_tree f base false (Node true (Node false a b) m) r at node tree n) c) o ∙ eo))
turned_outer_left f g base false (Node true (Node true a b) m) r at node child outer other tree n c o i en ec eo ei gx
    gy gz others =
    let s = seen f base false (Node true (Node true a b) m) r at node tree n in
    let near_tree : IsTree f base (Node true (Node true a b) m) node.left =
    (left_tree f base false (Node true (Node true a b) m) r at node tree n) in
    let far_red : is_red r ≡ false = tree_red f at r node.right other
    (right_tree f base false (Node true (Node true a b) m) r at node tree n) i ∙ ei in
    let sc = seen f base true (Node true a b) m node.left child near_tree c in
    let grand_tree : IsTree f base (Node true a b) child.left = left_tree f base true (Node true a b) m node.left child
    near_tree c in
    let sg = seen f base true a b child.left outer grand_tree o in
    let same : over_red_left (Node true a b) m r ≡ turned a b m r = rw far_red refl in
    let P : Shape → Type 0 = λ t. IsTree g base t node.left in
    let done = turned_at f g base a b m r child.left node.left at outer.left outer.right child.right node.right
    (omega (arith, s.at_is, sc.at_is, sg.at_is)) (omega (arith, s.at_is, sc.at_is, sg.at_is))
    (omega (arith, s.at_is, sc.at_is, sg.at_is))
    sg.at_left sg.at_right sc.at_right s.at_right sg.left_is sg.right_is sc.right_is s.right_is gx gy gz others
    tree.blank _ (omega (arith, s.at_is, sc.at_is, sg.at_is)) in
    (subst P (sym same) done.0, done.1)

pub turned_inner_left : (f g : ℕ → Option Link) (base : ℕ) (red : Bool) (l r : Shape) (at : ℕ)
    (node child outer inner other : Link) → IsTree f base (Node red l r) at →
    f at ≡ Some node → f node.left ≡ Some child → f child.left ≡ Some outer → f child.right ≡ Some inner
    → f node.right ≡ Some other →
    node.red ≡ false → child.red ≡ true → outer.red ≡ false → inner.red ≡ true → other.red ≡ false →
    g node.left ≡ Some (link true child.left inner.left) → g child.right ≡ Some (link false node.left at)
    → g at ≡ Some (link true inner.right node.right) →
    ((k : ℕ) → k ≢ node.left → k ≢ child.right → k ≢ at → g k ≡ f k) → JoinsLeft f g base red l r child.right
turned_inner_left f g base true l r at node child outer inner other tree n c o q i en ec eo eq ei gx gy gz others =
    no_way ((seen f base true l r at node tree n).red_is ∙ en)
turned_inner_left f g base false Empty r at node child outer inner other tree n c o q i en ec eo eq ei gx gy gz others =
    no_way (sym (tree_red f base (Empty) node.left child (left_tree f base false (Empty) r at node tree n) c ∙ ec))
turned_inner_left f g base false (Node false a m) r at node child outer inner other tree n c o q i en ec eo eq ei gx gy
    gz others =
    no_way (sym (tree_red f base (Node false a m) node.left child (left_tree f base false (Node false a m) r at node
    tree n) c ∙ ec))
turned_inner_left f g base false (Node true a Empty) r at node child outer inner other tree n c o q i en ec eo eq ei gx
    gy gz others =
    no_way (sym (tree_red f node.left (Empty) child.right inner (right_tree f base true a Empty node.left child
    (left_tree f base false (Node true a Empty) r at node tree n) c) q ∙ eq))
turned_inner_left f g base false (Node true a (Node false b c')) r at node child outer inner other tree n c o q i en ec
    eo eq ei gx gy gz others =
    no_way (sym (tree_red f node.left (Node false b c') child.right inner (right_tree f base true a (Node false b c')
    node.left child (left_tree f base false (Node true a (Node false b c')) r at node tree n) c) q ∙ eq))
turned_inner_left f g base false (Node true a (Node true b c')) r at node child outer inner other tree n c o q i en ec
    eo eq ei gx gy gz others =
    let s = seen f base false (Node true a (Node true b c')) r at node tree n in
    let near_tree : IsTree f base (Node true a (Node true b c')) node.left =
    (left_tree f base false (Node true a (Node true b c')) r at node tree n) in
    let far_red : is_red r ≡ false = tree_red f at r node.right other
    (right_tree f base false (Node true a (Node true b c')) r at node tree n) i ∙ ei in
    let sc = seen f base true a (Node true b c') node.left child near_tree c in
    let grand_tree : IsTree f node.left (Node true b c') child.right = right_tree f base true a (Node true b c')
    node.left child near_tree c in
    let sg = seen f node.left true b c' child.right inner grand_tree q in
    let outer_red : is_red a ≡ false = tree_red f base a child.left outer (left_tree f base true a (Node true b c')
    node.left child near_tree c) o ∙ eo in
    let same : over_red_left a (Node true b c') r ≡ turned a b c' r = rw (outer_red, far_red) refl in
    let P : Shape → Type 0 = λ t. IsTree g base t child.right in
    let done = turned_at f g base a b c' r node.left child.right at child.left inner.left inner.right node.right
    (omega (arith, s.at_is, sc.at_is, sg.at_is)) (omega (arith, s.at_is, sc.at_is, sg.at_is))
    (omega (arith, s.at_is, sc.at_is, sg.at_is))
    sc.at_left sg.at_left sg.at_right s.at_right sc.left_is sg.left_is sg.right_is s.right_is gx gy gz others tree.blank
    _ (omega (arith, s.at_is, sc.at_is, sg.at_is)) in
    (subst P (sym same) done.0, done.1)

abbrev pub JoinsRight : (f g : ℕ → Option Link) (base : ℕ) (red : Bool) (l r : Shape) → ℕ → Type 0
JoinsRight f g base red l r top = IsTree g base (join_right red l r) top × SameOutside f g base
    (base + size l + 1 + size r)

-- no red node has a red child
pub kept_right : (f : ℕ → Option Link) (base : ℕ) (red : Bool) (l r : Shape) (at : ℕ) (node child outer inner : Link)
    → IsTree f base (Node red l r) at →
    f at ≡ Some node → f node.right ≡ Some child → f child.right ≡ Some outer → f child.left ≡ Some inner
    → outer.red ≡ false → inner.red ≡ false → JoinsRight f f base red l r at
kept_right f base true l r at node child outer inner tree n c o i eo ei = (tree, λ k _. refl)
kept_right f base false l Empty at node child outer inner tree n c o i eo ei = (tree, λ k _. refl)
kept_right f base false l (Node false m d) at node child outer inner tree n c o i eo ei = (tree, λ k _. refl)
kept_right f base false l (Node true m d) at node child outer inner tree n c o i eo ei =
    let right : IsTree f at (Node true m d) node.right = right_tree f base false l (Node true m d) at node tree n in
    let d_tree : IsTree f node.right d child.right = right_tree f at true m d node.right child right c in
    let m_tree : IsTree f at m child.left = left_tree f at true m d node.right child right c in
    let ed : is_red d ≡ false = tree_red f node.right d child.right outer d_tree o ∙ eo in
    let em : is_red m ≡ false = tree_red f at m child.left inner m_tree i ∙ ei in
    let same : over_red_right l m d ≡ Node false l (Node true m d) = rw (ed, em) refl in
    let P : Shape → Type 0 = λ t. IsTree f base t at in
    (subst P (sym same) tree, λ k _. refl)

pub turned_outer_right : (f g : ℕ → Option Link) (base : ℕ) (red : Bool) (l r : Shape) (at : ℕ)
    (node child outer other : Link) → IsTree f base (Node red l r) at →
    f at ≡ Some node → f node.right ≡ Some child → f child.right ≡ Some outer → f node.left ≡ Some other →
    node.red ≡ false → child.red ≡ true → outer.red ≡ true → other.red ≡ false →
    g at ≡ Some (link true node.left child.left) → g node.right ≡ Some (link false at child.right)
    → g child.right ≡ Some (link true outer.left outer.right) →
    ((k : ℕ) → k ≢ at → k ≢ node.right → k ≢ child.right → g k ≡ f k) → JoinsRight f g base red l r node.right
turned_outer_right f g base true l r at node child outer other tree n c o i en ec eo ei gx gy gz others =
    no_way ((seen f base true l r at node tree n).red_is ∙ en)
turned_outer_right f g base false l Empty at node child outer other tree n c o i en ec eo ei gx gy gz others =
    no_way (sym (tree_red f at (Empty) node.right child (right_tree f base false l (Empty) at node tree n) c ∙ ec))
turned_outer_right f g base false l (Node false a m) at node child outer other tree n c o i en ec eo ei gx gy gz
    others =
    no_way (sym (tree_red f at (Node false a m) node.right child (right_tree f base false l (Node false a m) at node
    tree n) c ∙ ec))
turned_outer_right f g base false l (Node true m Empty) at node child outer other tree n c o i en ec eo ei gx gy gz
    others =
    no_way (sym (tree_red f node.right (Empty) child.right outer (right_tree f at true m Empty node.right child
    (right_tree f base false l (Node true m Empty) at node tree n) c) o ∙ eo))
turned_outer_right f g base false l (Node true m (Node false a b)) at node child outer other tree n c o i en ec eo ei gx
    gy gz others =
    no_way (sym (tree_red f node.right (Node false a b) child.right outer (right_tree f at true m (Node false a b)
    node.right child (right_tree f base false l (Node true m (Node false a b)) at node tree n) c) o ∙ eo))
turned_outer_right f g base false l (Node true m (Node true a b)) at node child outer other tree n c o i en ec eo ei gx
    gy gz others =
    let s = seen f base false l (Node true m (Node true a b)) at node tree n in
    let near_tree : IsTree f at (Node true m (Node true a b)) node.right =
    (right_tree f base false l (Node true m (Node true a b)) at node tree n) in
    let far_red : is_red l ≡ false = tree_red f base l node.left other
    (left_tree f base false l (Node true m (Node true a b)) at node tree n) i ∙ ei in
    let sc = seen f at true m (Node true a b) node.right child near_tree c in
    let grand_tree : IsTree f node.right (Node true a b) child.right = right_tree f at true m (Node true a b) node.right
    child near_tree c in
    let sg = seen f node.right true a b child.right outer grand_tree o in
    let same : over_red_right l m (Node true a b) ≡ turned l m a b = rw far_red refl in
    let P : Shape → Type 0 = λ t. IsTree g base t node.right in
    let done = turned_at f g base l m a b at node.right child.right node.left child.left outer.left outer.right
    (omega (arith, s.at_is, sc.at_is, sg.at_is)) (omega (arith, s.at_is, sc.at_is, sg.at_is))
    (omega (arith, s.at_is, sc.at_is, sg.at_is))
    s.at_left sc.at_left sg.at_left sg.at_right s.left_is sc.left_is sg.left_is sg.right_is gx gy gz others tree.blank _
    (omega (arith, s.at_is, sc.at_is, sg.at_is)) in
    (subst P (sym same) done.0, done.1)

pub turned_inner_right : (f g : ℕ → Option Link) (base : ℕ) (red : Bool) (l r : Shape) (at : ℕ)
    (node child outer inner other : Link) → IsTree f base (Node red l r) at →
    f at ≡ Some node → f node.right ≡ Some child → f child.right ≡ Some outer → f child.left ≡ Some inner
    → f node.left ≡ Some other →
    node.red ≡ false → child.red ≡ true → outer.red ≡ false → inner.red ≡ true → other.red ≡ false →
    g at ≡ Some (link true node.left inner.left) → g child.left ≡ Some (link false at node.right)
    → g node.right ≡ Some (link true inner.right child.right) →
    ((k : ℕ) → k ≢ at → k ≢ child.left → k ≢ node.right → g k ≡ f k) → JoinsRight f g base red l r child.left
turned_inner_right f g base true l r at node child outer inner other tree n c o q i en ec eo eq ei gx gy gz others =
    no_way ((seen f base true l r at node tree n).red_is ∙ en)
turned_inner_right f g base false l Empty at node child outer inner other tree n c o q i en ec eo eq ei gx gy gz
    others =
    no_way (sym (tree_red f at (Empty) node.right child (right_tree f base false l (Empty) at node tree n) c ∙ ec))
turned_inner_right f g base false l (Node false a m) at node child outer inner other tree n c o q i en ec eo eq ei gx gy
    gz others =
    no_way (sym (tree_red f at (Node false a m) node.right child (right_tree f base false l (Node false a m) at node
    tree n) c ∙ ec))
turned_inner_right f g base false l (Node true Empty a) at node child outer inner other tree n c o q i en ec eo eq ei gx
    gy gz others =
    no_way (sym (tree_red f at (Empty) child.left inner (left_tree f at true Empty a node.right child
    (right_tree f base false l (Node true Empty a) at node tree n) c) q ∙ eq))
turned_inner_right f g base false l (Node true (Node false b c') a) at node child outer inner other tree n c o q i en ec
    eo eq ei gx gy gz others =
    no_way (sym (tree_red f at (Node false b c') child.left inner (left_tree f at true (Node false b c') a node.right
    child (right_tree f base false l (Node true (Node false b c') a) at node tree n) c) q ∙ eq))
turned_inner_right f g base false l (Node true (Node true b c') a) at node child outer inner other tree n c o q i en ec
    eo eq ei gx gy gz others =
    let s = seen f base false l (Node true (Node true b c') a) at node tree n in
    let near_tree : IsTree f at (Node true (Node true b c') a) node.right =
    (right_tree f base false l (Node true (Node true b c') a) at node tree n) in
    let far_red : is_red l ≡ false = tree_red f base l node.left other
    (left_tree f base false l (Node true (Node true b c') a) at node tree n) i ∙ ei in
    let sc = seen f at true (Node true b c') a node.right child near_tree c in
    let grand_tree : IsTree f at (Node true b c') child.left = left_tree f at true (Node true b c') a node.right child
    near_tree c in
    let sg = seen f at true b c' child.left inner grand_tree q in
    let outer_red : is_red a ≡ false = tree_red f node.right a child.right outer
    (right_tree f at true (Node true b c') a node.right child near_tree c) o ∙ eo in
    let same : over_red_right l (Node true b c') a ≡ turned l b c' a = rw (outer_red, far_red) refl in
    let P : Shape → Type 0 = λ t. IsTree g base t child.left in
    let done = turned_at f g base l b c' a at child.left node.right node.left inner.left inner.right child.right
    (omega (arith, s.at_is, sc.at_is, sg.at_is)) (omega (arith, s.at_is, sc.at_is, sg.at_is))
    (omega (arith, s.at_is, sc.at_is, sg.at_is))
    s.at_left sg.at_left sg.at_right sc.at_right s.left_is sg.left_is sg.right_is sc.right_is gx gy gz others tree.blank
    _ (omega (arith, s.at_is, sc.at_is, sg.at_is)) in
    (subst P (sym same) done.0, done.1)

pub not_false : (b : Bool) → not b ≡ false → b ≡ true
not_false true e = refl
not_false false e = no_way e
