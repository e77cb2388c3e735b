-- Listing the nodes of a page, part by part.
use Rattle.tw_disk.specs.Image.{Image}
use Rattle.std.proofs.Common.{◌≡◌, ◌≢◌, ℕ, suc, zero, ◌+◌, ◌-◌, ◌<◌, ◌≤◌, List, [], length, Bool, true, false, refl, ap}
use Rattle.std.proofs.Common.{sym, ◌∙◌, subst, arith, slice_get}
use Rattle.std.specs.Prelude.{◌==◌, ◌||◌, Option, Some, None, Result, Err, if◌then◌else◌}
use Rattle.tw_base.specs.declared.history.root.Root.{Root}
use Rattle.tw_base.specs.declared.history.thread.Entry.{Entry}
use Rattle.tw_disk.specs.declared.limits.TheConstants.{FIRST_PAGE}
use Rattle.tw_disk.specs.Answers.{AnswersAs, FaultSort, SaysOf}
use Rattle.tw_disk.specs.Answers.FaultSort.{OfPage}
use Rattle.tw_disk.specs.Found.{Found, ◌>>=◌}
use Rattle.tw_disk.specs.Found.Found.{Is, Bad}
use Rattle.tw_rbnode.specs.Page.{IsNode, TreePage}
use Rattle.tw_rbnode.specs.Shape.{Shape, Empty, Node, size}
use Rattle.tw_rbnode.specs.Slots.{below_at, slot_of}
use Rattle.tw_rbnode.proofs.Descents.{before, not_before, other, same}
use Rattle.tw_rbtree.specs.declared.listing.Part.{Part}
use Rattle.tw_rbtree.specs.declared.fault.TreeFault.{TreeFault}
use Rattle.tw_rbtree.specs.declared.new_node.NewNode.{NewNode}
use Rattle.tw_rbtree.specs.declared.new_node.Side.{Side}
use Rattle.tw_rbtree.specs.declared.new_node.Side.TheVariants.{Empty as NoTree, Old}
use Rattle.tw_rbtree.specs.FaultWords.{tree_faults}
use Rattle.tw_rbtree.specs.Listing.{IsPartAt, IsSplit, Listed, ListsAt, child_listed, is_old, listed, listed_at}
use Rattle.tw_rbtree.specs.Listing.{node_behind, part_listed, part_of_shape}
use Rattle.tw_rbtree.specs.Reading.{child_in, node_in}
use Rattle.tw_rbtree.specs.Ways.{child_page}
use Rattle.tw_disk.proofs.FoundLaws.{bad_ends, same_found}
use Rattle.tw_rbtree.proofs.Downs.{child-level}
use Rattle.tw_rbtree.proofs.WayLaws.{on_each}

-- what comes of two readings comes of both
pub from_both : {X Y : Type 0} (one : Found X) (f : X → Found Y) (y : Y) → (one >>= f) ≡ Is y → (x : X) × (one ≡ Is x)
    × (f x ≡ Is y)
from_both (Is x) f y e = (x, refl, e)
from_both (Bad page) f y e = cc

-- ---- parts of a page's tree

no-part : (base : ℕ) (t : Shape) → part_of_shape 0 base t ≡ Empty
unfolding part_of_shape
no-part base Empty = refl
no-part base (Node red l r) = rw (other 0 (base + size l + 1) (omega arith))
    (rw (before 0 (base + size l + 1) (omega arith)) (no-part base l))

module _ (slot base : ℕ) (red : Bool) (l r : Shape) where
  abbrev Same : ℕ → Shape → Type 0
  Same inner t = (below_at slot base (Node red l r) ≡ below_at slot inner t)
      × (part_of_shape slot base (Node red l r) ≡ part_of_shape slot inner t)

  below-here : slot ≡ base + size l + 1
      → (below_at slot base (Node red l r) ≡ (slot_of base l, slot_of (base + size l + 1) r))
      × (part_of_shape slot base (Node red l r) ≡ Node red l r)
  unfolding below_at part_of_shape
  below-here h = (rw (same slot (base + size l + 1) h) refl, rw (same slot (base + size l + 1) h) refl)

  below-left : slot < base + size l + 1 → Same base l
  unfolding below_at part_of_shape
  below-left h = (
    rw (other slot (base + size l + 1) (omega (arith, h))) (rw (before slot (base + size l + 1) h) refl),
    rw (other slot (base + size l + 1) (omega (arith, h))) (rw (before slot (base + size l + 1) h) refl),
  )

  below-right : base + size l + 1 < slot → Same (base + size l + 1) r
  unfolding below_at part_of_shape
  below-right h = (
    rw (other slot (base + size l + 1) (omega (arith, h))) (rw (not_before slot (base + size l + 1) (omega (arith, h)))
        refl),
    rw (other slot (base + size l + 1) (omega (arith, h))) (rw (not_before slot (base + size l + 1) (omega (arith, h)))
        refl),
  )

-- the part with the root slot of a part is that part
pub part-is : (p : TreePage) (base end top : ℕ) (t : Shape) → IsPartAt p base end top t → part_of_shape top 0 p.shape
    ≡ t
part-is p base end top Empty is = ap (λ (n : ℕ). part_of_shape n 0 p.shape) is.top_is ∙ no-part 0 p.shape
part-is p base end top (Node red l r) is = (is.part top (omega (arith, is.top_is)) (omega (arith, is.top_is))).1
    ∙ (below-here top base red l r is.top_is).1

own-part : (p : TreePage) (base end top : ℕ) (t : Shape) → IsPartAt p base end top t → IsPartAt p base end top
    (part_of_shape top 0 p.shape)
own-part p base end top t is = subst (IsPartAt p base end top) (sym (part-is p base end top t is)) is

-- the whole tree of a page is a part of it
pub whole-part : (p : TreePage) (end top : ℕ) → top ≡ slot_of 0 p.shape → end ≡ length p.entries → IsNode p
    → IsPartAt p 0 end top (part_of_shape top 0 p.shape)
whole-part p end top top_is end_is node = own-part p 0 end top p.shape
    (record {
      part = λ slot low high. (refl, refl);
      top_is = top_is;
      end_is = omega (arith, end_is, node.sized);
      room = omega (arith, end_is);
    })

-- the part with the root slot of the tree is the tree
whole-is : (t : Shape) → part_of_shape (slot_of 0 t) 0 t ≡ t
whole-is Empty = no-part 0 Empty
whole-is (Node red l r) = (below-here (0 + size l + 1) 0 red l r refl).1

pub record PartsOf (p : TreePage) (base end top ls rs : ℕ) (t : Shape) : Type 0 where
  pub red : Bool
  pub l : Shape
  pub r : Shape
  pub is : t ≡ Node red l r
  pub at_is : top ≡ base + size l + 1
  pub left : IsPartAt p base (top - 1) ls l
  pub right : IsPartAt p top end rs r

pub parts-of : (p : TreePage) (base end top ls rs : ℕ) (t : Shape) → top ≢ 0 → IsPartAt p base end top t
    → (ls, rs) ≡ below_at top 0 p.shape → PartsOf p base end top ls rs t
parts-of p base end top ls rs Empty some is sides = absurd (some is.top_is)
parts-of p base end top ls rs (Node red l r) some is sides =
    let at : top ≡ base + size l + 1 = is.top_is in
    let own : (ls, rs) ≡ (slot_of base l, slot_of (base + size l + 1) r) =
    sides ∙ (is.part top (omega (arith, at)) (omega (arith, at))).0 ∙ (below-here top base red l r at).0 in
    let right_top : rs ≡ slot_of top r = ap (λ (x : ℕ × ℕ). x.1) own ∙ ap (λ (n : ℕ). slot_of n r) (sym at) in
    let through : (slot inner : ℕ) (u : Shape) → base < slot → slot ≤ base + size (Node red l r) → Same slot base red l
    r inner u → (below_at slot 0 p.shape ≡ below_at slot inner u) × (part_of_shape slot 0 p.shape ≡ part_of_shape slot
    inner u) =
    λ (slot inner : ℕ) (u : Shape) (low : base < slot) (high : slot ≤ base + size (Node red l r)) (same : Same slot base red l r inner u).
    let whole = is.part slot low high in (whole.0 ∙ same.0, whole.1 ∙ same.1) in
    record {
      red = red;
      l = l;
      r = r;
      is = refl;
      at_is = at;
      left = record {
        part = λ slot low high. through slot base l low (omega (arith, high))
            (below-left slot base red l r (omega (arith, high)));
        top_is = ap (λ (x : ℕ × ℕ). x.0) own;
        end_is = omega (arith, at);
        room = omega (arith, at, is.end_is, is.room);
      };
      right = record {
        part = λ slot low high.
            subst (λ (n : ℕ). (below_at slot 0 p.shape ≡ below_at slot n r)
            × (part_of_shape slot 0 p.shape ≡ part_of_shape slot n r)) (sym at)
            (through slot (base + size l + 1) r (omega (arith, low, at)) (omega (arith, high, at))
            (below-right slot base red l r (omega (arith, low, at))));
        top_is = right_top;
        end_is = omega (arith, at, is.end_is);
        room = is.room;
      };
    }

-- ---- what is listed of them

module _ (child : ListsAt) (es : List Entry) (page : ℕ) (low high : Option Entry) (base : ℕ)
    (nodes : List NewNode) where
  pub listed-empty : (t : Shape) → t ≡ Empty → listed_at child es page low high base t nodes ≡ child low high base nodes
  unfolding listed_at
  listed-empty t none = ap (λ (x : Shape). listed_at child es page low high base x nodes) none

  module _ (red : Bool) (l r : Shape) (top : ℕ) (e : Entry) (at : top ≡ base + size l + 1)
      (there : slice_get es (top - 1) ≡ Some e) where
    here : slice_get es (base + size l) ≡ Some e
    here = ap (slice_get es) (let s : base + size l ≡ top - 1 = omega (arith, at) in s) ∙ there

    pub listed-node : (t : Shape) → t ≡ Node red l r → listed_at child es page low high base t nodes
        ≡ (listed_at child es 0 low (Some e) base l nodes >>= (λ left. listed_at child es 0 (Some e) high top r
        left.nodes >>= (λ right. Is (node_behind (Some e) page left.side right))))
    unfolding listed_at
    listed-node t is =
        ap (λ (x : Shape). listed_at child es page low high base x nodes) is
        ∙ ap (λ (o : Option Entry). listed_at child es 0 low o base l nodes >>= (λ left. listed_at child es 0 o high
        (base + size l + 1) r left.nodes >>= (λ right. Is (node_behind o page left.side right)))) here
        ∙ ap (λ (n : ℕ). listed_at child es 0 low (Some e) base l nodes >>= (λ left. listed_at child es 0 (Some e) high
        n r left.nodes >>= (λ right. Is (node_behind (Some e) page left.side right)))) (sym at)

  -- what is listed on both sides of an entry, and behind them its node
  pub record SidesListed (l r : Shape) (e : Entry) (all : Listed) : Type 0 where
    pub left : Listed
    pub left_is : listed_at child es 0 low (Some e) base l nodes ≡ Is left
    pub right : Listed
    pub right_is : listed_at child es 0 (Some e) high (base + size l + 1) r left.nodes ≡ Is right
    pub all_is : node_behind (Some e) page left.side right ≡ all

  pub sides-listed : (red : Bool) (l r : Shape) (e : Entry) (all : Listed) → slice_get es (base + size l) ≡ Some e
      → listed_at child es page low high base (Node red l r) nodes ≡ Is all → SidesListed l r e all
  sides-listed red l r e all is found =
      let there : slice_get es (base + size l + 1 - 1) ≡ Some e =
      ap (slice_get es) (let n : base + size l + 1 - 1 ≡ base + size l = omega arith in n) ∙ is in
      let left = from_both (listed_at child es 0 low (Some e) base l nodes) (λ (left : Listed). listed_at child es 0
      (Some e) high (base + size l + 1) r left.nodes
      >>= (λ (right : Listed). Is (node_behind (Some e) page left.side right))) all
      (sym (listed-node red l r (base + size l + 1) e refl there (Node red l r) refl) ∙ found) in
      let right = from_both (listed_at child es 0 (Some e) high (base + size l + 1) r left.0.nodes)
      (λ (right : Listed). Is (node_behind (Some e) page left.0.side right)) all left.2 in
      record {
        left = left.0;
        left_is = left.1;
        right = right.0;
        right_is = right.1;
        all_is = same_found (node_behind (Some e) page left.0.side right.0) all right.2;
      }

-- a page is old or not
pub is-old : (page since : ℕ) → FIRST_PAGE ≤ page → page < since → is_old page since ≡ true
unfolding is_old
is-old page since low less = grind arith

pub is-new : (page since : ℕ) → since ≤ page → is_old page since ≡ false
unfolding is_old
is-new page since more = grind arith

module _ (dig : List ℕ → List ℕ) (ps : Image) (since : ℕ) (p : TreePage) (low high : Option Entry) (place : ℕ)
    (nodes : List NewNode) where
  pub listed-leaf : (level : ℕ) → level ≡ 0 → child_listed dig ps since level p low high place nodes ≡ Is
      (record { nodes = nodes; side = NoTree })
  unfolding child_listed
  listed-leaf zero e = refl
  listed-leaf (suc level) e = absurd (omega (arith, e))

  abbrev pub below_found : (below : ℕ) → TreePage → Found Listed
  below_found below q = listed_at (child_listed dig ps since below q) q.entries (child_page p place) low high 0 q.shape
      nodes

  by_age : (below : ℕ) → Bool → Found Listed
  by_age below b =
      if b then Is (record { nodes = nodes; side = Old (child_page p place) })
      else (child_in dig ps below low high (child_page p place) >>= below_found below)

  pub listed-old : (level below : ℕ) → level ≡ suc below → is_old (child_page p place) since ≡ true → child_listed dig
      ps since level p low high place nodes ≡ Is (record { nodes = nodes; side = Old (child_page p place) })
  unfolding child_listed by_age
  listed-old zero below e old = absurd (omega (arith, e))
  listed-old (suc level) below e old = ap (by_age level) old

  pub listed-on : (level below : ℕ) → level ≡ suc below → is_old (child_page p place) since ≡ false → child_listed dig
      ps since level p low high place nodes ≡ (child_in dig ps below low high (child_page p place) >>= below_found
      below)
  unfolding child_listed by_age
  listed-on zero below e new = absurd (omega (arith, e))
  listed-on (suc level) below e new =
      let deeper : level ≡ below = omega (arith, e) in
      ap (by_age level) new ∙ ap (λ (n : ℕ). child_in dig ps n low high (child_page p place) >>= below_found n) deeper

-- ---- by the slots of a page

module _ (dig : List ℕ → List ℕ) (ps : Image) (since : ℕ) (p : TreePage) (page : ℕ) (low high : Option Entry)
    (base top : ℕ) (nodes : List NewNode) where
  abbrev child : ListsAt
  child = child_listed dig ps since p.level p

  at-place : top ≡ 0 → part_listed dig ps since p page low high base top nodes ≡ child_listed dig ps since p.level p low
      high base nodes
  unfolding part_listed
  at-place none = listed-empty child p.entries page low high base nodes (part_of_shape top 0 p.shape)
      (ap (λ (n : ℕ). part_of_shape n 0 p.shape) none ∙ no-part 0 p.shape)

  pub part-leaf : top ≡ 0 → p.level ≡ 0 → part_listed dig ps since p page low high base top nodes ≡ Is
      (record { nodes = nodes; side = NoTree })
  part-leaf none leaf = at-place none ∙ listed-leaf dig ps since p low high base nodes p.level leaf

  pub part-old : top ≡ 0 → 0 < p.level → is_old (child_page p base) since ≡ true → part_listed dig ps since p page low
      high base top nodes ≡ Is (record { nodes = nodes; side = Old (child_page p base) })
  part-old none above old = at-place none ∙ listed-old dig ps since p low high base nodes p.level (p.level - 1)
      (omega (arith, above)) old

  pub part-on : top ≡ 0 → 0 < p.level → is_old (child_page p base) since ≡ false → part_listed dig ps since p page low
      high base top nodes
      ≡ (child_in dig ps (p.level - 1) low high (child_page p base)
      >>= (λ q. part_listed dig ps since q (child_page p base) low high 0 (slot_of 0 q.shape) nodes))
  unfolding part_listed
  part-on none above new =
      at-place none ∙ listed-on dig ps since p low high base nodes p.level (p.level - 1) (omega (arith, above)) new
      ∙ by (child_in dig ps (p.level - 1) low high (child_page p base)) refl
    where
      by : (f : Found TreePage) → child_in dig ps (p.level - 1) low high (child_page p base) ≡ f
          → (f >>= below_found dig ps since p low high base nodes (p.level - 1))
          ≡ (f >>= (λ q. part_listed dig ps since q (child_page p base) low high 0 (slot_of 0 q.shape) nodes))
      by (Bad bad) e = refl
      by (Is q) e =
          ap (λ (n : ℕ). listed_at (child_listed dig ps since n q) q.entries (child_page p base) low high 0 q.shape
          nodes) (sym (child-level dig ps (p.level - 1) low high (child_page p base) q e))
          ∙ ap (λ (t : Shape). listed_at (child_listed dig ps since q.level q) q.entries (child_page p base) low high 0
          t nodes) (sym (whole-is q.shape))

  part-node : (end ls rs : ℕ) (e : Entry) → top ≢ 0 → IsPartAt p base end top (part_of_shape top 0 p.shape)
      → (ls, rs) ≡ below_at top 0 p.shape → slice_get p.entries (top - 1) ≡ Some e
      → part_listed dig ps since p page low high base top nodes ≡ (part_listed dig ps since p 0 low (Some e) base ls
      nodes
      >>= (λ left. part_listed dig ps since p 0 (Some e) high top rs left.nodes
      >>= (λ right. Is (node_behind (Some e) page left.side right))))
  unfolding part_listed
  part-node end ls rs e some is sides there =
      let parts = parts-of p base end top ls rs (part_of_shape top 0 p.shape) some is sides in
      listed-node child p.entries page low high base nodes parts.red parts.l parts.r top e parts.at_is there
      (part_of_shape top 0 p.shape) parts.is
      ∙ (λ i. listed_at child p.entries 0 low (Some e) base (sym (part-is p base (top - 1) ls parts.l parts.left) i)
      nodes
      >>= (λ left. listed_at child p.entries 0 (Some e) high top (sym (part-is p top end rs parts.r parts.right) i)
      left.nodes >>= (λ right. Is (node_behind (Some e) page left.side right))))

pub ruleset parts_listed = (part-leaf, part-old, part-on)

-- where the listing of the part before a slot meets a fault, so does that of the whole
says-left : (sort : FaultSort) (left all : Found Listed) (next : Listed → Found Listed) → all ≡ (left >>= next)
    → SaysOf tree_faults sort left → SaysOf tree_faults sort all
says-left (OfPage page) left all next is says = is ∙ bad_ends left next page says
says-left _ left all next is says = tt

pub stopped-left : (value : Side → Listed) (fault : TreeFault) (result : Result Side TreeFault)
    (left all : Found Listed) (next : Listed → Found Listed) → all ≡ (left >>= next)
    → SaysOf tree_faults (tree_faults fault) left → result ≡ Err fault → AnswersAs tree_faults value result all
stopped-left value fault result left all next is says same = subst (λ (r : Result Side TreeFault). AnswersAs tree_faults
    value r all) (sym same) (says-left (tree_faults fault) left all next is says)

-- a part taken apart
pub is-split : (p : TreePage) (part before behind : Part) (e : Entry) → part.top ≢ 0 → IsPartAt p part.base part.end
    part.top (part_of_shape part.top 0 p.shape) → (before.top, behind.top) ≡ below_at part.top 0 p.shape
    → slice_get p.entries (part.top - 1) ≡ Some e → before.base ≡ part.base → before.end ≡ part.top - 1
    → behind.base ≡ part.top → behind.end ≡ part.end
    → IsSplit p part (record { before = before; entry = e; behind = behind })
is-split p part before behind e some is sides there b0 b1 c0 c1 =
    let parts = parts-of p part.base part.end part.top before.top behind.top (part_of_shape part.top 0 p.shape) some is
    sides in
    let left = own-part p part.base (part.top - 1) before.top parts.l parts.left in
    let right = own-part p part.top part.end behind.top parts.r parts.right in
    record {
      before = subst (λ (n : ℕ). IsPartAt p n before.end before.top (part_of_shape before.top 0 p.shape)) (sym b0)
          (subst (λ (n : ℕ). IsPartAt p part.base n before.top (part_of_shape before.top 0 p.shape)) (sym b1) left);
      behind = subst (λ (n : ℕ). IsPartAt p n behind.end behind.top (part_of_shape behind.top 0 p.shape)) (sym c0)
          (subst (λ (n : ℕ). IsPartAt p part.top n behind.top (part_of_shape behind.top 0 p.shape)) (sym c1) right);
      order = (
        b0,
        omega (arith, b1, parts.at_is),
        omega (arith, b1, c0, parts.at_is),
        omega (arith, c0, parts.at_is, parts.right.end_is),
        c1,
      );
      lists = λ dig ps since page low high nodes.
          part-node dig ps since p page low high part.base part.top nodes part.end before.top behind.top e some is sides
          there
          ∙ (λ i. part_listed dig ps since p 0 low (Some e) (sym b0 i) before.top nodes
          >>= (λ left. part_listed dig ps since p 0 (Some e) high (sym c0 i) behind.top left.nodes
          >>= (λ right. Is (node_behind (Some e) page left.side right))));
    }

-- under a root
module _ (dig : List ℕ → List ℕ) (ps : Image) (since : ℕ) (root : Root) where
  abbrev from_root : Bool → Found (List NewNode)
  from_root b =
      if b then Is [] else (node_in dig ps root.page >>= (λ p. listed_at (child_listed dig ps since p.level p) p.entries
      root.page None None 0 p.shape [] >>= (λ all. Is all.nodes)))

  pub listed-none : ((root.page == 0) || is_old root.page since) ≡ true → listed dig ps since root ≡ Is []
  unfolding listed
  listed-none e = ap from_root e

  pub listed-root : ((root.page == 0) || is_old root.page since) ≡ false → listed dig ps since root
      ≡ (node_in dig ps root.page >>= (λ p. listed_at (child_listed dig ps since p.level p) p.entries root.page None
      None 0 p.shape [] >>= (λ all. Is all.nodes)))
  unfolding listed
  listed-root e = ap from_root e

  pub listed-parts : ((root.page == 0) || is_old root.page since) ≡ false → listed dig ps since root
      ≡ (node_in dig ps root.page >>= (λ p. part_listed dig ps since p root.page None None 0 (slot_of 0 p.shape) []
      >>= (λ all. Is all.nodes)))
  unfolding part_listed
  listed-parts e =
      listed-root e
      ∙ on_each (node_in dig ps root.page) (λ p. listed_at (child_listed dig ps since p.level p) p.entries root.page
      None None 0 p.shape [] >>= (λ all. Is all.nodes))
      (λ p. listed_at (child_listed dig ps since p.level p) p.entries root.page None None 0
      (part_of_shape (slot_of 0 p.shape) 0 p.shape) [] >>= (λ all. Is all.nodes))
      (λ p. ap (λ (t : Shape). listed_at (child_listed dig ps since p.level p) p.entries root.page None None 0 t []
      >>= (λ (all : Listed). Is all.nodes)) (sym (whole-is p.shape)))

pub ruleset roots_listed = (listed-none, listed-parts)
