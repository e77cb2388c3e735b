-- The pages that listed nodes name are pages of the tree, and their entries stand in those of them that are new.
use Rattle.std.proofs.Common.{◌≡◌, ℕ, suc, zero, ◌+◌, ◌-◌, ◌<◌, ◌≤◌, List, [], ◌∷◌, length, Bool, true, false, refl, ap}
use Rattle.std.proofs.Common.{sym, ◌∙◌, subst, arith, inl, inr, slice_get, true≢false}
use Rattle.std.specs.Prelude.{◌==◌, ◌||◌, Option, Some, None}
use Rattle.std.proofs.lemmas.Bool.{cases_Bool, cases_lt, or_parts}
use Rattle.tw_base.specs.declared.history.root.Root.{Root}
use Rattle.tw_base.specs.declared.history.thread.Entry.{Entry}
use Rattle.tw_base.specs.kinds.Lists.{Each, In}
use Rattle.tw_base.proofs.lemmas.kinds.ListLemmas.{Each-append}
use Rattle.tw_disk.specs.Found.{when, ◌>>=◌}
use Rattle.tw_disk.specs.Found.Found.{Is}
use Rattle.tw_disk.specs.Image.{Image}
use Rattle.tw_disk.specs.declared.limits.TheConstants.{FIRST_PAGE}
use Rattle.tw_disk.proofs.FoundLaws.{same_found}
use Rattle.tw_rbnode.specs.Page.{TreePage}
use Rattle.tw_rbnode.specs.Shape.{Shape, Empty, Node, size}
use Rattle.tw_rbtree.specs.declared.new_node.NewNode.{NewNode}
use Rattle.tw_rbtree.specs.declared.new_node.Side.TheVariants.{Empty as NoTree, Old}
use Rattle.tw_rbtree.specs.Listing.{Listed, ListsAt, child_listed, is_old, listed, listed_at}
use Rattle.tw_rbtree.specs.OwnPages.{IsEntryOfNew, IsOwnMark, IsOwnSide, IsPageIn, IsPageUnder, NamesOwn}
use Rattle.tw_rbtree.specs.Reading.{child_in, fits, node_in}
use Rattle.tw_rbtree.specs.Ways.{child_page}
use Rattle.tw_rbtree.proofs.ListLaws.{below_found, from_both, is-old, listed-empty, listed-leaf, listed-none}
use Rattle.tw_rbtree.proofs.ListLaws.{listed-old, listed-on, listed-root, sides-listed}
use Rattle.tw_rbtree.proofs.Markings.{when-same}
use Rattle.tw_rbtree.proofs.PageLaws.{is-root}

-- an entry of a list, from its place
get-in : (xs : List Entry) (i : ℕ) → i < length xs → (e : Entry) × (slice_get xs i ≡ Some e) × In e xs
get-in [] i l = absurd (omega (arith, l))
get-in (x ∷ xs) zero l = (x, refl, inl refl)
get-in (x ∷ xs) (suc i) l = let rest = get-in xs i (omega (arith, l)) in (rest.0, rest.1, inr rest.2)

not-old : (page since : ℕ) → FIRST_PAGE ≤ page → is_old page since ≡ false → since ≤ page
not-old page since low new = elim (cases_lt page since) [
  | inl less ↦ absurd (true≢false (sym (is-old page since low less) ∙ new))
  | inr more ↦ more
]

-- a node that names these pages alone, and has one of these entries
abbrev pub Fits : (P : ℕ → Type 0) (Q : Entry → Type 0) → NewNode → Type 0
Fits P Q n = NamesOwn P n × Q n.entry

-- such nodes alone are listed
abbrev Names : (P : ℕ → Type 0) (Q : Entry → Type 0) → Listed → Type 0
Names P Q all = Each (Fits P Q) all.nodes × IsOwnSide P all.side

module _ (child : ListsAt) (es : List Entry) (P : ℕ → Type 0) (Q : Entry → Type 0) (has : (e : Entry) → In e es → Q e)
    (own : (low high : Option Entry) (place : ℕ) (nodes : List NewNode) (all : Listed) → place ≤ length es
    → child low high place nodes ≡ Is all → Each (Fits P Q) nodes → Names P Q all) where
  shape-own : (page : ℕ) → IsOwnMark P page → (low high : Option Entry) (base : ℕ) (s : Shape) (nodes : List NewNode)
      (all : Listed) → base + size s ≤ length es → listed_at child es page low high base s nodes ≡ Is all
      → Each (Fits P Q) nodes → Names P Q all
  shape-own page mark low high base Empty nodes all room found before = own low high base nodes all
      (omega (arith, room)) (sym (listed-empty child es page low high base nodes Empty refl) ∙ found) before
  shape-own page mark low high base (Node red l r) nodes all room found before =
      let here = get-in es (base + size l) (omega (arith, room)) in
      let e : Entry = here.0 in
      let sides = sides-listed child es page low high base nodes red l r e all here.1 found in
      let left = sides.left in
      let right = sides.right in
      let one = shape-own 0 (inl refl) low (Some e) base l nodes left (omega (arith, room)) sides.left_is before in
      let two = shape-own 0 (inl refl) (Some e) high (base + size l + 1) r left.nodes right (omega (arith, room))
      sides.right_is one.0 in
      let n : NewNode = record { left = left.side; entry = e; right = right.side; page = page } in
      subst (Names P Q) sides.all_is
      (Each-append (Fits P Q) right.nodes (n ∷ []) two.0 (((one.1, two.1, mark), has e here.2), tt), tt)

module _ (dig : List ℕ → List ℕ) (ps : Image) where
  page-own : (level page : ℕ) → IsPageIn dig ps level page page
  unfolding IsPageIn
  page-own zero page = refl
  page-own (suc level) page = inl refl

  pub child-page : (level : ℕ) (low high : Option Entry) (page : ℕ) (q : TreePage) → child_in dig ps level low high page
      ≡ Is q → node_in dig ps page ≡ Is q
  unfolding child_in
  child-page level low high page q found =
      let both = from_both (node_in dig ps page) (λ (p : TreePage). when (fits level low high p) page p) q found in
      both.1 ∙ ap (λ (p : TreePage). Is p) (when-same (fits level low high both.0) page both.0 q both.2)

  module _ (since : ℕ) (P : ℕ → Type 0) (Q : Entry → Type 0)
      (new : (page : ℕ) (q : TreePage) → node_in dig ps page ≡ Is q → P page → is_old page since ≡ false → (e : Entry)
      → In e q.entries → Q e) where
    child-own : (level number : ℕ) (p : TreePage) → node_in dig ps number ≡ Is p
        → ((page : ℕ) → IsPageIn dig ps level number page → P page) → (low high : Option Entry) (place : ℕ)
        (nodes : List NewNode) (all : Listed)
        → place ≤ length p.entries → child_listed dig ps since level p low high place nodes ≡ Is all
        → Each (Fits P Q) nodes → Names P Q all
    unfolding IsPageIn
    child-own zero number p there up low high place nodes all room found before =
        subst (Names P Q) (same_found (record { nodes = nodes; side = NoTree }) all
        (sym (listed-leaf dig ps since p low high place nodes zero refl) ∙ found)) (before, tt)
    child-own (suc level) number p there up low high place nodes all room found before =
        let on : (page : ℕ) → IsPageIn dig ps level (child_page p place) page → P page =
        λ (page : ℕ) (is : IsPageIn dig ps level (child_page p place) page). up page (inr (p, place, there, room, is))
        in
        elim (cases_Bool (is_old (child_page p place) since)) [
          | inl old ↦
              subst (Names P Q) (same_found (record { nodes = nodes; side = Old (child_page p place) }) all
              (sym (listed-old dig ps since p low high place nodes (suc level) level refl old) ∙ found))
              (before, on (child_page p place) (page-own level (child_page p place)))
          | inr later ↦
              let both = from_both (child_in dig ps level low high (child_page p place)) (below_found dig ps since p low
              high place nodes level) all
              (sym (listed-on dig ps since p low high place nodes (suc level) level refl later) ∙ found) in
              let q : TreePage = both.0 in
              let read = child-page level low high (child_page p place) q both.1 in
              let sized = (is-root dig ps (child_page p place) q read).may_stand.node.sized in
              shape-own (child_listed dig ps since level q) q.entries P Q (new (child_page p place) q read
              (on (child_page p place) (page-own level (child_page p place))) later)
              (child-own level (child_page p place) q read on) (child_page p place)
              (inr (on (child_page p place) (page-own level (child_page p place)))) low high 0 q.shape nodes all
              (omega (arith, sized)) both.2 before
        ]

  -- whatever the pages keep
  pub root-own : (since : ℕ) (root : Root) (nodes : List NewNode) → listed dig ps since root ≡ Is nodes
      → Each (Fits (IsPageUnder dig ps root) (IsEntryOfNew dig ps root since)) nodes
  root-own since root nodes found = by ((root.page == 0) || is_old root.page since) refl
    where
      new : (page : ℕ) (q : TreePage) → node_in dig ps page ≡ Is q → IsPageUnder dig ps root page
          → is_old page since ≡ false → (e : Entry) → In e q.entries → IsEntryOfNew dig ps root since e
      new page q read under later e has =
          (page, q, read, under, not-old page since (is-root dig ps page q read).low later, has)

      by : (older : Bool) → ((root.page == 0) || is_old root.page since) ≡ older
          → Each (Fits (IsPageUnder dig ps root) (IsEntryOfNew dig ps root since)) nodes
      by true e = subst (Each (Fits (IsPageUnder dig ps root) (IsEntryOfNew dig ps root since)))
          (same_found [] nodes (sym (listed-none dig ps since root e) ∙ found)) tt
      by false e =
          let first = from_both (node_in dig ps root.page) (λ (p : TreePage). listed_at (child_listed dig ps since
          p.level p) p.entries root.page None None 0 p.shape [] >>= (λ (all : Listed). Is all.nodes)) nodes
          (sym (listed-root dig ps since root e) ∙ found) in
          let p : TreePage = first.0 in
          let last = from_both (listed_at (child_listed dig ps since p.level p) p.entries root.page None None 0 p.shape
          []) (λ (all : Listed). Is all.nodes) nodes first.2 in
          let up : (page : ℕ) → IsPageIn dig ps p.level root.page page → IsPageUnder dig ps root page =
          λ (page : ℕ) (is : IsPageIn dig ps p.level root.page page). (p, first.1, is) in
          let here = up root.page (page-own p.level root.page) in
          let sized = (is-root dig ps root.page p first.1).may_stand.node.sized in
          let all = shape-own (child_listed dig ps since p.level p) p.entries (IsPageUnder dig ps root)
          (IsEntryOfNew dig ps root since) (new root.page p first.1 here (or_parts (root.page == 0)
          (is_old root.page since) e).1) (child-own since (IsPageUnder dig ps root) (IsEntryOfNew dig ps root since) new
          p.level root.page p first.1 up) root.page
          (inr here) None None 0 p.shape [] last.0 (omega (arith, sized)) last.1 tt in
          subst (Each (Fits (IsPageUnder dig ps root) (IsEntryOfNew dig ps root since)))
          (same_found last.0.nodes nodes last.2) all.0
