-- Each page of a tree that isn't older marks a listed node.
use Rattle.std.proofs.Common.{◌≡◌, ◌≢◌, ℕ, suc, zero, ◌+◌, ◌-◌, ◌<◌, ◌≤◌, List, [], ◌∷◌, ◌++◌, length, Bool, true}
use Rattle.std.proofs.Common.{false, refl, ap, sym, ◌∙◌, subst, arith, ◌⊎◌, inl, inr, slice_get, append_assoc}
use Rattle.std.proofs.Common.{append-nil}
use Rattle.std.specs.Prelude.{◌==◌, ◌||◌, Option, Some, None, slice_index_or}
use Rattle.std.proofs.lemmas.Bool.{ne_eqb}
use Rattle.tw_base.specs.declared.history.root.Root.{Root}
use Rattle.tw_base.specs.declared.history.thread.Entry.{Entry}
use Rattle.tw_base.specs.kinds.Lists.{Each, In}
use Rattle.tw_base.specs.history.Tree.{Tree}
use Rattle.tw_base.specs.history.Tree.Tree.{Empty as NoEntry}
use Rattle.tw_base.proofs.lemmas.kinds.ListLemmas.{Each-map, In-left, In-right}
use Rattle.tw_disk.specs.Found.{when, ◌>>=◌}
use Rattle.tw_disk.specs.Found.Found.{Is}
use Rattle.tw_disk.specs.Image.{Image}
use Rattle.tw_disk.proofs.FoundLaws.{is_on, same_found}
use Rattle.tw_rbnode.specs.declared.child.Child.{Child}
use Rattle.tw_rbnode.specs.NodeBytes.{LiesBelow}
use Rattle.tw_rbnode.specs.Page.{TreePage}
use Rattle.tw_rbnode.specs.Shape.{Shape, Empty, Node, size}
use Rattle.tw_rbnode.proofs.TreeLists.{get-some}
use Rattle.tw_rbtree.specs.declared.new_node.NewNode.{NewNode}
use Rattle.tw_rbtree.specs.declared.new_node.Side.TheVariants.{Empty as NoTree, Old}
use Rattle.tw_rbtree.specs.Listing.{Listed, ListsAt, child_listed, is_old, listed, listed_at}
use Rattle.tw_rbtree.specs.Planting.{IsMarked}
use Rattle.tw_rbtree.specs.Reading.{IsPageAt, child_in, fits, node_in}
use Rattle.tw_rbtree.specs.Standing.{AreTrees, IsRootTree, IsTreeBelow, IsTreePage, StandsForTree, StandsWith, any_page}
use Rattle.tw_rbtree.specs.Ways.{child_page}
use Rattle.tw_rbtree.proofs.Keeping.{below-turned, tree_page-as}
use Rattle.tw_rbtree.proofs.ListLaws.{below_found, from_both, is-new, is-old, listed-empty, listed-leaf, listed-old}
use Rattle.tw_rbtree.proofs.ListLaws.{listed-on, listed-root, sides-listed}
use Rattle.tw_rbtree.proofs.PageLaws.{child-tried, root-is}
use Rattle.tw_rbtree.proofs.Standings.{tree-at}
use Rattle.tw_rbtree.proofs.WayLaws.{child_page-get}

pub when-same : {X : Type 0} (b : Bool) (page : ℕ) (x y : X) → when b page x ≡ Is y → x ≡ y
when-same true page x y e = same_found x y e
when-same false page x y e = cc

some_child : (c d : Child) → Some c ≡ Some d → c ≡ d
some_child c d e = cc

abbrev More : List NewNode → List NewNode → Type 0
More ns ms = (more : List NewNode) × (ms ≡ ns ++ more)

more-then : (a b c : List NewNode) → More a b → More b c → More a c
more-then a b c p q = (p.0 ++ q.0, q.1 ∙ ap (λ (x : List NewNode). x ++ q.0) p.1 ∙ append_assoc a p.0 q.0)

trees-from : (R S : Child → Tree → Type 0) (cs : List Child) (ts : List Tree) → AreTrees R cs ts
    → ((place : ℕ) (c : Child) → place < length cs → slice_get cs place ≡ Some c
    → S c (slice_index_or ts place NoEntry)) → AreTrees S cs ts
trees-from R S [] [] are f = tt
trees-from R S [] (t ∷ ts) are f = absurd are
trees-from R S (c ∷ cs) [] are f = absurd are
trees-from R S (c ∷ cs) (t ∷ ts) are f = (
  f 0 c (omega arith) refl,
  trees-from R S cs ts are.1 (λ place x less there. f (suc place) x (omega (arith, less)) there),
)

pub trees-each : (R S : Child → Tree → Type 0) (Q : Child → Type 0) → ((c : Child) (t : Tree) → Q c → R c t → S c t)
    → (cs : List Child) (ts : List Tree) → Each Q cs → AreTrees R cs ts → AreTrees S cs ts
trees-each R S Q f [] [] all are = tt
trees-each R S Q f [] (t ∷ ts) all are = absurd are
trees-each R S Q f (c ∷ cs) [] all are = absurd are
trees-each R S Q f (c ∷ cs) (t ∷ ts) all are = (f c t all.0 are.0, trees-each R S Q f cs ts all.1 are.1)

pub lower : (page since level : ℕ) → page < since → (c : Child) → LiesBelow page level c → LiesBelow since level c
lower page since zero less c lies = tt
lower page since (suc level) less c lies = omega (arith, less, lies)

-- ---- through a page

record Shaped (P : ℕ → List NewNode → Type 0) (page base : ℕ) (s : Shape) (nodes now : List NewNode) : Type 0 where
  more : More nodes now
  places : (place : ℕ) → base ≤ place → place ≤ base + size s → P place now
  own : 0 < size s → (n : NewNode) × In n now × (n.page ≡ page)

module _ (child : ListsAt) (es : List Entry) (P : ℕ → List NewNode → Type 0) (mono : (place : ℕ) (ns ms : List NewNode)
    → More ns ms → P place ns → P place ms)
    (marks : (low high : Option Entry) (place : ℕ) (nodes : List NewNode) (all : Listed) → place ≤ length es
    → child low high place nodes ≡ Is all → More nodes all.nodes × P place all.nodes) where
  shape-marks : (page : ℕ) (low high : Option Entry) (base : ℕ) (s : Shape) (nodes : List NewNode) (all : Listed)
      → base + size s ≤ length es → listed_at child es page low high base s nodes ≡ Is all → Shaped P page base s nodes
      all.nodes
  shape-marks page low high base Empty nodes all room found =
      let one = marks low high base nodes all (omega (arith, room))
      (sym (listed-empty child es page low high base nodes Empty refl) ∙ found) in
      record {
        more = one.0;
        places = λ place from to. let same : base ≡ place = omega (arith, from, to) in subst (λ (k : ℕ). P k all.nodes)
            same one.1;
        own = λ some. absurd (omega (arith, some));
      }
  shape-marks page low high base (Node red l r) nodes all room found =
      let here = get-some es [] es (base + size l) (omega (arith, room)) in
      let e : Entry = here.0 in
      let sides = sides-listed child es page low high base nodes red l r e all here.1 found in
      let left = sides.left in
      let right = sides.right in
      let n : NewNode = record { left = left.side; entry = e; right = right.side; page = page } in
      let end : right.nodes ++ n ∷ [] ≡ all.nodes = ap (λ (x : Listed). x.nodes) sides.all_is in
      let one = shape-marks 0 low (Some e) base l nodes left (omega (arith, room)) sides.left_is in
      let two = shape-marks 0 (Some e) high (base + size l + 1) r left.nodes right (omega (arith, room)) sides.right_is
      in
      let last : More right.nodes all.nodes = (n ∷ [], sym end) in
      let rest : More left.nodes all.nodes = more-then left.nodes right.nodes all.nodes two.more last in
      record {
        more = more-then nodes left.nodes all.nodes one.more rest;
        places = λ place from to.
            let cases : (place ≤ base + size l) ⊎ (base + size l + 1 ≤ place) = grind arith in
            elim cases [
              | inl near ↦ mono place left.nodes all.nodes rest (one.places place from near)
              | inr far ↦ mono place right.nodes all.nodes last (two.places place far (omega (arith, to)))
            ];
        own = λ some.
            (n, subst (λ (xs : List NewNode). In n xs) end (In-right n right.nodes (n ∷ []) (inl refl)), refl);
      }

-- ---- level by level

module _ (dig : List ℕ → List ℕ) (ps : Image) (since : ℕ) where
  abbrev Below : List NewNode → ℕ → Child → Tree → Type 0
  Below ns level c t = IsTreeBelow dig (IsMarked since ns) ps level c t

  below-more : (ns ms : List NewNode) → More ns ms → (level : ℕ) (c : Child) (t : Tree) → Below ns level c t
      → Below ms level c t
  below-more ns ms m level c t is =
      below-turned dig (IsMarked since ns) (IsMarked since ms) ps (λ page u has new. let h = has new in
      (h.0, subst (λ (xs : List NewNode). In h.0 xs) (sym m.1) (In-left h.0 ns m.0 h.1), h.2)) level c t is

  old-below : (ns : List NewNode) (level : ℕ) (c : Child) (t : Tree) → LiesBelow since level c
      → IsTreeBelow dig any_page ps level c t → Below ns level c t
  unfolding IsTreeBelow
  old-below ns zero c t lies is = is
  old-below ns (suc level) c t lies is =
      let b = is.1 in
      let under = subst (λ (n : ℕ). Each (LiesBelow c.page n) b.node.children) b.level_is b.at.may_stand.below in (
        is.0,
        tree_page-as b b.least_keys b.at
            (trees-each (IsTreeBelow dig any_page ps level) (Below ns level) (LiesBelow since level)
            (old-below ns level) b.node.children b.trees (Each-map (LiesBelow c.page level) (LiesBelow since level)
            b.node.children (lower c.page since level lies) under) b.are_trees)
            (λ (new : since ≤ c.page). absurd (omega (arith, new, lies))),
      )

  abbrev Placed : (level : ℕ) → TreePage → List Tree → ℕ → List NewNode → Type 0
  Placed level p us place ns = (c : Child) → slice_get p.children place ≡ Some c
      → Below ns level c (slice_index_or us place NoEntry)

  page-marks : (level least page : ℕ) (t : Tree) (b : IsTreePage dig any_page ps (IsTreeBelow dig any_page ps level)
      level least page t) (page_ : ℕ) (nodes now : List NewNode) → page_ ≡ page
      → Shaped (Placed level b.node b.trees) page_ 0 b.node.shape nodes now → IsTreePage dig (IsMarked since now) ps
      (Below now level) level least page t
  page-marks level least page t b page_ nodes now same shaped =
      let node = b.at.may_stand.node in
      tree_page-as b b.least_keys b.at
      (trees-from (IsTreeBelow dig any_page ps level) (Below now level) b.node.children b.trees b.are_trees
      (λ place c less there. shaped.places place (omega arith) (omega (arith, less, node.sized, node.places)) c there))
      (λ (new : since ≤ page). let own = shaped.own (omega (arith, node.sized, node.some)) in
      (own.0, own.1, own.2 ∙ same))

  level-marks : (level page : ℕ) (p : TreePage) (us : List Tree) → IsPageAt dig ps page p → p.level ≡ level
      → AreTrees (IsTreeBelow dig any_page ps level) p.children us
      → (low high : Option Entry) (place : ℕ) (nodes : List NewNode) (all : Listed) → place ≤ length p.entries
      → child_listed dig ps since level p low high place nodes ≡ Is all → More nodes all.nodes × Placed level p us place
      all.nodes
  unfolding IsTreeBelow
  level-marks zero page p us at is are low high place nodes all room found =
      let c = tree-at (IsTreeBelow dig any_page ps zero) p.children us are place
      (omega (arith, room, at.may_stand.node.places)) in
      let same : nodes ≡ all.nodes = ap (λ (x : Listed). x.nodes) (same_found (record { nodes = nodes; side = NoTree })
      all (sym (listed-leaf dig ps since p low high place nodes zero refl) ∙ found)) in
      (([], sym same ∙ sym (append-nil nodes)), (λ d there. c.is))
  level-marks (suc level) page p us at is are low high place nodes all room found =
      let c = tree-at (IsTreeBelow dig any_page ps (suc level)) p.children us are place
      (omega (arith, room, at.may_stand.node.places)) in
      let b = c.is.1 in
      let q = b.node in
      let t : Tree = slice_index_or us place NoEntry in
      let number : child_page p place ≡ c.child.page = child_page-get p place c.child c.there in
      let cases : (child_page p place < since) ⊎ (since ≤ child_page p place) = grind arith in
      elim cases [
        | inl old ↦
            let same : nodes ≡ all.nodes = ap (λ (x : Listed). x.nodes)
            (same_found (record { nodes = nodes; side = Old (child_page p place) }) all
            (sym (listed-old dig ps since p low high place nodes (suc level) level refl
            (is-old (child_page p place) since (omega (arith, number, b.at.low)) old)) ∙ found)) in
            let lies : c.child.page < since = omega (arith, number, old) in (
              ([], sym same ∙ sym (append-nil nodes)),
              (λ d there. subst (λ (x : Child). Below all.nodes (suc level) x t)
                  (some_child c.child d (sym c.there ∙ there)) (old-below all.nodes (suc level) c.child t lies c.is)),
            )
        | inr new ↦
            let on = from_both (child_in dig ps level low high (child_page p place)) (below_found dig ps since p low
            high place nodes level) all (sym (listed-on dig ps since p low high place nodes (suc level) level refl
            (is-new (child_page p place) since new)) ∙ found) in
            let tried = child-tried dig ps level low high (child_page p place) q
            (ap (node_in dig ps) number ∙ root-is dig ps c.child.page q b.at) in
            let one : q ≡ on.0 = when-same (fits level low high q) (child_page p place) q on.0 (sym tried ∙ on.1) in
            let inner = shape-marks (child_listed dig ps since level q) q.entries (Placed level q b.trees)
            (λ i ns ms m has d there. below-more ns ms m level d (slice_index_or b.trees i NoEntry) (has d there))
            (level-marks level c.child.page q b.trees b.at b.level_is b.are_trees) (child_page p place) low high 0
            q.shape nodes all (omega (arith, b.at.may_stand.node.sized))
            (ap (below_found dig ps since p low high place nodes level) one ∙ on.2) in
            let whole : Below all.nodes (suc level) c.child t =
            (c.is.0, page-marks level 12 c.child.page t b (child_page p place) nodes all.nodes number inner) in (
              inner.more,
              (λ d there. subst (λ (x : Child). Below all.nodes (suc level) x t)
                  (some_child c.child d (sym c.there ∙ there)) whole),
            )
      ]

  pub root-marks : (root : Root) (t : Tree) (nodes : List NewNode) → StandsForTree dig ps root t → root.page ≢ 0
      → since ≤ root.page → listed dig ps since root ≡ Is nodes → StandsWith dig (IsMarked since nodes) ps root t
  root-marks root t nodes stands some new found =
      record { rising = stands.rising; label = stands.label; tree = by stands.tree }
    where
      older : ((root.page == 0) || is_old root.page since) ≡ false
      older = λ i. ne_eqb root.page 0 some i || is-new root.page since new i

      by : IsRootTree dig any_page ps root.page t → IsRootTree dig (IsMarked since nodes) ps root.page t
      by (inl none) = absurd (some none.0)
      by (inr (level, b)) =
          let p = b.node in
          let first = sym (is_on (node_in dig ps root.page) (λ (p : TreePage). listed_at (child_listed dig ps since
          p.level p) p.entries root.page None None 0 p.shape [] >>= (λ (all : Listed). Is all.nodes)) p
          (root-is dig ps root.page p b.at)) ∙ sym (listed-root dig ps since root older) ∙ found in
          let at_level = ap (λ (n : ℕ). listed_at (child_listed dig ps since n p) p.entries root.page None None 0
          p.shape [] >>= (λ (all : Listed). Is all.nodes)) (sym b.level_is) ∙ first in
          let on = from_both (listed_at (child_listed dig ps since level p) p.entries root.page None None 0 p.shape [])
          (λ (all : Listed). Is all.nodes) nodes at_level in
          let inner = shape-marks (child_listed dig ps since level p) p.entries (Placed level p b.trees)
          (λ i ns ms m has d there. below-more ns ms m level d (slice_index_or b.trees i NoEntry) (has d there))
          (level-marks level root.page p b.trees b.at b.level_is b.are_trees) root.page None None 0 p.shape [] on.0
          (omega (arith, b.at.may_stand.node.sized)) on.1 in
          inr (
            level,
            subst (λ (xs : List NewNode). IsTreePage dig (IsMarked since xs) ps (Below xs level) level 1 root.page t)
                (same_found on.0.nodes nodes on.2) (page-marks level 1 root.page t b root.page [] on.0.nodes refl
                inner),
          )
