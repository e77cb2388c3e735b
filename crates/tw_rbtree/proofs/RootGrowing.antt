-- A root with an entry more below it.
use Rattle.std.proofs.Common.{◌≡◌, ◌≢◌, ℕ, ◌≤◌, List, length, Bool, true, refl, ap, sym, ◌∙◌, subst, arith, inl, inr}
use Rattle.std.proofs.Common.{Result, Ok, Err}
use Rattle.std.specs.Prelude.{Option, Some, None, IfOk, map}
use Rattle.std.proofs.lemmas.Result.{IfOk-weaker}
use Rattle.tw_base.specs.declared.history.root.Root.{Root}
use Rattle.tw_base.specs.declared.history.thread.Entry.{Entry}
use Rattle.tw_base.specs.declared.history.thread.Key.{Key}
use Rattle.tw_base.specs.declared.history.tree_proof.Ask.TheVariants.{Absent}
use Rattle.tw_base.specs.history.Asking.{entry_with, with_entry}
use Rattle.tw_base.specs.history.Entries.{key_of}
use Rattle.tw_base.specs.history.Tree.{Tree, IsRising, entries}
use Rattle.tw_base.specs.history.Tree.Tree.{Empty}
use Rattle.tw_disk.specs.Found.Found.{Is}
use Rattle.tw_disk.specs.Image.{Image}
use Rattle.tw_disk.proofs.FoundLaws.{is_on, same_found}
use Rattle.tw_rbnode.specs.declared.child.Child.{Child}
use Rattle.tw_rbnode.specs.Page.{TreePage}
use Rattle.tw_rbnode.specs.Trees.{woven}
use Rattle.tw_rbnode.proofs.TreeLists.{page-list}
use Rattle.tw_base.specs.history.WithLeaf.{with_leaf}
use Rattle.tw_base.proofs.lemmas.history.Leaves.{has-leaf}
use Rattle.tw_rbtree.specs.declared.fault.TreeFault.{TreeFault}
use Rattle.tw_rbtree.specs.declared.fault.TreeFault.TheVariants.{Present}
use Rattle.tw_rbtree.specs.declared.inserting.Grown.{Grown}
use Rattle.tw_rbtree.specs.Growing.{GrownLists, IsChildTree, all_full, grows_from, grows_if, grows_of}
use Rattle.tw_rbtree.specs.Reading.{lie_between, node_in}
use Rattle.tw_rbtree.specs.Standing.{AreTrees, HasNamed, IsRootTree, IsTreeBelow, IsTreePage, Named, OfPage}
use Rattle.tw_rbtree.specs.Standing.{StandsForTree, StandsWith, any_page}
use Rattle.tw_rbtree.specs.Ways.{end_of_way, nowhere, way_from}
use Rattle.tw_rbtree.proofs.Keeping.{stands-any, stands-unnamed, tree_page-as}
use Rattle.tw_rbtree.proofs.PageLaws.{root-is}
use Rattle.tw_rbtree.proofs.RootWays.{all_between, root-way}
use Rattle.tw_rbtree.proofs.Standings.{trees-count}
use Rattle.tw_rbtree.proofs.WayLaws.{way-root}
use Rattle.tw_rbtree.proofs.Weaving.{between-all}

pub all-lie_between : (es : List Entry) → lie_between None None es ≡ true
all-lie_between es = between-all None None es (all_between es)

-- ---- where the pages stand for a tree

module _ (dig : List ℕ → List ℕ) (Has : OfPage) (ps : Image) (root : Root) (t : Tree)
    (stands : StandsWith dig Has ps root t) where
  -- the page of the root over its children's trees
  pub record OwnTrees (p : TreePage) : Type 0 where
    pub trees : List Tree
    pub are : AreTrees (IsTreeBelow dig Has ps p.level) p.children trees
    pub rising : IsRising (woven (map entries trees) p.entries)
    pub lists : woven (map entries trees) p.entries ≡ entries t
    pub keys : 1 ≤ length p.entries

  pub own-trees : (p : TreePage) → root.page ≢ 0 → node_in dig ps root.page ≡ Is p → OwnTrees p
  own-trees p some found = by stands.tree
    where
      by : IsRootTree dig Has ps root.page t → OwnTrees p
      by (inl none) = absurd (some none.0)
      by (inr (level, is)) =
          let q_is : is.node ≡ p = same_found is.node p (sym (root-is dig ps root.page is.node is.at) ∙ found) in
          let are_at : AreTrees (IsTreeBelow dig Has ps is.node.level) is.node.children is.trees =
          subst (λ (n : ℕ). AreTrees (IsTreeBelow dig Has ps n) is.node.children is.trees) (sym is.level_is)
          is.are_trees in
          let count = trees-count (IsTreeBelow dig Has ps level) is.node.children is.trees is.are_trees in
          let lists : woven (map entries is.trees) is.node.entries ≡ entries t =
          sym (page-list is.node is.trees is.at.may_stand.node count) ∙ ap entries (sym is.tree_is) in
          subst OwnTrees q_is
          (record {
            trees = is.trees;
            are = are_at;
            rising = subst IsRising (sym lists) stands.rising;
            lists = lists;
            keys = is.least_keys;
          })

  pub empty-tree : root.page ≡ 0 → t ≡ Empty
  empty-tree none = by stands.tree
    where
      by : IsRootTree dig Has ps root.page t → t ≡ Empty
      by (inl is) = is.1
      by (inr (level, is)) = absurd (omega (arith, none, is.at.low))

  -- the list with the entry rises, where the way found no entry of its key
  pub rises-with : (entry : Entry) (p : TreePage) (two : Bool) → root.page ≢ 0 → node_in dig ps root.page ≡ Is p
      → grows_from dig ps (key_of entry) p.level None None p ≡ Is (Ok two) → IsRising (with_entry (entries t) entry)
  unfolding grows_from
  rises-with entry p two some first grows =
      let key : Key = key_of entry in
      let w = root-way dig ps (Absent (key_of entry)) root t (stands-any dig Has ps root t stands) in
      let found : way_from dig ps (Absent (key_of entry)) p.level None None p ≡ Is w.stops =
      sym (way-root dig ps (Absent (key_of entry)) root some ∙ is_on (node_in dig ps root.page)
      (λ q. way_from dig ps (Absent (key_of entry)) q.level None None q) p first) ∙ w.found in
      let ends : grows_of w.stops ≡ Ok two =
      same_found (grows_of w.stops) (Ok two) (sym (is_on (way_from dig ps (Absent (key_of entry)) p.level None None p)
      (λ stops. Is (grows_of stops)) w.stops found) ∙ grows) in
      let absent : entry_with (entries t) (key_of entry) ≡ None = w.tells ∙ none (end_of_way nowhere w.stops).met
      (all_full w.stops) ends in
      let leaf = has-leaf entry t (with_leaf t entry) stands.rising absent refl in
      subst IsRising leaf.list leaf.rising
    where
      none : (o : Option Entry) (full : Bool) → grows_if o full ≡ Ok two → o ≡ None
      none None full is = refl
      none (Some e) full is = absurd (let wrong : ◌≡◌ {A = Result Bool TreeFault} (Err Present) (Ok two) = is in cc)

  -- what the root's page has become, where it lists of its children's trees what they do with the entry
  pub record RootGrown (entry : Entry) (p : TreePage) (told : Option Image) (g : Grown) : Type 0 where
    pub now : Image
    pub told_now : told ≡ Some now
    pub lists : GrownLists dig Has now p.level (length p.entries) (with_entry (entries t) entry) g
    pub rising : IsRising (with_entry (entries t) entry)
    pub keys : 1 ≤ length p.entries

  pub root-grown : (entry : Entry) (p : TreePage) (two : Bool) (told : Option Image) (g : Grown) → root.page ≢ 0
      → node_in dig ps root.page ≡ Is p → grows_from dig ps (key_of entry) p.level None None p ≡ Is (Ok two)
      → ((ts : List Tree) → AreTrees (IsTreeBelow dig Has ps p.level) p.children ts
      → IsRising (woven (map entries ts) p.entries) → (now : Image) × (told ≡ Some now) × GrownLists dig Has now p.level
      (length p.entries) (with_entry (woven (map entries ts) p.entries) entry) g) → RootGrown entry p told g
  root-grown entry p two told g some found grows lists =
      let own = own-trees p some found in
      let all = lists own.trees own.are own.rising in
      record {
        now = all.0;
        told_now = all.1;
        lists = subst (λ (es : List Entry). GrownLists dig Has all.0 p.level (length p.entries) (with_entry es entry) g)
            own.lists all.2;
        rising = rises-with entry p two some found grows;
        keys = own.keys;
      }

abbrev Inserted : (List ℕ → List ℕ) → OfPage → (told : Option Image) → Root → List Entry → Type 0
Inserted dig Has told new es =
    (now : Image) × (grown : Tree) × (told ≡ Some now) × StandsWith dig Has now new grown × (entries grown ≡ es)

abbrev unnamed : Named
unnamed = record { below = 0; tree = λ page. Empty }

-- where an entry goes into a tree whatever is named, it goes into one of which nothing is
pub inserted-plain : (dig : List ℕ → List ℕ) (ps : Image) (root : Root) (entry : Entry) (told : Option Image)
    (used : ℕ) (r : Result Root TreeFault) → ((named : Named) → named.below ≤ used → (t : Tree)
    → StandsWith dig (HasNamed named) ps root t
    → IfOk r (λ new. Inserted dig (HasNamed named) told new (with_entry (entries t) entry)))
    → (t : Tree) → StandsForTree dig ps root t
    → IfOk r (λ new. Inserted dig any_page told new (with_entry (entries t) entry))
inserted-plain dig ps root entry told used r inserted t stands =
    IfOk-weaker r (λ new. Inserted dig (HasNamed unnamed) told new (with_entry (entries t) entry))
    (λ new. Inserted dig any_page told new (with_entry (entries t) entry))
    (λ new all. (all.0, all.1, all.2, stands-any dig (HasNamed unnamed) all.0 new all.1 all.3, all.4))
    (inserted unnamed (omega arith) t (stands-unnamed dig unnamed ps refl root t stands))

-- a child that is a tree, as a root
pub root-stands : (dig : List ℕ → List ℕ) (Has : OfPage) (now : Image) (level least : ℕ) (c : Child) (t : Tree)
    (new : Root) → 1 ≤ least → IsChildTree dig Has now level least c t → IsRising (entries t) → new.page ≡ c.page
    → new.label ≡ c.label → StandsWith dig Has now new t
root-stands dig Has now level least c t new some is rising page label = record {
  rising = rising;
  label = label ∙ is.0;
  tree = inr (
    level,
    subst (λ (n : ℕ). IsTreePage dig Has now (IsTreeBelow dig Has now level) level 1 n t) (sym page)
        (tree_page-as is.1 (omega (arith, some, is.1.least_keys)) is.1.at is.1.are_trees is.1.has),
  );
}
