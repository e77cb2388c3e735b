-- The archive grown by one thread, from what is listed of its new pages.
use Rattle.std.proofs.Common.{◌≡◌, ◌≢◌, ◌⊎◌, ℕ, suc, List, [], ◌++◌, length, refl, sym, ◌∙◌, subst, arith}
use Rattle.std.specs.Prelude.{Option, Some}
use Rattle.tw_base.specs.declared.history.root.Root.{Root}
use Rattle.tw_base.specs.declared.history.thread.Entry.{Entry}
use Rattle.tw_base.specs.declared.history.thread.Thread.{Thread}
use Rattle.tw_base.specs.history.History.{History, Step, entry_to, plus}
use Rattle.tw_base.specs.history.Sound.{IsSound}
use Rattle.tw_base.specs.history.Tree.{Tree, entries, tree}
use Rattle.tw_base.specs.kinds.Lists.{Each, In}
use Rattle.tw_base.proofs.lemmas.history.AskedLists.{length-with_entry, with_entry-in}
use Rattle.tw_base.proofs.lemmas.kinds.ListLemmas.{Each-map}
use Rattle.tw_disk.specs.Found.Found.{Is}
use Rattle.tw_disk.specs.Image.{Image}
use Rattle.tw_disk.proofs.FoundLaws.{same_found}
use Rattle.tw_rbnode.specs.Page.{TreePage}
use Rattle.tw_rbtree.specs.declared.new_node.NewNode.{NewNode}
use Rattle.tw_rbtree.specs.Listing.{listed}
use Rattle.tw_rbtree.specs.Planting.{AreNodeTrees, IsMarked}
use Rattle.tw_rbtree.specs.Reading.{IsPageAt}
use Rattle.tw_rbtree.specs.Standing.{HasNamed, IsRootTree, OfPage, StandsWith, any_page}
use Rattle.tw_rbtree.proofs.Keeping.{root-once, stands-any}
use Rattle.tw_rbtree.proofs.Markings.{root-marks}
use Rattle.tw_rbtree.proofs.PageLaws.{one_page as page-once}
use Rattle.tw_rbtree.proofs.Plantings.{IsWithin, root-plants}
use Rattle.tw_archive.specs.Archives.{Agree, HasGrown, KeepsTrees, MayArchive, archiving, named_at}
use Rattle.tw_archive.specs.Numbering.{numbered_archive, new_from}
use Rattle.tw_archive.proofs.Archiving.{entry-known, tree-next}
use Rattle.tw_archive.proofs.Keeping.{keeps-on, kept-named}
use Rattle.tw_archive.proofs.NextTree.{keeps-last, from-some, stays-sound}
use Rattle.tw_archive.proofs.Planted.{entries-within}

module _ (dig : List ℕ → List ℕ) (ps more : Image) (h : History) (step_page : ℕ → ℕ) (archive : ℕ → Root) (root : Root)
    (grown : Tree) (t : Thread) (time : Option ℕ)
    (keeps : KeepsTrees dig ps h step_page archive) (has : HasGrown dig ps more h step_page archive root grown t) where
  abbrev now : Image
  now = ps ++ more

  abbrev last : ℕ
  last = length h.steps

  abbrev from : ℕ
  from = new_from step_page last

  abbrev Known : OfPage
  Known = HasNamed (named_at dig ps h step_page archive last)

  abbrev step_of : List NewNode → Step
  step_of nodes = archiving (numbered_archive dig ps step_page archive last) t time nodes root.page

  some : root.page ≢ 0
  some none = let low = has.behind in let first = from-some step_page last in absurd (omega (arith, none, low, first))

  one_page : (page : ℕ) (p q : TreePage) → IsPageAt dig now page p → IsPageAt dig now page q → p ≡ q
  one_page page p q one other = page-once dig now page p q one other

  one_tree : (page : ℕ) (a b : Tree) → IsRootTree dig any_page now page a → IsRootTree dig any_page now page b → a ≡ b
  one_tree page a b one other = root-once dig any_page now page a b one other

  grown-members : (e : Entry) → In e (entries grown) → (e ≡ record { thread = t; archived = suc last })
      ⊎ In e (entries (tree h last))
  grown-members e there = with_entry-in (record { thread = t; archived = suc last }) (entries (tree h last)) e
      (subst (λ (es : List Entry). In e es) has.lists there)

  -- nodes are listed of the new tree
  pub grown-nodes : (nodes : List NewNode) × (listed dig now from root ≡ Is nodes)
  grown-nodes = let p = root-plants dig Known now root grown from has.stands some has.behind in (p.nodes, p.found_is)

  module _ (nodes : List NewNode) (is : listed dig now from root ≡ Is nodes) where
    -- they stand for trees, whose entries are entries of the new tree
    listed-trees : (trees : List Tree) × AreNodeTrees dig Known now from [] nodes trees × Each (IsWithin grown) trees
    listed-trees =
        let p = root-plants dig Known now root grown from has.stands some has.behind in
        let same : p.nodes ≡ nodes = same_found p.nodes nodes (sym p.found_is ∙ is) in
        (p.trees, subst (λ (ns : List NewNode). AreNodeTrees dig Known now from [] ns p.trees) same p.are, p.within)

    -- their entries are those of steps of the longer history
    listed-known : Each (λ (n : NewNode). entry_to (plus h (step_of nodes)) (suc last) n.entry.archived ≡ Some n.entry)
        nodes
    listed-known =
        let all = listed-trees in
        entries-within dig Known now from (λ (e : Entry). entry_to (plus h (step_of nodes)) (suc last) e.archived ≡ Some
        e) [] nodes all.0 all.1
        (Each-map (IsWithin grown) (λ (x : Tree). (e : Entry) → In e (entries x) → entry_to (plus h (step_of nodes))
        (suc last) e.archived ≡ Some e) all.0
        (λ x inside e there. entry-known h (step_of nodes) t refl grown grown-members e (inside e there)) all.2)

    marks : StandsWith dig (IsMarked from nodes) now root grown
    marks = root-marks dig now from root grown nodes (stands-any dig Known now root grown has.stands) some has.behind is

    -- the step that archives the thread with them has the new tree
    pub grown-tree : tree (plus h (step_of nodes)) (suc last) ≡ grown
    grown-tree = let all = listed-trees in tree-next dig ps h step_page archive keeps now one_page one_tree root grown t
        time nodes all.0 all.1 listed-known has.stands marks some

    module _ (next_page : ℕ → ℕ) (next_archive : ℕ → Root) (pages_same : Agree (length h.steps) step_page next_page)
        (roots_same : Agree (length h.steps) archive next_archive)
        (root_is : next_archive (suc (length h.steps)) ≡ root) where
      -- the pages keep the tree of each step with it
      pub archived-keeps : KeepsTrees dig now (plus h (step_of nodes)) next_page next_archive
      archived-keeps =
          let all = listed-trees in
          keeps-on dig ps h step_page archive keeps more next_page next_archive pages_same roots_same (step_of nodes)
          (kept-named dig ps more)
          (keeps-last dig ps h step_page archive keeps more one_page one_tree root grown t time nodes all.0 next_page
          next_archive pages_same roots_same root_is is some all.1 listed-known has.stands marks)

      -- and the history stays sound
      pub archived-sound : IsSound h → MayArchive h t time → IsSound (plus h (step_of nodes))
      archived-sound sound may =
          let all = listed-trees in
          stays-sound dig ps h step_page archive keeps more one_page one_tree root grown t time nodes all.0 next_page
          next_archive pages_same roots_same root_is is some all.1 listed-known has.stands marks
          (λ es e. length-with_entry e es) has.lists archived-keeps sound may
