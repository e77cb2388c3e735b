-- The step that archives a thread: its new nodes stand for the new tree, and the pages keep it.
use Rattle.std.proofs.Common.{◌≡◌, ◌≢◌, ◌⊎◌, ℕ, suc, ◌+◌, ◌-◌, ◌<◌, ◌≤◌, List, [], ◌∷◌, ◌++◌, length, get_or, refl, ap}
use Rattle.std.proofs.Common.{sym, ◌∙◌, subst, arith, inl, inr, Bool}
use Rattle.std.specs.Prelude.{Option, Some, None, map, option_and_then, cond}
use Rattle.std.proofs.lemmas.Bool.{cases_lt, le-leb}
use Rattle.std.proofs.lemmas.List.{get_or_append_left, get_or-append_right}
use Rattle.std.proofs.lemmas.Option.{get_or_from_slice_get}
use Rattle.tw_base.specs.declared.history.root.Root.{Root}
use Rattle.tw_base.specs.declared.history.thread.Entry.{Entry}
use Rattle.tw_base.specs.declared.history.thread.Thread.{Thread}
use Rattle.tw_base.specs.history.History.{History, Step, entry_at, entry_to, fresh_of, plus, root_of, step_at}
use Rattle.tw_base.specs.history.History.{thread_of}
use Rattle.tw_base.specs.history.Rules.{NodesFit}
use Rattle.tw_base.specs.history.Tree.{Tree, entries, forest, new_trees, planted, tree}
use Rattle.tw_base.specs.history.Tree.Tree.{Empty}
use Rattle.tw_base.specs.kinds.Lists.{Each, In}
use Rattle.tw_base.proofs.lemmas.kinds.ListLemmas.{Each-in}
use Rattle.tw_base.proofs.lemmas.history.Plus.{entry_at-plus, forest-first, forest-plus, step_at-new}
use Rattle.tw_base.proofs.lemmas.history.Trees.{IsArchived, tree-archived}
use Rattle.tw_disk.specs.Image.{Image}
use Rattle.tw_rbnode.specs.Page.{TreePage}
use Rattle.tw_rbtree.specs.declared.new_node.NewNode.{NewNode}
use Rattle.tw_rbtree.specs.Planting.{AreNodeTrees, IsMarked, IsMarkOf}
use Rattle.tw_rbtree.specs.Reading.{IsPageAt}
use Rattle.tw_rbtree.specs.Standing.{HasNamed, IsRootTree, OfPage, StandsWith, any_page}
use Rattle.tw_archive.specs.Archives.{KeepsTrees, archiving, named_at, named_by}
use Rattle.tw_archive.specs.Numbering.{Numbered, history_node, number_of_page, numbered_archive, numbered_on}
use Rattle.tw_archive.specs.Numbering.{numbers_of_nodes, new_from}
use Rattle.tw_archive.proofs.Haves.{IsPage, same-tree, stands-both}
use Rattle.tw_archive.proofs.Keeping.{forest-count}
use Rattle.tw_archive.proofs.Numbers.{marked, number-up_to, unmarked}
use Rattle.tw_archive.proofs.Planted.{node-tree, nodes-fit, older-unmarked, planted-are}

pub entry_at-archived : (h : History) (k : ℕ) (e : Entry) → entry_at h k ≡ Some e → e.archived ≡ k
entry_at-archived h k e is = by (thread_of (step_at h k)) is
  where
    by : (o : Option Thread) → option_and_then (λ t. Some (record { thread = t; archived = k })) o ≡ Some e
        → e.archived ≡ k
    by None found = cc
    by (Some t) found =
        let made : Entry = record { thread = t; archived = k } in
        let one : made ≡ e = cc in ap (λ (x : Entry). x.archived) (sym one)

entry_to-in : (h : History) (i k : ℕ) (e : Entry) → k ≤ i → entry_at h k ≡ Some e → entry_to h i k ≡ Some e
unfolding entry_to
entry_to-in h i k e within at = ap (λ (b : Bool). cond b (entry_at h k) None) (le-leb k i within) ∙ at

-- each entry of the archive with the thread is that of its step
module _ (h : History) (s : Step) (t : Thread) (content : thread_of (Some s) ≡ Some t) (grown : Tree) where
  abbrev new_entry : Entry
  new_entry = record { thread = t; archived = suc (length h.steps) }

  pub new-at : entry_at (plus h s) (suc (length h.steps)) ≡ Some new_entry
  new-at =
      ap (λ (o : Option Step). option_and_then (λ u. Some (record { thread = u; archived = suc (length h.steps) }))
      (thread_of o)) (step_at-new h s)
      ∙ ap (λ (o : Option Thread). option_and_then (λ u. Some (record { thread = u; archived = suc (length h.steps) }))
      o) content

  pub entry-known : ((e : Entry) → In e (entries grown) → (e ≡ new_entry) ⊎ In e (entries (tree h (length h.steps))))
      → (e : Entry) → In e (entries grown)
      → entry_to (plus h s) (suc (length h.steps)) e.archived ≡ Some e
  entry-known members e there = elim (members e there) [
    | inl new ↦ subst (λ (x : Entry). entry_to (plus h s) (suc (length h.steps)) x.archived ≡ Some x) (sym new)
        (entry_to-in (plus h s) (suc (length h.steps)) (suc (length h.steps)) new_entry (omega arith) new-at)
    | inr old ↦ (let is = Each-in (IsArchived h (length h.steps)) (entries (tree h (length h.steps))) e
        (tree-archived h (length h.steps)) old in
        let at : entry_at (plus h s) is.0 ≡ Some e = entry_at-plus h s is.0 is.1 ∙ is.2 in
        subst (λ (k : ℕ). entry_to (plus h s) (suc (length h.steps)) k ≡ Some e) (sym (entry_at-archived h is.0 e is.2))
        (entry_to-in (plus h s) (suc (length h.steps)) is.0 e (let less = is.1 in omega (arith, less)) at))
  ]

module _ (dig : List ℕ → List ℕ) (ps : Image) (h : History) (step_page : ℕ → ℕ) (archive : ℕ → Root)
    (keeps : KeepsTrees dig ps h step_page archive) (now : Image)
    (one_page : (page : ℕ) (p q : TreePage) → IsPageAt dig now page p → IsPageAt dig now page q → p ≡ q)
    (one_tree : (page : ℕ) (a b : Tree) → IsRootTree dig any_page now page a → IsRootTree dig any_page now page b
    → a ≡ b)
    (root : Root) (grown : Tree) (t : Thread) (time : Option ℕ) (nodes : List NewNode) (trees : List Tree) where
  abbrev last : ℕ
  last = length h.steps

  abbrev Now : Numbered
  Now = numbered_archive dig ps step_page archive last

  abbrev from : ℕ
  from = new_from step_page last

  abbrev Known : OfPage
  Known = HasNamed (named_at dig ps h step_page archive last)

  abbrev s : Step
  s = archiving Now t time nodes root.page

  module _ (are : AreNodeTrees dig Known now from [] nodes trees)
      (known : Each (λ (n : NewNode). entry_to (plus h s) (suc last) n.entry.archived ≡ Some n.entry) nodes) where
    -- the step's nodes stand for the trees that were listed
    pub trees-new : new_trees (plus h s) last ≡ trees
    trees-new =
        (λ i. planted (entry_to (plus h s) (suc last)) (forest-plus h s last (omega arith) i)
        (fresh_of (step_at-new h s i)))
        ∙ ap (λ (ts : List Tree). planted (entry_to (plus h s) (suc last)) ts
        (map (history_node Now.pages Now.count) nodes)) (sym (append-none (forest h last)))
        ∙ planted-are dig now (forest h last) Now.count (forest-count dig ps h step_page archive keeps last
        (omega arith)) (forest-first h last) Now.pages
        (number-up_to dig ps step_page archive last) from (entry_to (plus h s) (suc last)) [] nodes trees are known
      where
        append-none : (ts : List Tree) → ts ++ [] ≡ ts
        append-none [] = refl
        append-none (x ∷ xs) = ap (λ (ys : List Tree). x ∷ ys) (append-none xs)

    pub forest-next : forest (plus h s) (suc last) ≡ forest h last ++ trees
    unfolding forest
    forest-next = λ i. forest-plus h s last (omega arith) i ++ trees-new i

    -- the nodes name nodes before them, and steps that received a thread
    pub nodes-known : NodesFit (plus h s) (suc last) (length (forest (plus h s) last))
        (map (history_node Now.pages Now.count) nodes)
    nodes-known =
        let count = forest-count dig ps h step_page archive keeps last (omega arith) in
        let first : Now.count + 1 + 0 ≡ length (forest (plus h s) last) =
        omega (arith, count, ap (λ (ts : List Tree). length ts) (forest-plus h s last (omega arith))) in
        subst (λ (number : ℕ). NodesFit (plus h s) (suc last) number (map (history_node Now.pages Now.count) nodes))
        first
        (nodes-fit dig Known now from (plus h s) (suc last) Now.pages Now.count
        (number-up_to dig ps step_page archive last) [] nodes trees are known)

    -- the number of a page that a node marks is that of its tree
    pub marked-tree : (level least page : ℕ) (u : Tree) → page ≢ 0 → 1 ≤ least → IsPage dig now Known level least page u
        → (n : NewNode) → In n nodes → n.page ≡ page
        → get_or (forest h last ++ trees) (number_of_page (numbers_of_nodes Now.count nodes ++ Now.pages) page) Empty
        ≡ u
    marked-tree level least page u some keys is n there marks =
        let m = marked Now.pages page some Now.count nodes n there marks in
        let tree_of = node-tree dig Known now from [] nodes trees are m.place m.node m.there in
        let count = forest-count dig ps h step_page archive keeps last (omega arith) in
        ap (λ (k : ℕ). get_or (forest h last ++ trees) k Empty) m.number
        ∙ get_or-append_right (forest h last) trees (Now.count + 1) (Now.count + m.place + 1) Empty count (omega arith)
        ∙ ap (λ (k : ℕ). get_or trees k Empty) (let e : Now.count + m.place + 1 - (Now.count + 1) ≡ m.place =
        omega arith in e)
        ∙ get_or_from_slice_get trees m.place tree_of.0 Empty tree_of.1
        ∙ same m.node m.marks tree_of.0 tree_of.2
      where
        same : (m : NewNode) → m.page ≡ page → (v : Tree) → IsMarkOf dig Known now from m.page v → v ≡ u
        same m mark v (inl zero_is) = absurd (some (sym mark ∙ zero_is))
        same m mark v (inr is_of) =
            same-tree dig now one_page one_tree Known Known page is_of.1.0 is_of.1.1 v level least u
            (subst (λ (p : ℕ). IsPage dig now Known is_of.1.0 is_of.1.1 p v) mark is_of.1.2) keys is

    -- a page of the tree has the number of its tree
    pub page-numbered : (below : ℕ) → (level least page : ℕ) (u v : Tree) → 1 ≤ least → IsPage dig now Known level least
        page u → IsMarked from nodes page v
        → HasNamed (named_by (numbered_on Now nodes).pages (forest (plus h s) (suc last)) below) page u
    page-numbered below level least page u v keys is marks less =
        ap (λ (ts : List Tree). get_or ts (number_of_page (numbers_of_nodes Now.count nodes ++ Now.pages) page) Empty)
        forest-next ∙ by (cases_lt page from)
      where
        some : page ≢ 0
        some none = (let low = is.at.low in absurd (omega (arith, none, low)))

        by : (page < from) ⊎ (from ≤ page) → get_or (forest h last ++ trees)
            (number_of_page (numbers_of_nodes Now.count nodes ++ Now.pages) page) Empty ≡ u
        by (inl old) =
            let count = forest-count dig ps h step_page archive keeps last (omega arith) in
            let low = number-up_to dig ps step_page archive last page in
            ap (λ (k : ℕ). get_or (forest h last ++ trees) k Empty)
            (unmarked Now.pages page some Now.count nodes (older-unmarked dig Known now from page some old [] nodes
            trees are))
            ∙ get_or_append_left (forest h last) trees Empty (number_of_page Now.pages page) (omega (arith, count, low))
            ∙ is.has old
        by (inr new) = let m = marks new in marked-tree level least page u some keys is m.0 m.1 m.2

    module _ (stands : StandsWith dig Known now root grown) (marks : StandsWith dig (IsMarked from nodes) now root
        grown) where
      -- the tree after the step is the grown one
      pub tree-next : root.page ≢ 0 → tree (plus h s) (suc last) ≡ grown
      unfolding tree
      tree-next some = ap (λ (o : Option Step). get_or (forest (plus h s) (suc last)) (root_of o) Empty)
          (step_at-new h s) ∙ by stands.tree marks.tree
        where
          by : IsRootTree dig Known now root.page grown → IsRootTree dig (IsMarked from nodes) now root.page grown
              → get_or (forest (plus h s) (suc last)) (number_of_page (numbered_on Now nodes).pages root.page) Empty
              ≡ grown
          by (inl none) b = absurd (some none.0)
          by (inr (level, a)) (inl none) = absurd (some none.0)
          by (inr (level, a)) (inr (other, b)) = page-numbered (suc root.page) level 1 root.page grown grown
              (omega arith) a b.has (omega arith)

      pub stands-numbered : (below : ℕ) → StandsWith dig
          (HasNamed (named_by (numbered_on Now nodes).pages (forest (plus h s) (suc last)) below)) now root grown
      stands-numbered below =
          stands-both dig now one_page Known (IsMarked from nodes)
          (HasNamed (named_by (numbered_on Now nodes).pages (forest (plus h s) (suc last)) below))
          (λ level least page u v keys is mark. page-numbered below level least page u v keys is mark) root grown grown
          stands marks
