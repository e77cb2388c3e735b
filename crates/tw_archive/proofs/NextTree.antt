-- The pages keep the tree of the step that archives a thread.
use Rattle.std.proofs.Common.{◌≡◌, ◌≢◌, ℕ, suc, zero, ◌+◌, ◌<◌, ◌≤◌, List, [], ◌++◌, length, refl, ap, sym, ◌∙◌, subst}
use Rattle.std.proofs.Common.{arith, length-append, lit≤}
use Rattle.std.specs.Prelude.{Option, Some, None, IfSome, map}
use Rattle.std.specs.Option.{option_to_list}
use Rattle.std.proofs.lemmas.List.{length_push}
use Rattle.tw_base.specs.declared.history.root.Root.{Root}
use Rattle.tw_base.specs.declared.history.thread.Entry.{Entry}
use Rattle.tw_base.specs.declared.history.thread.Thread.{Thread}
use Rattle.tw_base.specs.history.Asking.{with_entry}
use Rattle.tw_base.specs.history.History.{History, Step, entry_at, entry_to, fresh_of, plus, received, root_of, step_at}
use Rattle.tw_base.specs.history.History.{thread_of}
use Rattle.tw_base.specs.history.Rules.{KeepsRule, Rule}
use Rattle.tw_base.specs.history.Rules.Rule.{NodesAreKnown, TreesRise, HoldsAllThreads, IsOfAnother, StepsRise}
use Rattle.tw_base.specs.history.Rules.Rule.{EventsFit, TimesDontFall}
use Rattle.tw_base.specs.history.Sound.{IsSound}
use Rattle.tw_base.specs.history.Tree.{IsRising, Tree, entries, forest, tree}
use Rattle.tw_base.specs.kinds.Lists.{Each}
use Rattle.tw_base.proofs.lemmas.history.Archives.{tree-has_received}
use Rattle.tw_base.proofs.lemmas.history.Plus.{received-plus, step_at-new, times-plus}
use Rattle.tw_disk.specs.Found.Found.{Is}
use Rattle.tw_disk.specs.Image.{Image}
use Rattle.tw_rbnode.specs.Page.{TreePage}
use Rattle.tw_rbtree.specs.declared.new_node.NewNode.{NewNode}
use Rattle.tw_rbtree.specs.Listing.{listed}
use Rattle.tw_rbtree.specs.Planting.{AreNodeTrees, IsMarked}
use Rattle.tw_rbtree.specs.Reading.{IsPageAt}
use Rattle.tw_rbtree.specs.Standing.{HasNamed, IsRootTree, StandsWith, any_page}
use Rattle.tw_archive.specs.Archives.{Agree, KeepsTree, KeepsTrees, MayArchive, archiving, named_at, named_by}
use Rattle.tw_archive.specs.Numbering.{Numbered, history_node, archive_new_nodes, nodes_in, number_of_page}
use Rattle.tw_archive.specs.Numbering.{numbered_archive, numbered_on, new_from}
use Rattle.tw_archive.proofs.Archiving.{new-at, nodes-known, stands-numbered, tree-next, trees-new}
use Rattle.tw_archive.proofs.Keeping.{forest-count, next-from, numbered-next}
use Rattle.tw_archive.proofs.Numbers.{number-up_to}
use Rattle.tw_archive.proofs.Peers.{each-of}
use Rattle.tw_archive.proofs.Planted.{trees-rise}
use Rattle.tw_archive.proofs.SoundNext.{same-length, sound-plus}

pub from-some : (step_page : ℕ → ℕ) (k : ℕ) → 0 < new_from step_page k
from-some step_page zero = omega arith
from-some step_page (suc k) = omega arith

module _ (dig : List ℕ → List ℕ) (ps : Image) (h : History) (step_page : ℕ → ℕ) (archive : ℕ → Root)
    (keeps : KeepsTrees dig ps h step_page archive) (more : Image)
    (one_page : (page : ℕ) (p q : TreePage) → IsPageAt dig (ps ++ more) page p → IsPageAt dig (ps ++ more) page q
    → p ≡ q)
    (one_tree : (page : ℕ) (a b : Tree) → IsRootTree dig any_page (ps ++ more) page a → IsRootTree dig any_page
    (ps ++ more) page b → a ≡ b)
    (root : Root) (grown : Tree) (t : Thread) (time : Option ℕ) (nodes : List NewNode) (trees : List Tree)
    (next_page : ℕ → ℕ) (next_archive : ℕ → Root) (pages_same : Agree (length h.steps) step_page next_page)
    (roots_same : Agree (length h.steps) archive next_archive)
    (root_is : next_archive (suc (length h.steps)) ≡ root) (listed_is : listed dig (ps ++ more)
    (new_from step_page (length h.steps)) root ≡ Is nodes) (some : root.page ≢ 0) where
  abbrev now : Image
  now = ps ++ more

  abbrev last : ℕ
  last = length h.steps

  abbrev Now : Numbered
  Now = numbered_archive dig ps step_page archive last

  abbrev Next : ℕ → Numbered
  Next k = numbered_archive dig now next_page next_archive k

  abbrev s : Step
  s = archiving Now t time nodes root.page

  last-same : Next last ≡ Now
  last-same = numbered-next dig ps h step_page archive keeps more next_page next_archive pages_same roots_same last
      (omega arith)

  lists-last : listed dig now (new_from next_page last) (next_archive (suc last)) ≡ Is nodes
  lists-last =
      (λ i. listed dig now (next-from dig ps h step_page archive keeps more next_page next_archive pages_same roots_same
      last (omega arith) i) (root_is i)) ∙ listed_is

  new-last : archive_new_nodes dig now next_page next_archive last ≡ nodes
  new-last = ap nodes_in lists-last

  numbered-last : Next (suc last) ≡ numbered_on Now nodes
  unfolding numbered_archive
  numbered-last = λ i. numbered_on (last-same i) (new-last i)

  module _ (are : AreNodeTrees dig (HasNamed (named_at dig ps h step_page archive last)) now (new_from step_page last)
      [] nodes trees)
      (known : Each (λ (n : NewNode). entry_to (plus h s) (suc last) n.entry.archived ≡ Some n.entry) nodes)
      (stands : StandsWith dig (HasNamed (named_at dig ps h step_page archive last)) now root grown)
      (marks : StandsWith dig (IsMarked (new_from step_page last) nodes) now root grown) where
    pub tree-is : tree (plus h s) (suc last) ≡ grown
    tree-is = tree-next dig ps h step_page archive keeps now one_page one_tree root grown t time nodes trees are known
        stands marks some

    stands-last : StandsWith dig (HasNamed (named_at dig now (plus h s) next_page next_archive (suc last))) now
        (next_archive (suc last)) (tree (plus h s) (suc last))
    stands-last =
        let below : ℕ = new_from next_page (suc last) in
        let trees_now : List Tree = forest (plus h s) (suc last) in
        subst (λ (r : Root). StandsWith dig (HasNamed (named_at dig now (plus h s) next_page next_archive (suc last)))
        now r (tree (plus h s) (suc last))) (sym root_is)
        (subst (λ (x : Tree). StandsWith dig (HasNamed (named_at dig now (plus h s) next_page next_archive (suc last)))
        now root x) (sym tree-is)
        (subst (λ (n : Numbered). StandsWith dig (HasNamed (named_by n.pages trees_now below)) now root grown)
        (sym numbered-last)
        (stands-numbered dig ps h step_page archive keeps now one_page one_tree root grown t time nodes trees are known
        stands marks below)))

    pub keeps-last : KeepsTree dig now (plus h s) next_page next_archive last
    keeps-last =
        let step : step_at (plus h s) (suc last) ≡ Some s = step_at-new h s in
        record {
          of_events = λ none. absurd (let is : thread_of (step_at (plus h s) (suc last)) ≡ Some t = ap thread_of step in
              let never : Some t ≡ None = sym is ∙ none in cc);
          lists = lists-last ∙ ap (λ (ns : List NewNode). Is ns) (sym new-last);
          fresh = ap fresh_of step ∙ (λ i. map (history_node (sym last-same i).pages (sym last-same i).count)
              (sym new-last i));
          root = ap root_of step ∙ (λ i. number_of_page (sym numbered-last i).pages (sym root_is i).page);
          stands = stands-last;
        }

    -- the history stays sound where it may archive the thread; `size` is that one entry more is one more
    pub stays-sound : ((es : List Entry) (e : Entry) → length (with_entry es e) ≡ suc (length es))
        → entries grown ≡ with_entry (entries (tree h last)) (record { thread = t; archived = suc last })
        → KeepsTrees dig now (plus h s) next_page next_archive → IsSound h → MayArchive h t time → IsSound (plus h s)
    unfolding received
    stays-sound size grown_is keeps_now sound may = sound-plus h s sound may.short
        (record { rules = rule; limits = may.thread; time = may.limit })
      where
        new : Entry
        new = record { thread = t; archived = suc last }

        received-new : length (received (plus h s) (suc last)) ≡ suc (length (received h last))
        received-new =
            length-append (received (plus h s) last) (option_to_list (entry_at (plus h s) (suc last)))
            ∙ (λ i. length (received-plus h s last (omega arith) i) + length
            (option_to_list (new-at h s t refl grown i)))
            ∙ (let e : length (received h last) + 1 ≡ suc (length (received h last)) = omega arith in e)

        root-known : s.root < length (forest (plus h s) (suc last))
        root-known =
            let inside : last < length (plus h s).steps = omega (arith, length_push h.steps s) in
            let count = forest-count dig now (plus h s) next_page next_archive keeps_now (suc last) inside in
            let low = number-up_to dig now next_page next_archive (suc last) (next_archive (suc last)).page in
            let is : s.root ≡ number_of_page (Next (suc last)).pages (next_archive (suc last)).page =
            sym (ap root_of (step_at-new h s)) ∙ (keeps_now.trees last inside).root in
            omega (arith, count, low, is)

        above : Each (λ e. e.thread.from ≡ t.from → e.thread.step < t.step) (received h last)
        above = each-of (λ (e : Entry). e.thread.from ≡ t.from → e.thread.step < t.step) (received h last)
            (λ e there. may.above e (tree-has_received h sound last (omega arith) e there))

        rule : (rule : Rule) → KeepsRule (plus h s) last s rule
        rule NodesAreKnown = (
          nodes-known dig ps h step_page archive keeps now one_page one_tree root grown t time nodes trees are known,
          root-known,
        )
        rule TreesRise = subst (λ (ts : List Tree). Each (λ x. IsRising (entries x)) ts)
            (sym (trees-new dig ps h step_page archive keeps now one_page one_tree root grown t time nodes trees are
            known))
            (trees-rise dig (HasNamed (named_at dig ps h step_page archive last)) now (new_from step_page last) [] nodes
            trees are)
        rule HoldsAllThreads =
            ap (λ (x : Tree). length (entries x)) tree-is ∙ ap (λ (es : List Entry). length es) grown_is
            ∙ size (entries (tree h last)) new
            ∙ ap suc (same-length h sound last (omega arith)) ∙ sym received-new
        rule IsOfAnother = may.other
        rule StepsRise = subst (λ (es : List Entry). Each (λ e. e.thread.from ≡ t.from → e.thread.step < t.step) es)
            (sym (received-plus h s last (omega arith))) above
        rule EventsFit = lit≤ tt
        rule TimesDontFall = subst (λ (ts : List ℕ). IfSome time (λ now. Each (λ earlier. earlier ≤ now) ts))
            (sym (times-plus h s last (omega arith))) may.order
