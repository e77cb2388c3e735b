-- A step of events keeps the tree of the step before.
use Rattle.std.proofs.Common.{◌≡◌, ◌⊎◌, ℕ, suc, zero, ◌<◌, ◌≤◌, List, [], ◌∷◌, ◌++◌, length, get_or, Bool, true, refl}
use Rattle.std.proofs.Common.{ap, sym, ◌∙◌, subst, arith, inl, inr}
use Rattle.std.specs.Prelude.{◌==◌, ◌||◌, None, Some, map}
use Rattle.std.proofs.lemmas.Bool.{eq-eqb, or_right}
use Rattle.tw_base.specs.declared.history.root.Root.{Root}
use Rattle.tw_base.specs.history.Auth.{tree_label}
use Rattle.tw_base.specs.history.History.{History, Node, Step, entry_to, fresh_of, plus, root_of, step_at, thread_of}
use Rattle.tw_base.specs.history.Tree.{Tree, forest, planted, tree}
use Rattle.tw_base.specs.history.Tree.Tree.{Empty}
use Rattle.tw_base.specs.kinds.Lists.{Each}
use Rattle.tw_base.proofs.lemmas.kinds.ListLemmas.{Each-map}
use Rattle.tw_base.proofs.lemmas.history.Plus.{forest-plus, step_at-new}
use Rattle.tw_disk.specs.Found.Found.{Is}
use Rattle.tw_disk.specs.Image.{Image}
use Rattle.tw_disk.specs.declared.limits.TheConstants.{FIRST_PAGE}
use Rattle.tw_rbnode.specs.declared.child.Child.{Child}
use Rattle.tw_rbnode.specs.NodeBytes.{LiesBelow}
use Rattle.tw_rbtree.specs.declared.new_node.NewNode.{NewNode}
use Rattle.tw_rbtree.specs.Listing.{is_old, listed}
use Rattle.tw_rbtree.proofs.Keeping.{tree_page-as}
use Rattle.tw_rbtree.proofs.ListLaws.{is-old, listed-none}
use Rattle.tw_rbtree.proofs.Markings.{lower, trees-each}
use Rattle.tw_rbtree.specs.Standing.{HasNamed, IsRootTree, IsTreeBelow, Named, OfPage, StandsWith}
use Rattle.tw_archive.specs.Archives.{Agree, KeepsTree, KeepsTrees, named_at, named_by}
use Rattle.tw_archive.specs.Numbering.{Numbered, history_node, archive_new_nodes, nodes_in, number_of_page}
use Rattle.tw_archive.specs.Numbering.{numbered_archive, numbered_on, new_from}
use Rattle.tw_archive.proofs.Haves.{IsPage}
use Rattle.tw_archive.proofs.Keeping.{keeps-on, kept-named, next-from, numbered-next, stands-at}

-- ---- what holds of the pages of a tree, which aren't above the root's

module _ (dig : List ℕ → List ℕ) (ps : Image) (bound : ℕ) (A C : OfPage) (f : (page : ℕ) (t : Tree) → page < bound
    → A page t → C page t) where
  page-low : (level : ℕ) → ((c : Child) (t : Tree) → LiesBelow bound level c → IsTreeBelow dig A ps level c t
      → IsTreeBelow dig C ps level c t)
      → (least page : ℕ) (t : Tree) → page < bound → IsPage dig ps A level least page t → IsPage dig ps C level least
      page t
  page-low level below least page t low is =
      tree_page-as is is.least_keys is.at
      (trees-each (IsTreeBelow dig A ps level) (IsTreeBelow dig C ps level) (LiesBelow bound level) below
      is.node.children is.trees
      (Each-map (LiesBelow page level) (LiesBelow bound level) is.node.children (lower page bound level low)
      (subst (λ (l : ℕ). Each (LiesBelow page l) is.node.children) is.level_is is.at.may_stand.below)) is.are_trees)
      (f page t low is.has)

  below-low : (level : ℕ) (c : Child) (t : Tree) → LiesBelow bound level c → IsTreeBelow dig A ps level c t
      → IsTreeBelow dig C ps level c t
  unfolding IsTreeBelow
  below-low zero c t low is = is
  below-low (suc level) c t low is = (is.0, page-low level (below-low level) 12 c.page t low is.1)

  root-low : (page : ℕ) (t : Tree) → (page ≡ 0) ⊎ (page < bound) → IsRootTree dig A ps page t
      → IsRootTree dig C ps page t
  root-low page t low (inl none) = inl none
  root-low page t (inl none) (inr (level, is)) = absurd (omega (arith, none, is.at.low))
  root-low page t (inr low) (inr (level, is)) = inr (level, page-low level (below-low level) 1 page t low is)

  pub stands-low : (root : Root) (t : Tree) → (root.page ≡ 0) ⊎ (root.page < bound) → StandsWith dig A ps root t
      → StandsWith dig C ps root t
  stands-low root t low is = record { rising = is.rising; label = is.label; tree = root-low root.page t low is.tree }

-- where the root of a tree that stands has a page, it has a number that pages have
low-root : (dig : List ℕ → List ℕ) (Has : OfPage) (ps : Image) (root : Root) (t : Tree) (from : ℕ)
    → StandsWith dig Has ps root t → (root.page ≡ 0) ⊎ (root.page < from)
    → (root.page ≡ 0) ⊎ ((FIRST_PAGE ≤ root.page) × (root.page < from))
low-root dig Has ps root t from stands (inl none) = inl none
low-root dig Has ps root t from stands (inr less) = by stands.tree
  where
    by : IsRootTree dig Has ps root.page t → (root.page ≡ 0) ⊎ ((FIRST_PAGE ≤ root.page) × (root.page < from))
    by (inl none) = inl none.0
    by (inr (level, is)) = inr (is.at.low, less)

append-none : (ts : List Tree) → ts ++ [] ≡ ts
append-none [] = refl
append-none (x ∷ xs) = ap (λ (ys : List Tree). x ∷ ys) (append-none xs)

module _ (dig : List ℕ → List ℕ) (ps : Image) (h : History) (step_page : ℕ → ℕ) (archive : ℕ → Root)
    (keeps : KeepsTrees dig ps h step_page archive) (more : Image) (s : Step)
    (next_page : ℕ → ℕ) (next_archive : ℕ → Root) (pages_same : Agree (length h.steps) step_page next_page)
    (roots_same : Agree (length h.steps) archive next_archive)
    (kept_named : (named : Named) (root : Root) (t : Tree) → StandsWith dig (HasNamed named) ps root t
    → StandsWith dig (HasNamed named) (ps ++ more) root t)
    (none_listed : (since : ℕ) (root : Root) → (root.page ≡ 0) ⊎ ((FIRST_PAGE ≤ root.page) × (root.page < since))
    → listed dig (ps ++ more) since root ≡ Is [])
    (rests : (thread_of (Some s) ≡ None) × (s.fresh ≡ []) × (s.root ≡ root_of (step_at h (length h.steps))))
    (root_is : next_archive (suc (length h.steps)) ≡ archive (length h.steps))
    (older : ((archive (length h.steps)).page ≡ 0) ⊎ ((archive (length h.steps)).page < new_from step_page
    (length h.steps)))
    (label : (archive (length h.steps)).label ≡ tree_label dig (tree h (length h.steps))) where
  abbrev now : Image
  now = ps ++ more

  abbrev last : ℕ
  last = length h.steps

  abbrev Now : Numbered
  Now = numbered_archive dig ps step_page archive last

  last-same : numbered_archive dig now next_page next_archive last ≡ Now
  last-same = numbered-next dig ps h step_page archive keeps more next_page next_archive pages_same roots_same last
      (omega arith)

  stands-there : StandsWith dig (HasNamed (named_at dig ps h step_page archive last)) ps (archive last) (tree h last)
  stands-there = stands-at dig ps h step_page archive keeps last (omega arith)
      (λ none. subst (λ (k : ℕ). (archive k).label ≡ tree_label dig (tree h k)) none label)

  lists-last : listed dig now (new_from next_page last) (next_archive (suc last)) ≡ Is []
  lists-last =
      (λ i. listed dig now (next-from dig ps h step_page archive keeps more next_page next_archive pages_same roots_same
      last (omega arith) i) (root_is i))
      ∙ none_listed (new_from step_page last) (archive last)
      (low-root dig (HasNamed (named_at dig ps h step_page archive last)) ps (archive last) (tree h last)
      (new_from step_page last) stands-there older)

  new-last : archive_new_nodes dig now next_page next_archive last ≡ []
  new-last = ap nodes_in lists-last

  numbered-last : numbered_archive dig now next_page next_archive (suc last) ≡ numbered_on Now []
  unfolding numbered_archive
  numbered-last = λ i. numbered_on (last-same i) (new-last i)

  forest-last : forest (plus h s) (suc last) ≡ forest h last
  unfolding forest planted
  forest-last =
      (λ i. forest-plus h s last (omega arith) i ++ planted (entry_to (plus h s) (suc last))
      (forest-plus h s last (omega arith) i) (fresh_of (step_at-new h s i)))
      ∙ ap (λ (ns : List Node). forest h last ++ planted (entry_to (plus h s) (suc last)) (forest h last) ns) rests.1
      ∙ append-none (forest h last)

  tree-last : tree (plus h s) (suc last) ≡ tree h last
  unfolding tree
  tree-last =
      (λ i. get_or (forest-last i) (root_of (step_at-new h s i)) Empty) ∙ ap (λ (r : ℕ). get_or (forest h last) r Empty)
      rests.2

  root-number : (k : ℕ) → k ≤ length h.steps → root_of (step_at h k) ≡ number_of_page
      (numbered_archive dig ps step_page archive k).pages (archive k).page
  unfolding numbered_archive
  root-number zero within = refl
  root-number (suc k) within = (keeps.trees k within).root

  stands-last : StandsWith dig (HasNamed (named_at dig now (plus h s) next_page next_archive (suc last))) now
      (next_archive (suc last)) (tree (plus h s) (suc last))
  stands-last =
      let below : ℕ = new_from next_page (suc last) in
      let old = kept_named (named_at dig ps h step_page archive last) (archive last) (tree h last) stands-there in
      let same : StandsWith dig (HasNamed (named_by Now.pages (forest h last) below)) now (archive last) (tree h last) =
      stands-low dig now (new_from step_page last) (HasNamed (named_at dig ps h step_page archive last))
      (HasNamed (named_by Now.pages (forest h last) below))
      (λ page t low has less. has low) (archive last) (tree h last) older old in
      subst (λ (r : Root). StandsWith dig (HasNamed (named_at dig now (plus h s) next_page next_archive (suc last))) now
      r (tree (plus h s) (suc last))) (sym root_is)
      (subst (λ (x : Tree). StandsWith dig (HasNamed (named_at dig now (plus h s) next_page next_archive (suc last)))
      now (archive last) x) (sym tree-last)
      (subst (λ (n : Numbered). StandsWith dig (HasNamed (named_by n.pages (forest (plus h s) (suc last)) below)) now
      (archive last) (tree h last)) (sym numbered-last)
      (subst (λ (ts : List Tree). StandsWith dig (HasNamed (named_by Now.pages ts below)) now (archive last)
      (tree h last)) (sym forest-last) same)))

  pub keeps-resting : KeepsTree dig now (plus h s) next_page next_archive last
  keeps-resting =
      let step : step_at (plus h s) (suc last) ≡ Some s = step_at-new h s in
      record {
        of_events =
            λ none. (ap (λ (r : Root). r.page) (root_is ∙ roots_same last (omega arith)), ap fresh_of step ∙ rests.1);
        lists = lists-last ∙ ap (λ (ns : List NewNode). Is ns) (sym new-last);
        fresh = ap fresh_of step ∙ rests.1 ∙ (λ i. map (history_node (sym last-same i).pages (sym last-same i).count)
            (sym new-last i));
        root = ap root_of step ∙ rests.2 ∙ root-number last (omega arith)
            ∙ (λ i. number_of_page (sym numbered-last i).pages (sym root_is i).page);
        stands = stands-last;
      }

-- nothing is listed of an older root
nothing-listed : (dig : List ℕ → List ℕ) (ps : Image) (from : ℕ) (root : Root) → (root.page ≡ 0)
    ⊎ ((FIRST_PAGE ≤ root.page) × (root.page < from)) → listed dig ps from root ≡ Is []
nothing-listed dig ps from root old = listed-none dig ps from root (older old)
  where
    older : (root.page ≡ 0) ⊎ ((FIRST_PAGE ≤ root.page) × (root.page < from))
        → ((root.page == 0) || is_old root.page from) ≡ true
    older (inl none) = ap (λ (b : Bool). b || is_old root.page from) (eq-eqb root.page 0 none)
    older (inr below) = or_right (root.page == 0) (is_old root.page from) (is-old root.page from below.0 below.1)

-- a step of events, which rests on the root and the tree of the step before, keeps the trees of all steps
pub events-keep : (dig : List ℕ → List ℕ) (ps more : Image) (h : History) (s : Step) (step_page next_page : ℕ → ℕ)
    (archive next_archive : ℕ → Root) → KeepsTrees dig ps h step_page archive
    → Agree (length h.steps) step_page next_page → Agree (length h.steps) archive next_archive
    → thread_of (Some s) ≡ None → s.fresh ≡ [] → s.root ≡ root_of (step_at h (length h.steps))
    → next_archive (suc (length h.steps)) ≡ archive (length h.steps) → ((archive (length h.steps)).page ≡ 0)
    ⊎ ((archive (length h.steps)).page < new_from step_page (length h.steps))
    → (archive (length h.steps)).label ≡ tree_label dig (tree h (length h.steps)) → KeepsTrees dig (ps ++ more)
    (plus h s) next_page next_archive
events-keep dig ps more h s step_page next_page archive next_archive keeps pages roots none fresh same root_is old
    label =
    keeps-on dig ps h step_page archive keeps more next_page next_archive pages roots s (kept-named dig ps more)
    (keeps-resting dig ps h step_page archive keeps more s next_page next_archive pages roots (kept-named dig ps more)
    (λ from root older. nothing-listed dig (ps ++ more) from root older) (none, fresh, same) root_is old label)
