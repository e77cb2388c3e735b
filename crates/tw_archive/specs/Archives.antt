-- Pages that keep the archive's tree of each step of a history.
use Rattle.std.specs.Prelude.{◌≡◌, ◌≢◌, ℕ, suc, ◌<◌, ◌≤◌, List, [], ◌++◌, length, map, slice_index_or, Option, None, IfSome}
use Rattle.tw_base.specs.declared.history.content.Content.TheVariants.{Received}
use Rattle.tw_base.specs.declared.history.root.Root.{Root}
use Rattle.tw_base.specs.declared.history.thread.Entry.{Entry}
use Rattle.tw_base.specs.declared.history.thread.Thread.{Thread}
use Rattle.tw_base.specs.declared.kinds.limits.TheConstants.{LAST_STEP}
use Rattle.tw_base.specs.history.Asking.{with_entry}
use Rattle.tw_base.specs.history.History.{History, Step, fresh_of, root_of, step_at, thread_of, times}
use Rattle.tw_base.specs.history.Limits.{IsThread, IsTimeWithinLimits}
use Rattle.tw_base.specs.history.Tree.{Tree, entries, forest, tree}
use Rattle.tw_base.specs.history.Tree.Tree.{Empty}
use Rattle.tw_base.specs.kinds.Lists.{Each, In}
use Rattle.tw_disk.specs.Found.Found.{Is}
use Rattle.tw_disk.specs.Image.{Image}
use Rattle.tw_rbtree.specs.declared.new_node.NewNode.{NewNode}
use Rattle.tw_rbtree.specs.Listing.{listed}
use Rattle.tw_rbtree.specs.Standing.{HasNamed, Named, StandsWith}
use Rattle.tw_archive.specs.Numbering.{Numbered, PageNumbers, history_node, archive_new_nodes, number_of_page, numbered_archive, numbered_on, new_from}

-- the pages below a number are to be the trees of their numbers
abbrev pub named_by : PageNumbers → List Tree → (below : ℕ) → Named
named_by numbers trees below = record { below = below; tree = λ page. slice_index_or trees (number_of_page numbers page) Empty }

-- the step that archives a thread where so many nodes are numbered, these nodes are new, and this is the new root's page
abbrev pub archiving : Numbered → Thread → (time : Option ℕ) → List NewNode → (page : ℕ) → Step
archiving n t time nodes page = record {
  content = Received t;
  time = time;
  fresh = map (history_node n.pages n.count) nodes;
  root = number_of_page (numbered_on n nodes).pages page;
}

-- two sequences agree up to this step
abbrev pub Agree : {X : Type 0} → (step : ℕ) → (one other : ℕ → X) → Type 0
Agree step one other = (k : ℕ) → k ≤ step → one k ≡ other k

-- the number of each step's page, and the archive's root after each step
module _ (dig : List ℕ → List ℕ) (pages : Image) (h : History) (step_page : ℕ → ℕ) (archive : ℕ → Root) where
  -- each tree page up to that of step k is to be the tree of the number that it has after the step
  abbrev pub named_at : ℕ → Named
  named_at k = named_by (numbered_archive dig pages step_page archive k).pages (forest h k) (new_from step_page k)

  -- The archive after step k + 1. Its pages stand for the history's tree, and each of them up to the step's own page is the tree of its
  -- number; those behind the page of the step before list the step's new nodes, in their order; the root has the number of the root's
  -- page. A step of events keeps the root's page, and has no new node.
  pub record KeepsTree (k : ℕ) : Type 0 where
    pub of_events : thread_of (step_at h (suc k)) ≡ None → ((archive (suc k)).page ≡ (archive k).page) × (fresh_of (step_at h (suc k)) ≡ [])
    pub lists : listed dig pages (new_from step_page k) (archive (suc k)) ≡ Is (archive_new_nodes dig pages step_page archive k)
    pub fresh : fresh_of (step_at h (suc k))
        ≡ map (history_node (numbered_archive dig pages step_page archive k).pages (numbered_archive dig pages step_page archive k).count) (archive_new_nodes dig pages step_page archive k)
    pub root : root_of (step_at h (suc k)) ≡ number_of_page (numbered_archive dig pages step_page archive (suc k)).pages (archive (suc k)).page
    pub stands : StandsWith dig (HasNamed (named_at (suc k))) pages (archive (suc k)) (tree h (suc k))

  -- the pages keep the tree of each step; before the first one there is none, whose root has page 0
  pub record KeepsTrees : Type 0 where
    pub nowhere : (archive 0).page ≡ 0
    pub trees : (k : ℕ) → k < length h.steps → KeepsTree k

-- a history may archive the thread in a step of this time next: there is room for a step, the thread is of another service, and
-- above each one of that service in the archive, and the time isn't below an earlier one
pub record MayArchive (h : History) (t : Thread) (time : Option ℕ) : Type 0 where
  pub short : length h.steps < LAST_STEP
  pub thread : IsThread t
  pub other : t.from ≢ h.name
  pub above : (e : Entry) → In e (entries (tree h (length h.steps))) → e.thread.from ≡ t.from → e.thread.step < t.step
  pub limit : IsTimeWithinLimits time
  pub order : IfSome time (λ now. Each (λ earlier. earlier ≤ now) (times h (length h.steps)))

-- behind pages that keep the trees of a history's steps stand those of a tree under this root that lists the thread too, as received by
-- the next step; its root's page isn't older than the page behind the last step, and each older page of it is the tree of its number
pub record HasGrown (dig : List ℕ → List ℕ) (ps more : Image) (h : History) (step_page : ℕ → ℕ) (archive : ℕ → Root) (root : Root) (grown : Tree) (t : Thread) : Type 0 where
  pub behind : new_from step_page (length h.steps) ≤ root.page
  pub stands : StandsWith dig (HasNamed (named_at dig ps h step_page archive (length h.steps))) (ps ++ more) root grown
  pub lists : entries grown ≡ with_entry (entries (tree h (length h.steps))) (record { thread = t; archived = suc (length h.steps) })
