-- Pages that keep a history whole, and one more step of it, of events or of a thread.
use Rattle.std.proofs.Common.{◌≡◌, ◌≢◌, ◌⊎◌, ℕ, suc, zero, ◌+◌, ◌^◌, ◌<◌, ◌≤◌, List, ◌++◌, length, refl, ap, sym, ◌∙◌}
use Rattle.std.proofs.Common.{subst, arith, inl, inr, append_assoc, lit≤}
use Rattle.std.specs.Prelude.{Option}
use Rattle.tw_base.specs.declared.kinds.limits.TheConstants.{LAST_STEP}
use Rattle.tw_base.specs.declared.history.content.Content.TheVariants.{Events, Received}
use Rattle.tw_base.specs.declared.history.root.Root.{Root}
use Rattle.tw_base.specs.declared.history.thread.Thread.{Thread}
use Rattle.tw_base.specs.history.Asking.{with_entry}
use Rattle.tw_base.specs.history.Auth.{tree_label}
use Rattle.tw_base.specs.history.History.{History, Step, plus, received, root_of, step_at}
use Rattle.tw_base.specs.history.Limits.{IsThread, IsTimeWithinLimits, MayRecord}
use Rattle.tw_base.specs.history.Sound.{IsSound}
use Rattle.tw_base.specs.history.Tree.{Tree, entries, tree}
use Rattle.tw_base.proofs.lemmas.kinds.DigestBytes.{IsDigest}
use Rattle.tw_base.proofs.lemmas.history.Plus.{tree-plus}
use Rattle.tw_disk.specs.Found.Found.{Is}
use Rattle.tw_disk.specs.Image.{Image}
use Rattle.tw_rbtree.specs.declared.new_node.NewNode.{NewNode}
use Rattle.tw_rbtree.specs.Listing.{listed}
use Rattle.tw_rbtree.specs.Standing.{HasNamed, Named, StandsForTree, StandsWith}
use Rattle.tw_rbtree.proofs.Keeping.{stands-any}
use Rattle.tw_archive.specs.Archives.{Agree, HasGrown, KeepsTrees, MayArchive, archiving, named_at}
use Rattle.tw_archive.specs.Numbering.{new_from, numbered_archive}
use Rattle.tw_archive.proofs.Growing.{archived-keeps, archived-sound, grown-nodes, grown-tree}
use Rattle.tw_archive.proofs.Keeping.{kept-named, stands-at}
use Rattle.tw_archive.proofs.Resting.{events-keep}
use Rattle.tw_archive.proofs.RootPages.{some-entry}
use Rattle.tw_skiplist.specs.declared.head.Head.{Head}
use Rattle.tw_skiplist.specs.Appended.{appended}
use Rattle.tw_skiplist.specs.Keeping.{GoOn, Keeps, Place, archive_at, place_of_step}
use Rattle.tw_skiplist.proofs.Growing.{Keeps-grows}
use Rattle.tw_skiplist.proofs.KeptAppended.{Grown, grown}
use Rattle.tw_answers.specs.declared.root.RootRecord.{RootRecord}
use Rattle.tw_service.specs.EventStep.{event_step, with_events_at}
use Rattle.tw_service.specs.NextRecords.{event_record, next_record}
use Rattle.tw_service.specs.Stands.{KeepsWhole, greater, step_pages}
use Rattle.tw_service.proofs.NextHistories.{longer-length, longer-time, none-received, one-received, same_tree}

-- ---- what holds of such pages

module _ (dig : List ℕ → List ℕ) (ps : Image) (h : History) (r : RootRecord) (whole : KeepsWhole dig ps h r) where
  abbrev pub places : List Place
  places = whole.steps.places

  abbrev pub names : Named
  names = named_at dig ps h (step_pages places) (archive_at dig h places) (length h.steps)

  -- the archive's page lies below that of its step
  archive_below : (i : ℕ) → i ≤ length h.steps → ((archive_at dig h places i).page ≡ 0)
      ⊎ ((archive_at dig h places i).page < new_from (step_pages places) i)
  archive_below zero within = inl (ap (λ (p : Place). p.archive) whole.steps.keeps.nowhere)
  archive_below (suc k) within = let low = (whole.steps.keeps.steps k within).archive in inr (omega (arith, low))

  place_low : (i : ℕ) → i ≤ length h.steps → (place_of_step places i).archive < 4 + length ps
  place_low zero within = let none = ap (λ (p : Place). p.archive) whole.steps.keeps.nowhere in omega (arith, none)
  place_low (suc k) within = let own = whole.steps.keeps.steps k within in let low = own.archive in let below =
      own.below in omega (arith, low, below)

  -- the archive's page is one of the pages, or 0
  pub archive_low : r.archive.page < 4 + length ps
  archive_low = subst (λ (root : Root). root.page < 4 + length ps) (sym whole.archive)
      (place_low (length h.steps) (omega arith))

  -- the page behind that of a step isn't above the pages
  since_low : (i : ℕ) → i ≤ length h.steps → new_from (step_pages places) i ≤ 4 + length ps
  since_low zero within = omega arith
  since_low (suc k) within = let below = (whole.steps.keeps.steps k within).below in omega (arith, below)

  pub last_low : new_from (step_pages places) (length h.steps) ≤ 4 + length ps
  last_low = since_low (length h.steps) (omega arith)

  any : (named : Named) (root : Root) (t : Tree) → StandsWith dig (HasNamed named) ps root t → StandsForTree dig ps
      root t
  any named root t stands = stands-any dig (HasNamed named) ps root t stands

  -- the pages stand for the archive's tree after the last step, with the trees of its numbers, and after each step
  pub tree_named : StandsWith dig (HasNamed names) ps r.archive (tree h (length h.steps))
  tree_named =
      subst (λ (root : Root). StandsWith dig (HasNamed names) ps root (tree h (length h.steps))) (sym whole.archive)
      (stands-at dig ps h (step_pages places) (archive_at dig h places) whole.trees (length h.steps) (omega arith)
      (λ none. refl))

  pub tree_stands : StandsForTree dig ps r.archive (tree h (length h.steps))
  tree_stands = any names r.archive (tree h (length h.steps)) tree_named

  pub tree_at : (i : ℕ) → i ≤ length h.steps → StandsForTree dig ps (archive_at dig h places i) (tree h i)
  tree_at i within =
      any (named_at dig ps h (step_pages places) (archive_at dig h places) i) (archive_at dig h places i) (tree h i)
      (stands-at dig ps h (step_pages places) (archive_at dig h places) whole.trees i within (λ none. refl))

  -- ---- one more step, in these pages and those behind them

  module _ (now : Image) (s : Step) (archive : Root) (head : Head) (longer : Keeps dig now (plus h s) head)
      (on : GoOn places longer.places (length h.steps) archive.page) where
    pages_on : Agree (length h.steps) (step_pages places) (step_pages longer.places)
    pages_on k within = ap (λ (p : Place). p.page) (sym (on.before k within))

    roots_on : Agree (length h.steps) (archive_at dig h places) (archive_at dig (plus h s) longer.places)
    roots_on k within =
        λ j. record {
          page = (sym (on.before k within) j).archive;
          label = tree_label dig (sym (tree-plus h s k within) j);
        }

    module _ (label : archive.label ≡ tree_label dig (tree (plus h s) (suc (length h.steps)))) where
      root_on : archive_at dig (plus h s) longer.places (suc (length h.steps)) ≡ archive
      root_on = λ j. record { page = on.new j; label = sym label j }

      whole_on : KeepsTrees dig now (plus h s) (step_pages longer.places) (archive_at dig (plus h s) longer.places)
          → (threads : ℕ) → threads ≡ length (received (plus h s) (suc (length h.steps)))
          → KeepsWhole dig now (plus h s) (next_record r head archive threads s.time)
      whole_on trees threads threads_is = record {
        steps = longer;
        trees = trees;
        archive = sym root_on ∙ ap (λ (i : ℕ). archive_at dig (plus h s) longer.places i) (sym (longer-length h s));
        threads = threads_is ∙ ap (λ (i : ℕ). length (received (plus h s) i)) (sym (longer-length h s));
        time = ap (λ (clock : Option ℕ). greater clock s.time) whole.time ∙ sym (longer-time h s);
      }

  -- ---- of events

  module _ (more : Image) (events : List (List ℕ)) (time : Option ℕ) (head : Head) (longer : Keeps dig (ps ++ more)
      (with_events_at h events time) head) (on : GoOn places longer.places (length h.steps) r.archive.page) where
    abbrev last : Step
    last = event_step (root_of (step_at h (length h.steps))) events time

    same_label : r.archive.label ≡ tree_label dig (tree (with_events_at h events time) (suc (length h.steps)))
    same_label = ap (λ (x : Root). x.label) whole.archive ∙ ap (λ (t : Tree). tree_label dig t)
        (sym (same_tree h events time))

    pub events_on : KeepsWhole dig (ps ++ more) (with_events_at h events time) (event_record r head time)
    events_on =
        whole_on (ps ++ more) last r.archive head longer on same_label
        (events-keep dig ps more h last (step_pages places) (step_pages longer.places) (archive_at dig h places)
        (archive_at dig (with_events_at h events time) longer.places) whole.trees
        (pages_on (ps ++ more) last r.archive head longer on) (roots_on (ps ++ more) last r.archive head longer on) refl
        refl refl
        (root_on (ps ++ more) last r.archive head longer on same_label ∙ whole.archive)
        (archive_below (length h.steps) (omega arith)) refl)
        r.threads (whole.threads ∙ ap length (sym (none-received h last refl)))

-- the step that is found, and the pages that then keep the longer history whole
pub record AddedWhole (dig : List ℕ → List ℕ) (ps : Image) (h : History) (r : RootRecord) (events : List (List ℕ))
    (time : Option ℕ) : Type 0 where
  pub more : Image
  pub new : Head
  pub is : appended dig ps r.head (Events events) r.archive time ≡ Is (record { pages = ps ++ more; value = new })
  pub keeps : KeepsWhole dig (ps ++ more) (with_events_at h events time) (event_record r new time)

pub added_whole : (dig : List ℕ → List ℕ) (size : (text : List ℕ) → IsDigest (dig text)) (ps : Image) (h : History)
    (r : RootRecord) → KeepsWhole dig ps h r → (events : List (List ℕ)) (time : Option ℕ)
    → r.head.step < LAST_STEP → MayRecord events → IsTimeWithinLimits time → 4 + length ps < 2 ^ 47
    → AddedWhole dig ps h r events time
added_whole dig size ps h r whole events time short limits within room =
    let step : Step = event_step (root_of (step_at h (length h.steps))) events time in
    let own = grown dig size ps h r.head whole.steps (Events events) r.archive time short in
    let label : r.archive.label ≡ tree_label dig (tree (plus h step) (suc (length h.steps))) =
    ap (λ (x : Root). x.label) whole.archive ∙ ap (λ (t : Tree). tree_label dig t) (sym (same_tree h events time)) in
    let kept = own.keeps (record { content = limits.are; together = limits.fit; time = within })
    (archive_low dig ps h r whole) room step refl refl label in
    record {
      more = own.more;
      new = own.new;
      is = own.is;
      keeps = events_on dig ps h r whole own.more events time own.new kept.0 kept.1;
    }

-- ---- of a thread

-- the step that archives a thread, where pages of the grown tree stand behind the others: it is found behind these, and
-- all of them
-- then keep the longer history whole, which is sound where the history may archive the thread
pub record AddedThread (dig : List ℕ → List ℕ) (ps : Image) (h : History) (r : RootRecord) (tree_pages : Image)
    (root : Root) (t : Thread) (time : Option ℕ) : Type 0 where
  pub more : Image
  pub new : Head
  pub is : appended dig (ps ++ tree_pages) r.head (Received t) root time ≡ Is
      (record { pages = (ps ++ tree_pages) ++ more; value = new })
  pub step : Step
  pub content : step.content ≡ Received t
  pub at_time : step.time ≡ time
  pub keeps : KeepsWhole dig ((ps ++ tree_pages) ++ more) (plus h step) (next_record r new root (r.threads + 1) time)
  pub sound : IsSound h → MayArchive h t time → IsSound (plus h step)

module _ (dig : List ℕ → List ℕ) (size : (text : List ℕ) → IsDigest (dig text)) (ps : Image) (h : History)
    (r : RootRecord) (whole : KeepsWhole dig ps h r)
    (tree_pages : Image) (root : Root) (tree_now : Tree) (t : Thread) (time : Option ℕ)
    (behind : 4 + length ps ≤ root.page) (stands : StandsWith dig (HasNamed (names dig ps h r whole)) (ps ++ tree_pages)
    root tree_now)
    (lists : entries tree_now ≡ with_entry (entries (tree h (length h.steps)))
    (record { thread = t; archived = suc (length h.steps) })) (short : r.head.step < LAST_STEP) (is_thread : IsThread t)
    (within : IsTimeWithinLimits time) (room : 4 + length (ps ++ tree_pages) < 2 ^ 47) where
  abbrev own_places : List Place
  own_places = whole.steps.places

  some : root.page ≢ 0
  some none = absurd (omega (arith, none, behind))

  root_low : root.page < 4 + length (ps ++ tree_pages)
  root_low = (some-entry dig (ps ++ tree_pages) root tree_now (stands-any dig (HasNamed (names dig ps h r whole))
      (ps ++ tree_pages) root tree_now stands) some).2

  base : (still : Keeps dig (ps ++ tree_pages) h r.head) × (still.places ≡ own_places)
  base = Keeps-grows dig ps tree_pages h r.head whole.steps

  put : Grown dig (ps ++ tree_pages) h r.head base.0.places (Received t) root time
  put = grown dig size (ps ++ tree_pages) h r.head base.0 (Received t) root time short

  abbrev rest : Image
  rest = tree_pages ++ put.more

  all_pages : (ps ++ tree_pages) ++ put.more ≡ ps ++ rest
  all_pages = append_assoc ps tree_pages put.more

  has : HasGrown dig ps rest h (step_pages own_places) (archive_at dig h own_places) root tree_now t
  has = record {
    behind = let low = last_low dig ps h r whole in omega (arith, low, behind);
    stands = subst (λ (now : Image). StandsWith dig (HasNamed (names dig ps h r whole)) now root tree_now) all_pages
        (kept-named dig (ps ++ tree_pages) put.more (names dig ps h r whole) root tree_now stands);
    lists = lists;
  }

  listed_now : (nodes : List NewNode) × (listed dig (ps ++ rest) (new_from (step_pages own_places) (length h.steps))
      root ≡ Is nodes)
  listed_now = grown-nodes dig ps rest h (step_pages own_places) (archive_at dig h own_places) root tree_now t time
      whole.trees has

  abbrev s : Step
  s = archiving (numbered_archive dig ps (step_pages own_places) (archive_at dig h own_places) (length h.steps)) t time
      listed_now.0 root.page

  label : root.label ≡ tree_label dig (tree (plus h s) (suc (length h.steps)))
  label = stands.label ∙ ap (λ (x : Tree). tree_label dig x)
      (sym (grown-tree dig ps rest h (step_pages own_places) (archive_at dig h own_places) root tree_now t time
      whole.trees has listed_now.0 listed_now.1))

  kept : (longer : Keeps dig ((ps ++ tree_pages) ++ put.more) (plus h s) put.new) × GoOn base.0.places longer.places
      (length h.steps) root.page
  kept = put.keeps (record { content = is_thread; together = lit≤ tt; time = within }) root_low room s refl refl label

  on : GoOn own_places kept.0.places (length h.steps) root.page
  on = subst (λ (qs : List Place). GoOn qs kept.0.places (length h.steps) root.page) base.1 kept.1

  abbrev pages_now : Agree (length h.steps) (step_pages own_places) (step_pages kept.0.places)
  pages_now = pages_on dig ps h r whole ((ps ++ tree_pages) ++ put.more) s root put.new kept.0 on

  abbrev roots_now : Agree (length h.steps) (archive_at dig h own_places) (archive_at dig (plus h s) kept.0.places)
  roots_now = roots_on dig ps h r whole ((ps ++ tree_pages) ++ put.more) s root put.new kept.0 on

  root_now : archive_at dig (plus h s) kept.0.places (suc (length h.steps)) ≡ root
  root_now = root_on dig ps h r whole ((ps ++ tree_pages) ++ put.more) s root put.new kept.0 on label

  trees_now : KeepsTrees dig ((ps ++ tree_pages) ++ put.more) (plus h s) (step_pages kept.0.places)
      (archive_at dig (plus h s) kept.0.places)
  trees_now =
      subst (λ (now : Image). KeepsTrees dig now (plus h s) (step_pages kept.0.places)
      (archive_at dig (plus h s) kept.0.places)) (sym all_pages)
      (archived-keeps dig ps rest h (step_pages own_places) (archive_at dig h own_places) root tree_now t time
      whole.trees has listed_now.0 listed_now.1
      (step_pages kept.0.places) (archive_at dig (plus h s) kept.0.places) pages_now roots_now root_now)

  pub added_thread : AddedThread dig ps h r tree_pages root t time
  added_thread = record {
    more = put.more;
    new = put.new;
    is = put.is;
    step = s;
    content = refl;
    at_time = refl;
    keeps = whole_on dig ps h r whole ((ps ++ tree_pages) ++ put.more) s root put.new kept.0 on label trees_now
        (r.threads + 1)
        (let one = one-received h s t refl in omega (arith, one, whole.threads));
    sound = λ sound may. archived-sound dig ps rest h (step_pages own_places) (archive_at dig h own_places) root
        tree_now t time whole.trees has listed_now.0 listed_now.1
        (step_pages kept.0.places) (archive_at dig (plus h s) kept.0.places) pages_now roots_now root_now sound may;
  }
