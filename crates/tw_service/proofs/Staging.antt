-- The next record, and the pages that were staged for it.
use Rattle.std.proofs.Common.{◌≡◌, ℕ, suc, zero, ◌+◌, ◌*◌, ◌^◌, ◌<◌, ◌≤◌, List, ◌++◌, length, refl, ap, sym, ◌∙◌, arith}
use Rattle.std.proofs.Common.{subst, inl, inr}
use Rattle.std.specs.Prelude.{IfSome, Option, Some, None, Ok, Err, false, is_some}
use Rattle.tw_base.specs.declared.kinds.limits.TheConstants.{LAST_STEP}
use Rattle.tw_base.specs.declared.history.content.Content.{Content}
use Rattle.tw_base.specs.declared.history.content.Content.TheVariants.{Events, Received}
use Rattle.tw_base.specs.declared.history.root.Root.{Root}
use Rattle.tw_base.specs.declared.history.thread.Thread.{Thread}
use Rattle.tw_base.specs.format.Codecs.{HasBytes}
use Rattle.tw_base.specs.history.Limits.{IsTimeWithinLimits}
use Rattle.tw_base.specs.kinds.Names.{IsName}
use Rattle.tw_disk.specs.Disk.{DiskView, LeavesOnly, Reads}
use Rattle.tw_disk.specs.Answers.{Next}
use Rattle.tw_disk.specs.Found.{Found, ◌>>=◌}
use Rattle.tw_disk.specs.Found.Found.{Bad, Is}
use Rattle.tw_disk.proofs.FoundLaws.{same_found}
use Rattle.tw_disk.specs.Image.{Image}
use Rattle.tw_pages.specs.Records.{IsOneOf, Written, written_record}
use Rattle.tw_pages.specs.Rests.{RestsWith}
use Rattle.tw_pages.proofs.StagedRecords.{IsStaged, leaves_since, of_these}
use Rattle.tw_pages.specs.declared.store.Store.{Store}
use Rattle.tw_pages.specs.Same.{IsSameStore, store_count, store_list}
use Rattle.tw_pages.specs.StoreValue.{store_disk}
use Rattle.tw_skiplist.specs.declared.head.Head.{Head}
use Rattle.tw_skiplist.specs.Appended.{appended, new_step, next_of, put_behind}
use Rattle.tw_skiplist.specs.Walks.{next_links}
use Rattle.tw_steppage.specs.declared.link.StepRef.{StepRef}
use Rattle.tw_answers.specs.Limits.{append_refusal}
use Rattle.tw_base.specs.declared.history.refusal.Refusal.TheVariants.{DiskFault}
use Rattle.tw_answers.specs.declared.root.RootRecord.{RootRecord}
use Rattle.tw_answers.specs.Roots.{HasLastPage, IsAllowed, root_kind}
use Rattle.tw_answers.proofs.RootLaws.{root-fits, root-name, root-time}
use Rattle.tw_service.specs.Archiving.{IsStagedBehind}
use Rattle.tw_service.specs.NextRecords.{event_record, next_record}
use Rattle.tw_service.specs.Writing.{AddsThread, AppendsTo, CommitsRoot}
use Rattle.tw_service.specs.Stands.{greater}
use Rattle.tw_service.proofs.GreatestTimes.{greater-within}

-- ---- the next record

some_step : (o : Option ℕ) (step : ℕ) → 0 < step → IfSome o (λ time. 0 < step)
some_step None step some = tt
some_step (Some t) step some = some

last_small : (used count page : ℕ) → HasLastPage used count page → used < 2 ^ 64 → page < 2 ^ 64
last_small used zero page last room = let none = last.none refl in omega (arith, none)
last_small used (suc count) page last room = let some = last.some (omega arith) in let low = some.1 in
    omega (arith, low, room)

-- more pages have the last one of as many things still
pub last_on : (used more count page : ℕ) → HasLastPage used count page → used ≤ more → HasLastPage more count page
last_on used more count page last grows =
    record {
      none = last.none;
      some = λ some. let is = last.some some in (is.0, let low = is.1 in omega (arith, low, grows));
    }

-- it may stand over the pages that are used then
module _ (r next : RootRecord) (before generation used commits : ℕ) (may : IsAllowed before generation r)
    (time : Option ℕ) (within : IsTimeWithinLimits time) where
  pub record IsNextRecord : Type 0 where
    pub named : next.name ≡ r.name
    pub one_more : next.head.step ≡ r.head.step + 1
    pub short : r.head.step < LAST_STEP
    pub auth : HasBytes 32 next.head.auth
    pub label : HasBytes 32 next.archive.label
    pub page : (4 ≤ next.head.page) × (next.head.page < used)
    pub archive : HasLastPage used next.threads next.archive.page
    pub threads : next.threads ≤ next.head.step
    pub timed : next.time ≡ greater r.time time
    pub pages : used ≤ 4 + 64 * next.head.step
    pub generations : commits ≤ next.head.step + 1

  pub may_next : IsNextRecord → IsAllowed used commits next
  may_next is = record {
    spelled = root-fits next (subst IsName (sym is.named) (root-name (is_some r.time) r may.spelled))
        (omega (arith, is.one_more, is.short)) is.auth
        (let low = is.page.1 in let most = is.pages in omega (arith, low, most, is.one_more, is.short))
        (last_small used next.threads next.archive.page is.archive (let most = is.pages in
        omega (arith, most, is.one_more, is.short)))
        is.label (omega (arith, is.threads, is.one_more, is.short))
        (subst IsTimeWithinLimits (sym is.timed) (greater-within r.time time (root-time (is_some r.time) r may.spelled)
        within));
    fits = record {
      steps = record { none = λ none. absurd (omega (arith, none, is.one_more)); some = λ some. is.page };
      threads = is.archive;
      few_threads = is.threads;
      few_pages = is.pages;
      few_commits = is.generations;
      timed = some_step next.time next.head.step (omega (arith, is.one_more));
    };
  }

-- ---- what was committed

-- so many more pages are staged for the next record, and are right for it
abbrev pub Stages : {D : Type 0} {g : _} (view : D → DiskView) (IsNext : (w next : Written RootRecord) → Type 0)
    (old mid : Store D g) (r next : RootRecord) (ps : Image) → Type 0
Stages view IsNext old mid r next ps = (more : Image) × IsStaged view root_kind old mid r next ps (ps ++ more)
    × IsNext (written_record r ps) (written_record next (ps ++ more))

-- whatever pages a store was at rest with
abbrev pub StagesOver : {D : Type 0} {g : _} (view : D → DiskView) (IsNext : (w next : Written RootRecord) → Type 0)
    (old mid : Store D g) (r next : RootRecord) → Type 0
StagesOver view IsNext old mid r next = (ps : Image) → RestsWith view root_kind old (written_record r ps)
    → Stages view IsNext old mid r next ps

module _ {D T : Type 0} {g : _} (view : D → DiskView) (only_now : (d : D) (c : Image)
    → (view d).left_since (view d).moment c → (view d).may_leave c)
    (IsNext : (w next : Written RootRecord) → Type 0) (IsAnswer : T → (w next : Written RootRecord) → Type 0)
    (old mid new : Store D g) (r next : RootRecord) (ps : Image) (staged : Stages view IsNext old mid r next ps) where
  abbrev all : Image
  all = ps ++ staged.0

  -- what a clause of the commit says, for these pages
  abbrev pub OfThese : (Image → Image → Type 0) → Type 0
  OfThese P = (qs some : Image) → RestsWith view root_kind mid (written_record r qs) → store_list view mid ≡ Some some
      → IsAllowed (store_count mid) (mid.generation + 1) next → P qs some

  abbrev pub Leaves : Image → Image → Type 0
  Leaves qs some = LeavesOnly (view (store_disk mid)) (view (store_disk new)) (IsOneOf root_kind (written_record r qs)
      (written_record next some))

  abbrev pub Tells : Image → Image → Type 0
  Tells qs some = Reads (view (store_disk new)) (IsOneOf root_kind (written_record r qs) (written_record next some))

  pub committed : (value : T) (after : RootRecord) → IsAnswer value (written_record r ps) (written_record next all)
      → after ≡ next → OfThese Leaves → OfThese Tells
      → OfThese (λ qs some. RestsWith view root_kind new (written_record next some))
      → CommitsRoot view IsNext IsAnswer old new r after (Ok value) ps
  committed value after answer after_is leaves tells rests = record {
    next = written_record next all;
    is_next = inr staged.2;
    any_moment = leaves_since view only_now root_kind old mid r next ps all staged.1 new leaves;
    told = of_these view only_now root_kind old mid r next ps all staged.1 Tells tells;
    done = (
      answer,
      after_is,
      of_these view only_now root_kind old mid r next ps all staged.1 (λ qs some. RestsWith view root_kind new
          (written_record next some)) rests,
    );
    refused = tt;
  }

  pub not_committed : (after : RootRecord) → OfThese Leaves → OfThese Tells → CommitsRoot view IsNext IsAnswer old new r
      after (Err DiskFault) ps
  not_committed after leaves tells = record {
    next = written_record next all;
    is_next = inr staged.2;
    any_moment = leaves_since view only_now root_kind old mid r next ps all staged.1 new leaves;
    told = of_these view only_now root_kind old mid r next ps all staged.1 Tells tells;
    done = tt;
    refused = inl refl;
  }

-- ---- what was staged

-- the page of a step that is found lies behind the pages
put-page : (ps : Image) (links : Found (List StepRef)) (next : List StepRef → Next Head)
    → ((ls : List StepRef) → 4 + length ps ≤ (next ls).value.page) → (n : Next Head) → (links >>= (λ ls. Is (next ls)))
    ≡ Is n → 4 + length ps ≤ n.value.page
put-page ps (Is ls) next low n is = subst (λ (m : Next Head). 4 + length ps ≤ m.value.page) (same_found (next ls) n is)
    (low ls)
put-page ps (Bad page) next low n is = cc

behind-page : (dig : List ℕ → List ℕ) (ps : Image) (head : Head) (content : Content) (archive : Root) (time : Option ℕ)
    (n : Next Head) → appended dig ps head content archive time ≡ Is n → 4 + length ps ≤ n.value.page
unfolding put_behind
behind-page dig ps head content archive time n is = put-page ps (next_links ps head)
    (λ ls. next_of dig ps head (new_step dig content archive time) ls) (λ ls. omega arith) n is

module _ {D : Type 0} {g : _} (view : D → DiskView) (dig : List ℕ → List ℕ) (old mid : Store D g) (r next : RootRecord)
    (head : Head) (time : Option ℕ) (ps more : Image)
    (same : IsSameStore view old mid) (rest : RestsWith view root_kind old (written_record r ps))
    (count : store_count old ≡ 4 + length ps) (grown : store_list view mid ≡ Some (ps ++ more))
    (auth : HasBytes 32 head.auth) (one_more : head.step ≡ r.head.step + 1) (short : r.head.step < LAST_STEP)
    (commits : old.generation ≤ r.head.step + 1) (within : IsTimeWithinLimits time)
    (page : head.page < store_count mid) where
  may_old : IsAllowed (store_count old) old.generation r
  may_old = subst (λ (n : ℕ). IsAllowed n old.generation r) (ap (λ (qs : Image). 4 + length qs) rest.has.pages_are
      ∙ sym count) rest.has.has.may

  all_told : (pages : Image) → store_list view mid ≡ Some pages → pages ≡ ps ++ more
  all_told pages told = let both : Some pages ≡ Some (ps ++ more) = sym told ∙ grown in cc

  -- what the next record is, with this archive of so many threads
  module _ (archive : Root) (threads : ℕ) (next_is : next ≡ next_record r head archive threads time) where
    is_staged : HasBytes 32 archive.label → store_count mid ≤ store_count old + 42 → 4 ≤ head.page → HasLastPage
        (store_count mid) threads archive.page → threads ≤ head.step → IsStaged view root_kind old mid r next ps
        (ps ++ more)
    is_staged label few low last received =
        record {
          same = same;
          rest = rest;
          list = grown;
          may = subst (λ (x : RootRecord). IsAllowed (store_count mid) (mid.generation + 1) x) (sym next_is)
              (may_next r (next_record r head archive threads time) (store_count old) old.generation (store_count mid)
              (mid.generation + 1) may_old time within (record {
                named = refl;
                one_more = one_more;
                short = short;
                auth = auth;
                label = label;
                page = (low, page);
                archive = last;
                threads = received;
                timed = refl;
                pages = let most = may_old.fits.few_pages in omega (arith, few, most, one_more);
                generations = omega (arith, commits, same.generation, one_more);
              }));
        }

  -- for a step of events
  module _ (events : List (List ℕ)) (next_is : next ≡ event_record r head time) (label : HasBytes 32 r.archive.label)
      (few : store_count mid ≤ store_count old + 19) (grows : store_count old ≤ store_count mid)
      (pages : Image) (told : store_list view mid ≡ Some pages) (found : appended dig ps r.head (Events events)
      r.archive time ≡ Is (record { pages = pages; value = head })) where
    pub staged_events : IsStaged view root_kind old mid r next ps (ps ++ more)
    staged_events = is_staged r.archive r.threads next_is label (omega (arith, few))
        (let low = behind-page dig ps r.head (Events events) r.archive time (record { pages = pages; value = head }) found
        in omega (arith, low))
        (last_on (store_count old) (store_count mid) r.threads r.archive.page may_old.fits.threads grows)
        (let less = may_old.fits.few_threads in omega (arith, less, one_more))

    pub appends_events : append_refusal false r.head.step r.time events time ≡ None → AppendsTo dig events time
        (written_record r ps) (written_record next (ps ++ more))
    appends_events allowed =
        let is : head ≡ next.head = sym (ap (λ (x : RootRecord). x.head) next_is) in
        record {
          allowed = allowed;
          more = more;
          behind = refl;
          root = next_is ∙ ap (λ (x : Head). event_record r x time) is;
          is = found ∙ (λ j. Is (record { pages = all_told pages told j; value = is j }));
        }

  -- for a step that archives a thread
  module _ (t : Thread) (archive : Root) (next_is : next ≡ next_record r head archive (r.threads + 1) time)
      (label : HasBytes 32 archive.label) (few : store_count mid ≤ store_count old + 42)
      (tree : (store_count old ≤ archive.page) × (archive.page < store_count mid))
      (staged : IsStagedBehind dig ps r t time (store_list view mid) head archive) where
    pub staged_thread : IsStaged view root_kind old mid r next ps (ps ++ more)
    staged_thread = is_staged archive (r.threads + 1) next_is label few
        (let low = behind-page dig (ps ++ staged.tree_pages) r.head (Received t) archive time
        (record { pages = staged.pages; value = head }) staged.is in omega (arith, low))
        (record {
          none = λ none. absurd (omega (arith, none));
          some = λ some. (let low = tree.0 in omega (arith, low, count), tree.1);
        })
        (let less = may_old.fits.few_threads in omega (arith, less, one_more))

    pub adds_thread : AddsThread dig t time (written_record r ps) (written_record next (ps ++ more))
    adds_thread =
        let is : head ≡ next.head = sym (ap (λ (x : RootRecord). x.head) next_is) in
        let tree_is : archive ≡ next.archive = sym (ap (λ (x : RootRecord). x.archive) next_is) in
        record {
          more = more;
          behind = refl;
          root = next_is ∙ (λ j. next_record r (is j) (tree_is j) (r.threads + 1) time);
          staged = subst (λ (x : Root). IsStagedBehind dig ps r t time (Some (ps ++ more)) next.head x) tree_is
              (subst (λ (x : Head). IsStagedBehind dig ps r t time (Some (ps ++ more)) x archive) is
              (subst (λ (o : Option Image). IsStagedBehind dig ps r t time o head archive) grown staged));
          new_tree = subst (λ (x : Root). 4 + length ps ≤ x.page) tree_is (let low = tree.0 in
              omega (arith, low, count));
        }
