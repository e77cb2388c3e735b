-- What a store that serves a history leaves and tells, and from the record and pages that a service writes to the
-- histories that they keep.
use Rattle.std.proofs.Common.{◌≡◌, ℕ, suc, ◌+◌, ◌*◌, ◌^◌, ◌<◌, ◌≤◌, List, ◌++◌, length, refl, ap, sym, ◌∙◌, arith}
use Rattle.std.proofs.Common.{subst, inl, inr, ◌⊎◌, ⊎_elim, length-append}
use Rattle.std.specs.Prelude.{Option, Some, None, Result, Err, IfErr, IfOk}
use Rattle.std.proofs.lemmas.Result.{IfErr-weaker, IfOk-weaker, MatchResult-weaker}
use Rattle.tw_disk.specs.Image.{Image}
use Rattle.tw_disk.specs.Disk.{DiskView, IsAtRest, LeavesOnly, Reads}
use Rattle.tw_disk.proofs.Moments.{leaves_weaker}
use Rattle.tw_base.specs.declared.kinds.limits.TheConstants.{LAST_STEP}
use Rattle.tw_base.specs.declared.history.root.Root.{Root}
use Rattle.tw_base.specs.declared.history.thread.Thread.{Thread}
use Rattle.tw_base.specs.history.Asking.{with_entry}
use Rattle.tw_base.specs.history.History.{History, Step, plus}
use Rattle.tw_base.specs.history.Tree.{Tree, entries, tree}
use Rattle.tw_base.specs.history.Limits.{IsTimeWithinLimits, MayRecord}
use Rattle.tw_base.proofs.lemmas.kinds.DigestBytes.{IsDigest}
use Rattle.tw_base.specs.declared.history.content.Content.TheVariants.{Received}
use Rattle.tw_archive.specs.Archives.{MayArchive}
use Rattle.tw_rbtree.specs.Standing.{HasNamed, StandsWith}
use Rattle.tw_disk.specs.Answers.{Next}
use Rattle.tw_disk.proofs.FoundLaws.{same_found}
use Rattle.tw_pages.specs.Records.{IsOneOf, IsWritten, Written, written_record}
use Rattle.tw_pages.specs.Rests.{RestsWith}
use Rattle.tw_pages.proofs.States.{stands_by}
use Rattle.tw_pages.proofs.Written.{content_written, only_same, rest_for_good as rests_for_good, since_same}
use Rattle.tw_pages.proofs.Written.{still_rests}
use Rattle.tw_pages.specs.declared.store.Store.{Store}
use Rattle.tw_pages.specs.Same.{IsSameStore}
use Rattle.tw_pages.specs.SameSteps.{is_same_on}
use Rattle.tw_pages.specs.StoreValue.{store_disk}
use Rattle.tw_skiplist.specs.declared.head.Head.{Head}
use Rattle.tw_base.specs.declared.history.refusal.Refusal.{Refusal}
use Rattle.tw_base.specs.declared.history.refusal.Refusal.TheVariants.{DiskFault}
use Rattle.tw_answers.specs.declared.limits.TheConstants.{MOST_PAGES_OF_A_STEP}
use Rattle.tw_answers.specs.declared.root.RootRecord.{RootRecord}
use Rattle.tw_answers.specs.Limits.{clock_refusal}
use Rattle.tw_answers.specs.Roots.{root_kind}
use Rattle.tw_service.specs.Archiving.{archived_entry}
use Rattle.tw_service.specs.EventStep.{with_events_at}
use Rattle.tw_service.specs.Keeps.{StoreServes}
use Rattle.tw_service.specs.NextRecords.{event_record, next_record}
use Rattle.tw_service.specs.Stands.{KeepsHistory, KeepsWhole, StandsFor, StandsForOneOf}
use Rattle.tw_service.specs.Writing.{AddsThread, AppendsTo, CommitsRoot}
use Rattle.tw_service.proofs.NextHistories.{sound_plus}
use Rattle.tw_service.proofs.WholePages.{AddedThread, added_thread, added_whole, last_low, names, tree_named}

-- ---- the next history, from the record and pages that keep this one

-- a store at rest with a record has few pages
pub few_written : {D : Type 0} {g : _} (view : D → DiskView) (store : Store D g) (w : Written RootRecord)
    → RestsWith view root_kind store w → 4 + length w.pages ≤ 4 + MOST_PAGES_OF_A_STEP * w.root.head.step
few_written view store w rest = let few = rest.has.has.may.fits.few_pages in let is = ap length rest.has.pages_are in
    omega (arith, few, is)

pub room_written : {D : Type 0} {g : _} (view : D → DiskView) (store : Store D g) (w : Written RootRecord)
    → RestsWith view root_kind store w → w.root.head.step < LAST_STEP → 4 + length w.pages < 2 ^ 47
room_written view store w rest short = let few = few_written view store w rest in omega (arith, few, short)

module _ (dig : List ℕ → List ℕ) (size : (text : List ℕ) → IsDigest (dig text)) (w next : Written RootRecord)
    (h : History) (keeps : KeepsHistory dig w.pages w.root h) where
  named_on : (head : Head) (archive : Root) (threads : ℕ) (time : Option ℕ) → next.root ≡ next_record w.root head
      archive threads time → h.name ≡ next.root.name
  named_on head archive threads time root = keeps.named ∙ sym (ap (λ (r : RootRecord). r.name) root)

  -- after a step of events
  pub keeps_events : (events : List (List ℕ)) (time : Option ℕ) → AppendsTo dig events time w next
      → w.root.head.step < LAST_STEP → MayRecord events → IsTimeWithinLimits time → clock_refusal w.root.time time
      ≡ None
      → 4 + length w.pages < 2 ^ 47 → KeepsHistory dig next.pages next.root (with_events_at h events time)
  keeps_events events time to short limits within clock room =
      let own = added_whole dig size w.pages h w.root keeps.whole events time short limits within room in
      let same : ◌≡◌ {A = Next Head} (record { pages = w.pages ++ own.more; value = own.new })
      (record { pages = next.pages; value = next.root.head }) = same_found _ _ (sym own.is ∙ to.is) in
      record {
        sound = sound_plus h events time keeps.sound limits within
            (ap (λ (o : Option ℕ). clock_refusal o time) (sym keeps.whole.time) ∙ clock)
            (omega (arith, short, keeps.whole.steps.step));
        named = named_on next.root.head w.root.archive w.root.threads time to.root;
        whole = subst (λ (r : RootRecord). KeepsWhole dig next.pages (with_events_at h events time) r) (sym to.root)
            (subst (λ (n : Next Head). KeepsWhole dig n.pages (with_events_at h events time)
            (event_record w.root n.value time)) same own.keeps);
      }

  same_pages : {one other : Image} → Some one ≡ Some other → other ≡ one
  same_pages e = cc

  -- after a step that archives a thread
  pub record KeepsThread (t : Thread) (time : Option ℕ) : Type 0 where
    pub step : Step
    pub content : step.content ≡ Received t
    pub at_time : step.time ≡ time
    pub keeps_next : KeepsHistory dig next.pages next.root (plus h step)

  module _ (t : Thread) (time : Option ℕ) (to : AddsThread dig t time w next) (may : MayArchive h t time)
      (short : w.root.head.step < LAST_STEP) (few : 4 + length w.pages ≤ 4 + MOST_PAGES_OF_A_STEP
      * w.root.head.step) where
    abbrev ps : Image
    ps = w.pages

    abbrev r : RootRecord
    r = w.root

    abbrev whole : KeepsWhole dig ps h r
    whole = keeps.whole

    new_tree : (tree_now : Tree) × StandsWith dig (HasNamed (names dig ps h r whole)) (ps ++ to.staged.tree_pages)
        next.root.archive tree_now × (entries tree_now ≡ with_entry (entries (tree h (length h.steps)))
        (archived_entry r.head.step t))
    new_tree = to.staged.tree (names dig ps h r whole) (last_low dig ps h r whole) (tree h (length h.steps))
        (tree_named dig ps h r whole)

    lists : entries new_tree.0 ≡ with_entry (entries (tree h (length h.steps)))
        (record { thread = t; archived = suc (length h.steps) })
    lists = new_tree.2 ∙ ap (λ (k : ℕ). with_entry (entries (tree h (length h.steps)))
        (record { thread = t; archived = k })) (let e : r.head.step + 1 ≡ suc (length h.steps) =
        omega (arith, whole.steps.step) in e)

    added : AddedThread dig ps h r to.staged.tree_pages next.root.archive t time
    added = added_thread dig size ps h r whole to.staged.tree_pages next.root.archive new_tree.0 t time to.new_tree
        new_tree.1 lists short may.thread may.limit
        (let sum = length-append ps to.staged.tree_pages in omega (arith, sum, to.staged.few, few, short))

    abbrev all : Next Head
    all = record { pages = (ps ++ to.staged.tree_pages) ++ added.more; value = added.new }

    abbrev with_pages : Image → Next Head
    with_pages qs = record { pages = qs; value = next.root.head }

    same : all ≡ with_pages next.pages
    same = same_found all (with_pages to.staged.pages) (sym added.is ∙ to.staged.is) ∙ ap with_pages
        (same_pages to.staged.told)

    pub keeps_thread : KeepsThread t time
    keeps_thread = record {
      step = added.step;
      content = added.content;
      at_time = added.at_time;
      keeps_next = record {
        sound = added.sound keeps.sound may;
        named = named_on next.root.head next.root.archive (w.root.threads + 1) time to.root;
        whole = subst (λ (x : RootRecord). KeepsWhole dig next.pages (plus h added.step) x) (sym to.root)
            (subst (λ (n : Next Head). KeepsWhole dig n.pages (plus h added.step)
            (next_record r n.value next.root.archive (r.threads + 1) time)) same added.keeps);
      };
    }

-- ---- what an image stands for

module _ (dig : List ℕ → List ℕ) where
  -- what opens with a record and pages stands for the history that they keep
  pub stands_named : (w : Written RootRecord) (h : History) (name : List ℕ) → KeepsHistory dig w.pages w.root h
      → h.name ≡ name → (i : Image) → IsWritten root_kind w i → StandsFor dig i name h
  stands_named w h name keeps named i is =
      record { named = named; stands = stands_by root_kind (KeepsHistory dig) w h keeps i is }

  -- and what opens with these or the next ones for one of two
  pub one_named : (w next : Written RootRecord) (h then : History) (name : List ℕ) → KeepsHistory dig w.pages w.root h
      → h.name ≡ name → (next ≡ w) ⊎ KeepsHistory dig next.pages next.root then → then.name ≡ name
      → (i : Image) → IsOneOf root_kind w next i → StandsForOneOf dig name h then i
  one_named w next h then name keeps named either named_too i one = ⊎_elim
      (λ was. inl (stands_named w h name keeps named i was))
      (λ is. ⊎_elim
      (λ same. inl (stands_named w h name keeps named i (subst (λ (x : Written RootRecord). IsWritten root_kind x i)
      same is)))
      (λ keeps_next. inr (stands_named next then name keeps_next named_too i is)) either) one

module _ {D : Type 0} {g : _} (view : D → DiskView) (only_now : (d : D) (c : Image)
    → (view d).left_since (view d).moment c → (view d).may_leave c) where
  -- ---- a store that was only read and staged on

  module _ (dig : List ℕ → List ℕ) where
    pub rest_for_good : (store : Store D g) (r : RootRecord) (h : History) → StoreServes dig view store r h
        → IsAtRest (view (store_disk store)) (λ i. StandsFor dig i r.name h)
    rest_for_good store r h serves =
        let rest = rests_for_good view root_kind store (written_record r serves.pages) serves.rests in
        record {
          image = rest.image;
          told = rest.told;
          only = rest.only;
          has = stands_named dig (written_record r serves.pages) h r.name serves.keeps serves.keeps.named rest.image
              rest.has;
        }

    pub read_serves : (old mid : Store D g) (r : RootRecord) (h : History) → IsSameStore view old mid
        → StoreServes dig view old r h → StoreServes dig view mid r h
    read_serves old mid r h same serves =
        record {
          pages = serves.pages;
          rests = still_rests view root_kind old mid (written_record r serves.pages) same serves.rests;
          keeps = serves.keeps;
        }

    pub read_leaves : (old mid : Store D g) (r : RootRecord) (h : History) → IsSameStore view old mid → StoreServes dig
        view old r h → LeavesOnly (view (store_disk old)) (view (store_disk mid)) (λ i. StandsFor dig i r.name h)
    read_leaves old mid r h same serves = only_same view root_kind only_now old mid (written_record r serves.pages)
        (λ i. StandsFor dig i r.name h) same serves.rests
        (λ i is. stands_named dig (written_record r serves.pages) h r.name serves.keeps serves.keeps.named i is)

    -- so it leaves and tells one of two histories
    pub same_leaves : (old mid : Store D g) (r : RootRecord) (h next : History) → IsSameStore view old mid
        → StoreServes dig view old r h → LeavesOnly (view (store_disk old)) (view (store_disk mid))
        (StandsForOneOf dig r.name h next)
    same_leaves old mid r h next same serves =
        leaves_weaker (view (store_disk old)) (view (store_disk mid)) (λ i. StandsFor dig i r.name h)
        (StandsForOneOf dig r.name h next) (λ i stands. inl stands) (read_leaves old mid r h same serves)

    pub same_tells : (old mid : Store D g) (r : RootRecord) (h next : History) → IsSameStore view old mid
        → StoreServes dig view old r h → Reads (view (store_disk mid)) (StandsForOneOf dig r.name h next)
    same_tells old mid r h next same serves = let now = rest_for_good mid r h (read_serves old mid r h same serves) in
        record { image = now.image; told = now.told; has = inl now.has }

  -- ---- what a call wrote

  module _ {T : Type 0} (IsNext : (w next : Written RootRecord) → Type 0) (IsAnswer : T → (w next : Written RootRecord)
      → Type 0) where
    -- nothing
    pub nothing_written : (old mid : Store D g) (r after : RootRecord) (result : Result T Refusal) (ps : Image)
        → IsSameStore view old mid → RestsWith view root_kind old (written_record r ps) → after ≡ r
        → IfOk result (λ value. IsAnswer value (written_record r ps) (written_record r ps)) → CommitsRoot view IsNext
        IsAnswer old mid r after result ps
    nothing_written old mid r after result ps same rest stays is = record {
      next = written_record r ps;
      is_next = inl refl;
      any_moment = only_same view root_kind only_now old mid (written_record r ps)
          (IsOneOf root_kind (written_record r ps) (written_record r ps)) same rest (λ i was. inl was);
      told = let now = still_rests view root_kind old mid (written_record r ps) same rest in
          record {
            image = now.image;
            told = now.told;
            has = inl (content_written view root_kind mid (written_record r ps) now);
          };
      done = IfOk-weaker result _ _
          (λ value own. (own, stays, still_rests view root_kind old mid (written_record r ps) same rest)) is;
      refused = MatchResult-weaker result is (λ value own. tt) (λ refusal _. inr (
        still_rests view root_kind old mid (written_record r ps) same rest,
        only_same view root_kind only_now old mid (written_record r ps) (IsWritten root_kind (written_record r ps)) same
            rest (λ i was. was),
      ));
    }

    -- nothing, where pages were staged that were given up
    pub discarded : (old mid new : Store D g) (r : RootRecord) (refusal : Refusal) (ps : Image) → IsSameStore view old mid
        → IsSameStore view mid new → RestsWith view root_kind old (written_record r ps) → CommitsRoot view IsNext
        IsAnswer old new r r (Err refusal) ps
    discarded old mid new r refusal ps staged given_up rest =
        nothing_written old new r r (Err refusal) ps (is_same_on view old mid new staged given_up) rest refl tt

    -- what was written since before the store was read, with an answer that this one tells
    pub since_read : {Next : (w next : Written RootRecord) → Type 0}
        {IsOther : T → (w next : Written RootRecord) → Type 0} (old mid new : Store D g) (r after : RootRecord)
        (result : Result T Refusal) (ps : Image) → IsSameStore view old mid → RestsWith view root_kind old
        (written_record r ps)
        → ((next : Written RootRecord) → Next (written_record r ps) next → IsNext (written_record r ps) next)
        → ((value : T) (next : Written RootRecord) → IsOther value (written_record r ps) next → IsAnswer value
        (written_record r ps) next) → CommitsRoot view Next IsOther mid new r after result ps → CommitsRoot view IsNext
        IsAnswer old new r after result ps
    since_read old mid new r after result ps same rest goes tells it = record {
      next = it.next;
      is_next = ⊎_elim (λ stays. inl stays) (λ to. inr (goes it.next to)) it.is_next;
      any_moment = since_same view root_kind only_now old mid new (written_record r ps)
          (IsOneOf root_kind (written_record r ps) it.next) same rest (λ i was. inl was) it.any_moment;
      told = it.told;
      done = IfOk-weaker result _ _ (λ value own. (tells value it.next own.0, own.1, own.2)) it.done;
      refused = IfErr-weaker result _ _ (λ refusal. ⊎_elim (λ fault. inl fault)
          (λ stays. inr (
            stays.0,
            since_same view root_kind only_now old mid new (written_record r ps)
                (IsWritten root_kind (written_record r ps)) same rest (λ i was. was) stays.1,
          ))) it.refused;
    }

    -- what a call wrote, with an answer of its own in place of the one that was given
    pub answered_so : {U : Type 0} {IsOther : U → (w next : Written RootRecord) → Type 0} (old new : Store D g)
        (r after : RootRecord) (given : Result U Refusal) (result : Result T Refusal) (ps : Image)
        → (it : CommitsRoot view IsNext IsOther old new r after given ps)
        → IfOk result (λ value. IsAnswer value (written_record r ps) it.next × (after ≡ it.next.root)
        × RestsWith view root_kind new it.next)
        → IfErr result (λ refusal. (refusal ≡ DiskFault)
        ⊎ (RestsWith view root_kind new (written_record r ps) × LeavesOnly (view (store_disk old))
        (view (store_disk new)) (IsWritten root_kind (written_record r ps)))) → CommitsRoot view IsNext IsAnswer old new
        r after result ps
    answered_so old new r after given result _ it done refused = record {
      next = it.next;
      is_next = it.is_next;
      any_moment = it.any_moment;
      told = it.told;
      done = done;
      refused = refused;
    }

    -- of a history that was served, with the one that the next record and pages keep
    module _ (dig : List ℕ → List ℕ) (old new : Store D g) (before after : RootRecord) (result : Result T Refusal)
        (h then : History) (serves : StoreServes dig view old before h)
        (it : CommitsRoot view IsNext IsAnswer old new before after result serves.pages)
        (either : (it.next ≡ written_record before serves.pages) ⊎ KeepsHistory dig it.next.pages it.next.root then)
        (named : then.name ≡ before.name) where
      one : (i : Image) → IsOneOf root_kind (written_record before serves.pages) it.next i
          → StandsForOneOf dig before.name h then i
      one = one_named dig (written_record before serves.pages) it.next h then before.name serves.keeps
          serves.keeps.named either named

      pub written_leaves : LeavesOnly (view (store_disk old)) (view (store_disk new))
          (StandsForOneOf dig before.name h then)
      written_leaves = leaves_weaker (view (store_disk old)) (view (store_disk new))
          (IsOneOf root_kind (written_record before serves.pages) it.next) (StandsForOneOf dig before.name h then) one
          it.any_moment

      pub written_tells : Reads (view (store_disk new)) (StandsForOneOf dig before.name h then)
      written_tells = record { image = it.told.image; told = it.told.told; has = one it.told.image it.told.has }

      pub written_serves : KeepsHistory dig it.next.pages it.next.root then → (after ≡ it.next.root) × RestsWith view
          root_kind new it.next → StoreServes dig view new after then
      written_serves keeps done = record {
        pages = it.next.pages;
        rests = subst (λ (r : RootRecord). RestsWith view root_kind new (written_record r it.next.pages)) (sym done.0)
            done.1;
        keeps = subst (λ (r : RootRecord). KeepsHistory dig it.next.pages r then) (sym done.0) keeps;
      }
