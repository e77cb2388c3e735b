-- Runs of services on a disk: what is to be shown of them.
use Rattle.std.proofs.Common.{◌≡◌, ◌⊎◌, ℕ, List, refl, ap, sym, ◌∙◌, subst, arith, inl, inr, ⊎_elim, true}
use Rattle.std.specs.Prelude.{IfErr, OnErr, Result, Ok, Err}
use Rattle.tw_base.specs.declared.history.thread.Thread.{Thread}
use Rattle.tw_base.specs.history.History.{History}
use Rattle.tw_disk.specs.Disk.{DiskView, IsAtRest, IsSameDisk, LeavesOnly, Reads}
use Rattle.tw_disk.specs.Image.{Image}
use Rattle.tw_disk.proofs.Moments.{no_call}
use Rattle.tw_pages.specs.Disks.{OneOf}
use Rattle.tw_pages.specs.Runs.{Acted, Happening, HoldsOnly, IsRunFrom, Laws, State, disk_at, end_of}
use Rattle.tw_pages.specs.Runs.State.{Closed, Open}
use Rattle.tw_pages.specs.Runs as runs
use Rattle.tw_pages.proofs.Wavering as wavering
use Rattle.tw_base.specs.declared.history.refusal.Refusal.{Refusal}
use Rattle.tw_base.specs.declared.history.refusal.Refusal.TheVariants.{DiskFault, Reopen}
use Rattle.tw_service.specs.declared.service.Service.{Service}
use Rattle.tw_service.specs.Machine.{Call, Reply, last_thread}
use Rattle.tw_service.specs.Serves.{HasSameDisk, Serves, disk_of, has_failed, head_of, head_thread, name_of}
use Rattle.tw_service.specs.Stands.{StandsFor, StandsForOneOf}
use Rattle.tw_service.proofs.Serving.{rest_for_good}
use Rattle.tw_laws.specs.Published.{IsThreadOf}
use Rattle.tw_laws.specs.Runs.{ServiceAct, BeginsHistory, DoesAct, HasAllKnown, HasOneAuthenticator, IsCallAnswered, IsKnown}
use Rattle.tw_laws.specs.Runs.{IsServicePublished, ShowsHead, TellsThread, services}
use Rattle.tw_laws.specs.Runs.ServiceAct.{Answered, Told}
use Rattle.tw_laws.specs.Acknowledged.{Extends}
use Rattle.tw_laws.proofs.GoingOn.{next_on, same_on, then_on, thread_on}
use Rattle.tw_laws.proofs.Threads.{last_own, next_name, own_once, told_own}

same_disk : (disk : DiskView) → IsSameDisk disk disk
same_disk disk = record {
  content = refl;
  images = λ c. ((λ left. left), λ left. left);
  later = omega arith;
  images_since = λ t c le. ((λ left. left), λ left. left);
}

module _ {D : Type 0} (dig : List ℕ → List ℕ) (view : D → DiskView) (name : List ℕ) where
  abbrev pub IsOf : History → Image → Type 0
  IsOf h image = StandsFor dig image name h

  -- the later history has the steps of the earlier one, and so its threads
  abbrev pub Has : (h next : History) → Type 0
  Has h next = Extends h next

  -- the image stands for a history that goes on from this one
  abbrev pub GoesOnFrom : History → Image → Type 0
  GoesOnFrom h image = runs.GoesOnFrom IsOf Has view h image

  -- the disk tells what it reads as, and that, and each image that a crash may leave, is such a one
  abbrev pub Wavers : D → History → Type 0
  Wavers disk h = runs.Wavers IsOf Has view disk h

  pub same_has : (h : History) → Has h h
  same_has h = same_on h

  -- the disk holds images alone that go on
  pub holds : (disk : D) (P : Image → Type 0) (h : History) → ((c : Image) → P c → GoesOnFrom h c)
      → HoldsOnly view P disk → Wavers disk h
  holds disk P h goes is =
      (record { image = is.0.image; told = is.0.told; has = goes is.0.image is.0.has }, λ c left. goes c (is.1 c left))

  -- what is published is of this history
  pub one_for : (first : History) (Published : Thread → Type 0) (last : D) (h : History) → Wavers last h → Has first h
      → ((t : Thread) → Published t → IsThreadOf dig h t)
      → HasOneAuthenticator dig view name first Published last
  one_for first Published last h is keeps own =
      let tells : (t : Thread) → IsKnown dig view name first Published t → IsThreadOf dig h t =
      λ t known. ⊎_elim (λ of_first. thread_on dig first h keeps t of_first) (λ published. own t published) known in
      let all : (c : Image) → GoesOnFrom h c → HasAllKnown dig view name first Published c =
      λ c goes. (goes.0, goes.1, (λ t known. thread_on dig h goes.0 goes.2 t (tells t known))) in
      record {
        one = λ t u told other same. own_once dig h t u (tells t told) (tells u other) same;
        at_end = (
          record { image = is.0.image; told = is.0.told; has = all is.0.image is.0.has },
          λ c left. all c (is.1 c left),
        );
      }

  module _ {H : Type 0} {g : _} {k : _} (only_now : (d : D) (c : Image) → (view d).left_since (view d).moment c
      → (view d).may_leave c) where
    -- the service serves the history, of this name
    abbrev pub ServesAs : Service D H g k → History → Type 0
    ServesAs service h = Serves dig view service h × (h.name ≡ name)

    pub own_name : (service : Service D H g k) (h : History) → ServesAs service h → name_of service ≡ name
    own_name service h served = sym served.0.keeps.named ∙ served.1

    pub rests : (service : Service D H g k) (h : History) → ServesAs service h → IsAtRest (view (disk_of service)) (IsOf h)
    rests service h served =
        subst (λ (n : List ℕ). IsAtRest (view (disk_of service)) (λ i. StandsFor dig i n h)) (own_name service h served)
        (rest_for_good view only_now dig service.recorded.kept.store service.recorded.kept.root h served.0)

    pub shows : (service : Service D H g k) (h : History) (t : Thread) → ServesAs service h → ShowsHead service t
        → IsThreadOf dig h t
    shows service h t served shown =
        let named = sym served.0.keeps.named in
        let step = served.0.keeps.whole.steps.step in
        let auths = served.0.keeps.whole.steps.auth in
        let head : head_thread service ≡ last_thread dig h =
        λ j. record { from = named j; step = step j; auth = auths j } in
        subst (λ (u : Thread). IsThreadOf dig h u) (sym (shown ∙ head)) (last_own dig h)

    -- after a refusal the value shows the head that it showed
    pub shows_still : (old new : Service D H g k) → (head_of new ≡ head_of old) × (name_of new ≡ name_of old) → (t : Thread)
        → ShowsHead new t → ShowsHead old t
    shows_still old new same_record t shown =
        let head = same_record.0 in
        let named = same_record.1 in
        let same : head_thread new ≡ head_thread old =
        λ j. record { from = named j; step = (head j).step; auth = (head j).auth } in
        shown ∙ same

    abbrev pub ActsBy : (act : ServiceAct) (old new : Service D H g k) (h : History) → Type 0
    ActsBy act old new h = Acted view (services dig view) IsOf Has ServesAs (IsThreadOf dig) ShowsHead (TellsThread dig)
        act old new h

    -- one of the two is served, and what was told holds of it; or a disk fault came, and nothing was told
    abbrev EndsIn : (act : ServiceAct) (old new : Service D H g k) (h next : History) → Type 0
    EndsIn act old new h next =
        (ServesAs new next × ((t : Thread) → TellsThread dig act t → IsThreadOf dig next t))
        ⊎ ((ServesAs new h × ((t : Thread) → TellsThread dig act t → IsThreadOf dig h t))
        ⊎ ((has_failed new ≡ true) × ((t : Thread) → TellsThread dig act t → ⊥) × ((t : Thread) → ShowsHead new t
        → ShowsHead old t)))

    ends_in : (call : Call) (answer : Result Reply Refusal) (old new : Service D H g k) (h : History)
        (a : IsCallAnswered dig view call answer old new) (served : ServesAs old h)
        → EndsIn (Answered call answer) old new h (a.steps h served.0).next
    ends_in call (Ok reply) old new h a served =
        let s = a.steps h served.0 in
        inl (
          (s.done.1, next_name dig call h s.next s.is_next ∙ served.1),
          λ t told. told_own dig h served.0.keeps.sound call reply s.next a.kind s.done.0 t told,
        )
    ends_in call (Err refusal) old new h a served = ⊎_elim
        (λ fault. inr
        (inr (
          a.broken.1 (inr (ap (λ (r : Refusal). Err r) fault)),
          (λ t told. told),
          shows_still old new a.kept,
        )))
        (λ on. inr (inl ((on.0, served.1), λ t told. absurd told))) (a.steps h served.0).refused

    answered : (call : Call) (answer : Result Reply Refusal) (old new : Service D H g k) (h : History)
        → IsCallAnswered dig view call answer old new → ServesAs old h → ActsBy (Answered call answer) old new h
    answered call answer old new h a served =
        let s = a.steps h served.0 in
        let own = own_name old h served in
        record {
          next = s.next;
          goes = next_on dig call h s.next s.is_next;
          any_moment = subst (λ (n : List ℕ). LeavesOnly (view (disk_of old)) (view (disk_of new))
              (StandsForOneOf dig n h s.next)) own s.any_moment;
          told = subst (λ (n : List ℕ). Reads (view (disk_of new)) (StandsForOneOf dig n h s.next)) own s.told;
          done = ends_in call answer old new h a served;
        }

    told_still : (call : Call) (answer : Result Reply Refusal) (service : Service D H g k) (h : History)
        → ServesAs service h → ActsBy (Told call answer) service service h
    told_still call answer service h served =
        let rest = rests service h served in
        record {
          next = h;
          goes = same_has h;
          any_moment = no_call (view (disk_of service)) (OneOf IsOf h h) (only_now (disk_of service))
              (λ c left. inl (subst (λ (i : Image). IsOf h i) (sym (rest.only c left)) rest.has));
          told = record { image = rest.image; told = rest.told; has = inl rest.has };
          done = inr (inl (served, λ t told. absurd told));
        }

    pub acts : (act : ServiceAct) (old new : Service D H g k) (h : History) → DoesAct dig view act old new → ServesAs old h
        → ActsBy act old new h
    acts (Answered call answer) old new h does served = answered call answer old new h does served
    acts (Told call answer) old new h does served = subst (λ (s : Service D H g k). ActsBy (Told call answer) old s h)
        (sym does.1) (told_still call answer old h served)

    -- ---- after a disk fault

    unwritten_by : (answer : Result Reply Refusal) (old new : Service D H g k) → answer ≡ Err Reopen
        → IfErr answer (λ refusal. (refusal ≡ DiskFault) ⊎ HasSameDisk view old new) → HasSameDisk view old new
    unwritten_by answer old new reopen unwritten =
        ⊎_elim (λ no. absurd cc) (λ s. s)
        (subst (λ (r : Result Reply Refusal). IfErr r (λ refusal. (refusal ≡ DiskFault) ⊎ HasSameDisk view old new))
        reopen unwritten)

    abbrev pub StaysBy : (act : ServiceAct) (old new : Service D H g k) → Type 0
    StaysBy act old new =
        (has_failed new ≡ true) × IsSameDisk (view (disk_of old)) (view (disk_of new))
        × ((t : Thread) → TellsThread dig act t → ⊥) × ((t : Thread) → ShowsHead new t → ShowsHead old t)

    pub stays : (act : ServiceAct) (old new : Service D H g k) → DoesAct dig view act old new → has_failed old ≡ true
        → StaysBy act old new
    stays (Answered call answer) old new a failed =
        let reopen = a.reopen failed in
        let same_record =
        subst (λ (r : Result Reply Refusal). OnErr r ((head_of new ≡ head_of old) × (name_of new ≡ name_of old))) reopen
        a.kept in (
          a.broken.1 (inl failed),
          (unwritten_by answer old new reopen a.unwritten).disk,
          (λ t told. subst (λ (r : Result Reply Refusal). TellsThread dig (Answered call r) t) reopen told),
          shows_still old new same_record,
        )
    stays (Told call answer) old new does failed =
        subst (λ (s : Service D H g k). StaysBy (Told call answer) old s) (sym does.1)
        (failed, same_disk (view (disk_of old)), (λ t told. told), λ t shown. shown)

    pub service_laws : Laws {V = Service D H g k} view (services dig view) IsOf Has ServesAs (IsThreadOf dig) ShowsHead
        (TellsThread dig)
    service_laws = record {
      same = same_has;
      on = λ a b c first second. then_on a b c first second;
      keeps = λ h next t on own. thread_on dig h next on t own;
      rests = rests;
      shows = shows;
      opens = λ disk service image h opened told is. (opened.serves image name h told is, is.named);
      acts = λ act old new h does whole served. acts act old new h does served;
      stays = stays;
    }

    -- ---- over every run

    abbrev pub IsAt : State D (Service D H g k) → History → Type 0
    IsAt at h = wavering.IsAt view (services dig view) IsOf Has ServesAs (IsThreadOf dig) ShowsHead (TellsThread dig)
        service_laws only_now at h

    -- at the end all images go on from one history, which has all that the first one had, and all that was published
    pub record Ends (start : State D (Service D H g k)) (run : List (Happening D (Service D H g k) ServiceAct))
        (h : History) : Type 0 where
      pub now : History
      pub keeps : Has h now
      pub is : Wavers (disk_at view (services dig view) (end_of start run)) now
      pub tells : (t : Thread) → IsServicePublished dig start run t → IsThreadOf dig now t

    pub ends : (start : State D (Service D H g k)) (run : List (Happening D (Service D H g k) ServiceAct)) (h : History)
        → IsAt start h → IsRunFrom view (services dig view) start run → Ends start run h
    ends start run h is leads =
        let end = wavering.ends view (services dig view) IsOf Has ServesAs (IsThreadOf dig) ShowsHead (TellsThread dig)
        service_laws only_now start run h is leads in
        record {
          now = end.now;
          keeps = end.goes_on;
          is = wavering.wavers_at view (services dig view) IsOf Has ServesAs (IsThreadOf dig) ShowsHead
              (TellsThread dig) service_laws only_now (end_of start run) end.now end.is;
          tells = end.tells;
        }

    begins : (start : State D (Service D H g k)) (h : History) → BeginsHistory dig view name h start → IsAt start h
    begins (Closed disk) h is = holds disk (λ i. StandsFor dig i name h) h (λ c stands. (h, stands, same_has h)) is
    begins (Open service) h is = wavering.opened_at view (services dig view) IsOf Has ServesAs (IsThreadOf dig)
        ShowsHead (TellsThread dig) service_laws only_now service h (is.1, is.0)

    pub one_authenticator : (start : State D (Service D H g k)) (h : History)
        (run : List (Happening D (Service D H g k) ServiceAct)) → BeginsHistory dig view name h start
        → IsRunFrom view (services dig view) start run
        → HasOneAuthenticator dig view name h (IsServicePublished dig start run)
        (disk_at view (services dig view) (end_of start run))
    one_authenticator start h run is leads =
        let end = ends start run h (begins start h is) leads in
        one_for h (IsServicePublished dig start run) (disk_at view (services dig view) (end_of start run)) end.now
        end.is end.keeps end.tells
