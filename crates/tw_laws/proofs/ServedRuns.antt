-- Runs of services on a disk, with what they acknowledge: at the end all images go on from one history, which has all of
-- it, and all that was published.
use Rattle.std.proofs.Common.{◌≡◌, ◌∙◌, ◌<◌, ◌≤◌, ℕ, List, [], ◌∷◌, refl, ap, arith, length, sym, subst, inr, ⊎_elim}
use Rattle.std.proofs.Common.{Bool, true, false}
use Rattle.std.specs.Prelude.{Ok, Err}
use Rattle.sha2.specs.Sha256.{sha256}
use Rattle.tw_base.specs.declared.history.refusal.Refusal.{Refusal}
use Rattle.tw_base.specs.declared.history.thread.Thread.{Thread}
use Rattle.tw_base.specs.history.History.{History}
use Rattle.tw_disk.specs.Disk.{DiskView}
use Rattle.tw_disk.specs.Image.{Image}
use Rattle.tw_pages.specs.Disks.{OneOf}
use Rattle.tw_pages.specs.Runs.{Event, Happening, IsRunFrom, IsShown, IsToldBy, LeadsByEvent, State, disk_at, end_of}
use Rattle.tw_pages.specs.Runs.Event.{Acts, Closes, Crashes, CrashesIn, Opens, StaysClosed}
use Rattle.tw_pages.specs.Runs.State.{Closed, Open}
use Rattle.tw_service.specs.Machine.{Call, Reply}
use Rattle.tw_service.specs.Serves.{disk_of, has_failed}
use Rattle.tw_service.specs.declared.service.Service.{Service}
use Rattle.tw_laws.specs.Acknowledged.{Extends, HasOfEvent, HasOfRun, IsAppendedBy, IsAppendedInRun, RunRises}
use Rattle.tw_laws.specs.Published.{IsThreadOf}
use Rattle.tw_laws.specs.Runs.{DoesAct, IsCallAnswered, IsServicePublished, ServiceAct, ShowsHead, TellsThread, services}
use Rattle.tw_laws.specs.Runs.ServiceAct.{Answered, Told}
use Rattle.tw_laws.proofs.GoingOn.{event_on, line_above, longer_on, next_on, replied_stands, same_on, then_on, thread_on}
use Rattle.tw_laws.proofs.Threads.{next_name, told_own}
use Rattle.tw_laws.proofs.Wavering.{GoesOnFrom, IsOf, ServesAs, Wavers, acts, holds, rests, shows}
use Rattle.tw_laws.proofs.Wavering.{shows_still, stays}

module _ {D : Type 0} (view : D → DiskView) (name : List ℕ)
    (only_now : (d : D) (c : Image) → (view d).left_since (view d).moment c → (view d).may_leave c) where
  abbrev On : History → Image → Type 0
  On h c = GoesOnFrom sha256 view name h c

  abbrev Holds : D → History → Type 0
  Holds disk h = Wavers sha256 view name disk h

  abbrev Says : Event ServiceAct → Thread → Type 0
  Says event t = IsToldBy (TellsThread sha256) event t

  own : (h : History) (c : Image) → IsOf sha256 view name h c → On h c
  own h c is = (h, is, same_on h)

  one_of : (h next : History) (c : Image) → Extends h next → OneOf (IsOf sha256 view name) h next c → On h c
  one_of h next c on one = ⊎_elim (λ was. own h c was) (λ is. (next, is, on)) one

  module _ {H : Type 0} {g : _} {k : _} where
    abbrev Serving : Service D H g k → History → Type 0
    Serving service h = ServesAs sha256 view name only_now service h

    -- an open service serves the history, where no call met a disk fault; and the head that it shows is one of it
    record IsOpenAt (service : Service D H g k) (h : History) : Type 0 where
      disk : Holds (disk_of service) h
      serves : has_failed service ≡ false → Serving service h
      heads : (t : Thread) → ShowsHead service t → IsThreadOf sha256 h t

    abbrev IsAt : State D (Service D H g k) → History → Type 0
    IsAt (Closed disk) h = Holds disk h
    IsAt (Open service) h = IsOpenAt service h

    abbrev Shown : State D (Service D H g k) → Thread → Type 0
    Shown at t = IsShown {V = Service D H g k} ShowsHead at t

    served_at : (service : Service D H g k) (h : History) → Serving service h → IsOpenAt service h
    served_at service h served =
        let rest = rests sha256 view name only_now service h served in
        record {
          disk = (
            record { image = rest.image; told = rest.told; has = own h rest.image rest.has },
            λ c left. own h c (subst (λ (i : Image). IsOf sha256 view name h i) (sym (rest.only c left)) rest.has),
          );
          serves = λ whole. served;
          heads = λ t shown. shows sha256 view name only_now service h t served shown;
        }

    -- what an event leads to
    record Goes (event : Event ServiceAct) (behind : State D (Service D H g k)) (h : History) : Type 0 where
      now : History
      keeps : Extends h now
      is : IsAt behind now
      tells : (t : Thread) → Says event t → IsThreadOf sha256 now t
      has : HasOfEvent event now
      above : (t : Thread) → IsAppendedBy event t → (length h.steps < t.step) × (t.step ≤ length now.steps)

    quiet : (event : Event ServiceAct) (behind : State D (Service D H g k)) (h : History) → IsAt behind h
        → ((t : Thread) → Says event t → ⊥) → HasOfEvent event h → ((t : Thread) → IsAppendedBy event t → ⊥)
        → Goes event behind h
    quiet event behind h is says has none = record {
      now = h;
      keeps = same_on h;
      is = is;
      tells = λ t said. absurd (says t said);
      has = has;
      above = λ t line. absurd (none t line);
    }

    -- ---- a call

    module _ (old new : Service D H g k) (h : History) (is : IsOpenAt old h) where
      -- an earlier call met a disk fault
      still : (act : ServiceAct) → DoesAct sha256 view act old new → has_failed old ≡ true → IsOpenAt new h
      still act does failed =
          let same = stays sha256 view name only_now act old new does failed in
          record {
            disk = (
              record { image = is.disk.0.image; told = same.1.content ∙ is.disk.0.told; has = is.disk.0.has },
              λ c left. is.disk.1 c ((same.1.images c).0 left),
            );
            serves = λ whole. absurd (let no : true ≡ false = sym same.0 ∙ whole in cc);
            heads = λ t shown. is.heads t (same.3 t shown);
          }

      broken : (act : ServiceAct) → DoesAct sha256 view act old new → has_failed old ≡ true → Goes (Acts act) (Open new) h
      broken (Answered call (Ok reply)) does failed = absurd (let no = does.reopen failed in cc)
      broken (Answered call (Err r)) does failed =
          quiet (Acts (Answered call (Err r))) (Open new) h (still (Answered call (Err r)) does failed) (λ t said. said) tt
          (λ t line. line)
      broken (Told call answer) does failed =
          quiet (Acts (Told call answer)) (Open new) h (still (Told call answer) does failed) (λ t said. said) tt
          (λ t line. line)

      -- none did
      replied : (call : Call) (reply : Reply) → IsCallAnswered sha256 view call (Ok reply) old new → Serving old h
          → Goes (Acts (Answered call (Ok reply))) (Open new) h
      replied call reply a served =
          let s = a.steps h served.0 in
          record {
            now = s.next;
            keeps = next_on sha256 call h s.next s.is_next;
            is = served_at new s.next (s.done.1, next_name sha256 call h s.next s.is_next ∙ served.1);
            tells = λ t said. told_own sha256 h served.0.keeps.sound call reply s.next a.kind s.done.0 t said;
            has = replied_stands sha256 call reply h s.next s.is_next s.done.0;
            above = line_above sha256 call reply h s.next s.is_next s.done.0;
          }

      refused : (call : Call) (r : Refusal) → IsCallAnswered sha256 view call (Err r) old new → Serving old h
          → Goes (Acts (Answered call (Err r))) (Open new) h
      refused call r a served =
          let act = acts sha256 view name only_now (Answered call (Err r)) old new h a served in
          let either : (c : Image) → OneOf (IsOf sha256 view name) h act.next c → On h c =
          λ c one. one_of h act.next c act.goes one in
          let same = a.kept in
          let failed : has_failed new ≡ true → IsOpenAt new h = λ is_broken. record {
            disk = (
              record { image = act.told.image; told = act.told.told; has = either act.told.image act.told.has },
              λ c left. either c (act.any_moment.now c left),
            );
            serves = λ whole. absurd (let no : true ≡ false = sym is_broken ∙ whole in cc);
            heads = λ t shown. is.heads t (shows_still sha256 view name only_now old new same t shown);
          } in
          quiet (Acts (Answered call (Err r))) (Open new) h
          (⊎_elim (λ fault. failed (a.broken.1 (inr (ap (λ (x : Refusal). Err x) fault))))
          (λ on. served_at new h (on.0, served.1)) (a.steps h served.0).refused)
          (λ t said. said) tt (λ t line. line)

      whole : (act : ServiceAct) → DoesAct sha256 view act old new → Serving old h → Goes (Acts act) (Open new) h
      whole (Answered call (Ok reply)) does served = replied call reply does served
      whole (Answered call (Err r)) does served = refused call r does served
      whole (Told call answer) does served =
          quiet (Acts (Told call answer)) (Open new) h (subst (λ (s : Service D H g k). IsOpenAt s h) (sym does.1) is)
          (λ t said. said) tt (λ t line. line)

      acted : (act : ServiceAct) → DoesAct sha256 view act old new → (b : Bool) → has_failed old ≡ b
          → Goes (Acts act) (Open new) h
      acted act does true failed = broken act does failed
      acted act does false good = whole act does (is.serves good)

      -- what a crash in the midst of it leaves
      images_in : (act : ServiceAct) → DoesAct sha256 view act old new → (b : Bool) → has_failed old ≡ b → (c : Image)
          → (view (disk_of new)).left_since (view (disk_of old)).moment c → On h c
      images_in act does true failed c left =
          let same = (stays sha256 view name only_now act old new does failed).1 in
          is.disk.1 c
          (only_now (disk_of old) c ((same.images_since (view (disk_of old)).moment c (omega arith)).0 left))
      images_in act does false good c left =
          let a = acts sha256 view name only_now act old new h does (is.serves good) in
          one_of h a.next c a.goes (a.any_moment.each c left)

    -- ---- an event

    holds_at : (at : State D (Service D H g k)) (h : History) → IsAt at h
        → Holds (disk_at view (services sha256 view) at) h
    holds_at (Closed disk) h is = is
    holds_at (Open service) h is = is.disk

    goes : (event : Event ServiceAct) (at behind : State D (Service D H g k)) (h : History) → IsAt at h
        → LeadsByEvent view (services sha256 view) event at behind → Goes event behind h
    goes Opens (Closed disk) (Open service) h is opened =
        let read = is.0 in
        record {
          now = read.has.0;
          keeps = read.has.2;
          is = served_at service read.has.0
              (opened.serves read.image name read.has.0 read.told read.has.1, read.has.1.named);
          tells = λ t said. absurd said;
          has = tt;
          above = λ t line. absurd line;
        }
    goes StaysClosed (Closed disk) (Closed left) h is leads =
        quiet StaysClosed (Closed left) h
        (record { image = is.0.image; told = leads.0 ∙ is.0.told; has = is.0.has }, λ c may. is.1 c (leads.1.now c may))
        (λ t said. said) tt (λ t line. line)
    goes (Acts act) (Open old) (Open new) h is does = acted old new h is act does (has_failed old) refl
    goes Closes (Open service) (Closed disk) h is leads =
        quiet Closes (Closed disk) h (subst (λ (d : D). Holds d h) (sym leads) is.disk) (λ t said. said) tt (λ t line. line)
    goes Crashes at (Closed disk) h is leads =
        quiet Crashes (Closed disk) h
        (holds sha256 view name disk _ h (λ c left. (holds_at at h is).1 c left) leads) (λ t said. said) tt (λ t line. line)
    goes (CrashesIn act) (Open old) (Closed disk) h is leads =
        quiet (CrashesIn act) (Closed disk) h
        (holds sha256 view name disk _ h (images_in old leads.0 h is act leads.1 (has_failed old) refl) leads.2)
        (λ t said. said) tt (λ t line. line)
    goes _ _ _ h is leads = absurd leads

    -- ---- a run

    pub record RunEnds (start : State D (Service D H g k)) (run : List (Happening D (Service D H g k) ServiceAct))
        (h : History) : Type 0 where
      pub now : History
      pub keeps : Extends h now
      pub is : Holds (disk_at view (services sha256 view) (end_of start run)) now
      pub tells : (t : Thread) → IsServicePublished sha256 start run t → IsThreadOf sha256 now t
      pub has : HasOfRun run now
      pub above : (t : Thread) → IsAppendedInRun run t → (length h.steps < t.step) × (t.step ≤ length now.steps)
      pub rises : RunRises run

    shown : (at : State D (Service D H g k)) (h : History) → IsAt at h → (t : Thread) → Shown at t
        → IsThreadOf sha256 h t
    shown (Closed disk) h is t told = absurd told
    shown (Open service) h is t told = is.heads t told

    run_ends : (start : State D (Service D H g k)) (run : List (Happening D (Service D H g k) ServiceAct)) (h : History)
        → IsAt start h → IsRunFrom view (services sha256 view) start run → RunEnds start run h
    run_ends start [] h is leads = record {
      now = h;
      keeps = same_on h;
      is = holds_at start h is;
      tells = shown start h is;
      has = tt;
      above = λ t line. absurd line;
      rises = tt;
    }
    run_ends start (x ∷ run) h is leads =
        let first = goes x.event start x.behind h is leads.0 in
        let rest = run_ends x.behind run first.now first.is leads.1 in
        let on = then_on h first.now rest.now first.keeps rest.keeps in
        record {
          now = rest.now;
          keeps = on;
          is = rest.is;
          tells = λ t told. ⊎_elim (λ head. thread_on sha256 h rest.now on t (shown start h is t head))
              (λ more. ⊎_elim (λ by. thread_on sha256 first.now rest.now rest.keeps t (first.tells t by))
              (λ later. rest.tells t later) more) told;
          has = (event_on x.event first.now rest.now rest.keeps first.has, rest.has);
          above = λ t line. ⊎_elim
              (λ by. (
                (first.above t by).0,
                omega (arith, (first.above t by).1, longer_on first.now rest.now rest.keeps),
              ))
              (λ later. (omega (arith, longer_on h first.now first.keeps, (rest.above t later).0), (rest.above t later).1))
              line;
          rises = (λ one later by behind. omega (arith, (first.above one by).1, (rest.above later behind).0), rest.rises);
        }

    -- from a disk whose images go on from the history
    pub closed_run : (disk : D) (run : List (Happening D (Service D H g k) ServiceAct)) (h : History) → Holds disk h
        → IsRunFrom view (services sha256 view) (Closed disk) run → RunEnds (Closed disk) run h
    closed_run disk run h is leads = run_ends (Closed disk) run h is leads
