-- What each command leaves of a disk whose images go on from one history, and that it publishes a thread of the history
-- that is then there.
use Rattle.std.proofs.Common.{◌≡◌, ◌∙◌, ◌<◌, ◌≤◌, ℕ, List, ap, arith, length, sym, subst, ⊎_elim}
use Rattle.std.specs.Prelude.{Option, Some, Result, Ok, Err}
use Rattle.sha2.specs.Sha256.{sha256}
use Rattle.tw_base.specs.declared.history.question.Question.{Question}
use Rattle.tw_base.specs.declared.history.question.Question.TheVariants as ask
use Rattle.tw_base.specs.declared.history.thread.Thread.{Thread}
use Rattle.tw_base.specs.history.History.{History}
use Rattle.tw_disk.specs.Disk.{DiskView}
use Rattle.tw_disk.specs.Image.{Image}
use Rattle.tw_pages.specs.Slots.{IsTaken}
use Rattle.tw_service.specs.Machine.{Call, NextOf, last_thread}
use Rattle.tw_service.specs.Machine.Call.{Append as Appending, Ask, Receive as Receiving}
use Rattle.tw_service.specs.Machine.Reply.{OfBytes, OfReceipt}
use Rattle.tw_service.specs.Stands.{IsImageOfHistory, StandsFor}
use Rattle.tw_text.specs.declared.fault.CommandFault.{CommandFault}
use Rattle.tw_diskcmd.specs.Appending.{AreEventsOf}
use Rattle.tw_diskcmd.specs.Asking.{AskComes}
use Rattle.tw_pages.specs.Disks.{AddsSafe, OneOf}
use Rattle.tw_pages.proofs.AtRest.{untouched_left}
use Rattle.tw_diskcmd.specs.Comes.{FoundDisk}
use Rattle.tw_diskcmd.specs.Files.{IsMessageIn}
use Rattle.tw_diskcmd.specs.Disks.{IsLeft, NextBy, ReadsAsHistory, RestsAtHistory}
use Rattle.tw_diskcmd.specs.Disks.{StandsAtHistory}
use Rattle.tw_diskcmd.proofs.AtRest.{own_name, stands_taken}
use Rattle.tw_diskcmd.proofs.CommandLaws.{asking_is_safe}
use Rattle.tw_words.specs.declared.command.Command.{Command}
use Rattle.tw_words.specs.declared.command.Command.TheVariants as command
use Rattle.tw_app.specs.declared.outcome.Outcome.{Outcome}
use Rattle.tw_app.specs.declared.outcome.Outcome.TheVariants.{Made, Received, Written, Undone}
use Rattle.tw_app.specs.Around.{Outside, found_around}
use Rattle.tw_app.specs.Running.{IsOutcomeOf, asking, work}
use Rattle.tw_app.proofs.Commands.{rows}
use Rattle.tw_laws.specs.Published.{IsInAnswer, IsThreadOf}
use Rattle.tw_laws.specs.Acknowledged.{HasAnswered, IsAppended}
use Rattle.tw_laws.proofs.GoingOn.{events_stand, longer_on, next_on, receipt_stands, then_on}
use Rattle.tw_laws.proofs.Threads.{last_own, next_name, told_own}
use Rattle.tw_laws.proofs.Wavering.{GoesOnFrom, Has, Wavers, same_has}
use Rattle.tw_laws.specs.Publishing.{IsOutBy, IsOutByAnswer}
use Rattle.tw_laws.proofs.OtherStores.{stands_closed}

-- ---- what an outcome tells

pub same_made : (t u : Thread) → Made t ≡ Made u → t ≡ u
same_made t u is = cc

pub made_undone : (t : Thread) (f : CommandFault) → Made t ≡ Undone f → ⊥
made_undone t f is = cc

-- what holds of the outcome of each result holds of what came
by_outcome : {X : Type 0} {May : Result X CommandFault → Type 0} (of : X → Outcome) (P : Outcome → Type 0)
    (outcome : Outcome) → IsOutcomeOf of May outcome → ((x : X) → May (Ok x) → P (of x))
    → ((f : CommandFault) → May (Err f) → P (Undone f)) → P outcome
by_outcome of P outcome (Ok x, may, is) done undone = subst P (sym is) (done x may)
by_outcome of P outcome (Err f, may, is) done undone = subst P (sym is) (undone f may)

-- what the answer of a history to a question publishes
answer_told : (t : FoundDisk) (h : History) (reads : ReadsAsHistory t.found h) (q : Question) (bytes : List ℕ)
    (u : Thread) → AskComes t q (Ok bytes) → IsInAnswer sha256 q bytes u → IsThreadOf sha256 h u
unfolding AskComes
answer_told t h reads q bytes u comes told = told_own sha256 h reads.stands.stands.keeps.sound (Ask q) (OfBytes bytes) h
    tt (comes.machine h reads).machine u told

module _ {D : Type 0} (view : D → DiskView) (name : List ℕ)
    (only_now : (d : D) (image : Image) → (view d).left_since (view d).moment image → (view d).may_leave image)
    (as_it_reads : (d : D) (image : Image) → (view d).content ≡ Some image → (view d).may_leave image) where
  -- a disk that stands for a history for good
  pub stands_wavers : (d : D) (c : History) → c.name ≡ name → StandsAtHistory view d c → Wavers sha256 view name d c
  stands_wavers d c named is =
      let own : (i : Image) → (view d).may_leave i → GoesOnFrom sha256 view name c i =
      λ i left. (c, subst (λ (n : List ℕ). StandsFor sha256 i n c) named (is.each i left), same_has sha256 view name c)
      in
      (record { image = is.image; told = is.told; has = own is.image (as_it_reads d is.image is.told) }, own)

  module _ (o : Outside D) where
    -- what a run leaves: a disk whose images go on from a history that goes on from this one, and has all that the run
    -- publishes; and at any
    -- moment images that go on from this one
    pub record Behind (h : History) (Tells : Thread → Type 0) : Type 0 where
      pub now : History
      pub keeps : Has sha256 view name h now
      pub settled : Wavers sha256 view name o.disk.after now
      pub any_moment : (c : Image) → (view o.disk.after).left_since (view o.disk.before).moment c
          → GoesOnFrom sha256 view name h c
      pub tells : (t : Thread) → Tells t → IsThreadOf sha256 now t

    module _ (h : History) (waver : Wavers sha256 view name o.disk.before h) where
      -- ---- what the disk reads as

      abbrev read : History
      read = waver.0.has.0

      abbrev read_has : Has sha256 view name h read
      read_has = waver.0.has.2

      named : read.name ≡ name
      named = waver.0.has.1.named

      abbrev reads : ReadsAsHistory (view o.disk.before).content read
      reads = record {
        image = waver.0.image;
        told = waver.0.told;
        stands = own_name name read waver.0.image waver.0.has.1;
      }

      one_goes : (call : Call) (next : History) → NextOf sha256 call read next → (c : Image) → OneOf (IsImageOfHistory sha256) read
          next c → GoesOnFrom sha256 view name h c
      one_goes call next is_next c one = ⊎_elim
          (λ stands. (read, subst (λ (n : List ℕ). StandsFor sha256 c n read) named stands, read_has))
          (λ stands. (
            next,
            subst (λ (n : List ℕ). StandsFor sha256 c n next) (next_name sha256 call read next is_next ∙ named) stands,
            then_on h read next read_has (next_on sha256 call read next is_next),
          ))
          one

      -- ---- what is left

      -- nothing was written, and nothing is published
      pub left_behind : (Tells : Thread → Type 0) → IsLeft view o.disk.before o.disk.after
          → ((t : Thread) → Tells t → ⊥) → Behind h Tells
      left_behind Tells left none = record {
        now = h;
        keeps = same_has sha256 view name h;
        settled = (
          record { image = waver.0.image; told = left.0 ∙ waver.0.told; has = waver.0.has },
          λ c may. waver.1 c (left.1.now c may),
        );
        any_moment = λ c since. waver.1 c (left.1.each c since);
        tells = λ t told. absurd (none t told);
      }

      -- nothing was written, and the disk became stable
      settled_behind : (Tells : Thread → Type 0) → IsLeft view o.disk.before o.disk.after
          → RestsAtHistory view o.disk.after read → ((t : Thread) → Tells t → IsThreadOf sha256 read t) → Behind h Tells
      settled_behind Tells left rests own = record {
        now = read;
        keeps = read_has;
        settled = stands_wavers o.disk.after read named rests.stands;
        any_moment = λ c since. waver.1 c (left.1.each c since);
        tells = own;
      }

      -- ---- a step that may be added

      module _ {X : Type 0} (In : X → Type 0) (call : X → Call)
          (safe : AddsSafe (IsImageOfHistory sha256) view In (λ x. NextBy (call x)) o.disk.before o.disk.after) where
        adds_moment : (c : Image) → (view o.disk.after).left_since (view o.disk.before).moment c
            → GoesOnFrom sha256 view name h c
        adds_moment c since = ⊎_elim
            (λ kept. waver.1 c (kept.0.each c since))
            (λ added. ⊎_elim (λ was. waver.1 c was) (λ one. one_goes (call added.0) added.2 added.3 c one)
            (added.4.each c since))
            ((safe read).0 reads)

        adds_wavers : Wavers sha256 view name o.disk.after h
        adds_wavers = ⊎_elim
            (λ kept. (
              record {
                image = kept.1.image;
                told = kept.1.told;
                has = (
                  read,
                  subst (λ (n : List ℕ). StandsFor sha256 kept.1.image n read) named kept.1.stands,
                  read_has,
                );
              },
              λ c may. waver.1 c (kept.0.now c may),
            ))
            (λ added. (
              record {
                image = added.5.image;
                told = added.5.told;
                has = one_goes (call added.0) added.2 added.3 added.5.image added.5.has;
              },
              λ c may. ⊎_elim (λ was. waver.1 c was) (λ one. one_goes (call added.0) added.2 added.3 c one)
                  (added.4.now c may),
            ))
            ((safe read).0 reads)

        -- it may have been, and nothing is published
        adds_behind : (Tells : Thread → Type 0) → ((t : Thread) → Tells t → ⊥) → Behind h Tells
        adds_behind Tells none =
            record {
              now = h;
              keeps = same_has sha256 view name h;
              settled = adds_wavers;
              any_moment = adds_moment;
              tells = λ t told. absurd (none t told);
            }

        -- it was
        added_behind : (Tells : Thread → Type 0) (by : Call) (next : History) → NextOf sha256 by read next
            → RestsAtHistory view o.disk.after next → ((t : Thread) → Tells t → IsThreadOf sha256 next t) → Behind h Tells
        added_behind Tells by next is_next rests own = record {
          now = next;
          keeps = then_on h read next read_has (next_on sha256 by read next is_next);
          settled = stands_wavers o.disk.after next (next_name sha256 by read next is_next ∙ named) rests.stands;
          any_moment = adds_moment;
          tells = own;
        }

      -- ---- each command

      abbrev pub Does : Command → Outcome → Type 0
      Does c outcome = (work view o c).does outcome

      abbrev pub By : Command → Outcome → Type 0
      By c outcome = Behind h (IsOutBy c outcome)

      -- one that asks a question
      asked : (q : Question) (outcome : Outcome) → (asking view o (Some q)).does outcome
          → Behind h (IsOutByAnswer q outcome)
      asked q outcome came =
          by_outcome Written (λ x. Behind h (IsOutByAnswer q x)) outcome came
          (λ bytes may. settled_behind (IsOutByAnswer q (Written bytes)) may.1.0 (may.1.1.0 read reads)
          (λ t told. answer_told (found_around view o) read reads q bytes t may.0 told))
          (λ f may. left_behind (IsOutByAnswer q (Undone f))
          ((asking_is_safe view o.disk.before o.disk.after {X = List ℕ}).safe (Err f) may.1).0 (λ t told. told))

      taken : IsTaken waver.0.image
      taken = stands_taken read waver.0.image reads.stands

      making : (of : List ℕ) (outcome : Outcome) → Does (command.Init of) outcome → By (command.Init of) outcome
      making of outcome came =
          let left = ((rows view only_now as_it_reads o (command.Init of)).safe outcome came).2 waver.0.image
          waver.0.told taken in
          by_outcome Made (By (command.Init of)) outcome came
          (λ thread may. absurd (may.0.free waver.0.image waver.0.told taken))
          (λ f may. left_behind (IsOutBy (command.Init of) (Undone f)) left (λ t told. told))

      -- a follower's command over a service's disk
      offering : (file : List ℕ) (outcome : Outcome) → Does (command.Offer file) outcome → IsLeft view o.disk.before
          o.disk.after
      offering file outcome came =
          let closed = stands_closed waver.0.image name read waver.0.has.1 in
          ((rows view only_now as_it_reads o (command.Offer file)).safe outcome came).0 waver.0.image closed.0
          waver.0.told closed.1

      -- what it leaves, and that what it acknowledges is there
      pub record Kept (c : Command) (outcome : Outcome) : Type 0 where
        pub left : By c outcome
        pub has : HasAnswered o.inputs.told c outcome left.now
        pub above : (t : Thread) → IsAppended c outcome t
            → (length h.steps < t.step) × (t.step ≤ length left.now.steps)

      appended : (file : List ℕ) (time : Option ℕ) (outcome : Outcome) → Does (command.Append file time) outcome
          → Kept (command.Append file time) outcome
      unfolding added_behind
      appended file time outcome came =
          let c = command.Append file time in
          let safe : AddsSafe (IsImageOfHistory sha256) view (AreEventsOf o.inputs.told file) (λ events. NextBy (Appending events time))
          o.disk.before o.disk.after = ((rows view only_now as_it_reads o c).safe outcome came).1 in
          by_outcome Made (Kept c) outcome came
          (λ thread may.
          let events = may.1.0.0 in
          let added = may.1.0.2.1 read reads in
          let next = added.0 in
          let last : thread ≡ last_thread sha256 next = (may.1.0.2.0.machine read reads).0
          ∙ ap (λ (n : History). last_thread sha256 n) (sym added.1.0) in
          let stand = events_stand sha256 read next events time thread added.1.0 last in
          record {
            left = added_behind (AreEventsOf o.inputs.told file) (λ es. Appending es time) safe (IsOutBy c (Made thread))
                (Appending events time) next added.1.0 added.2.0
                (λ t told. subst (λ (u : Thread). IsThreadOf sha256 next u) (sym (told ∙ last)) (last_own sha256 next));
            has = (events, may.1.0.1, stand.0);
            above = λ t line.
                let at : t.step ≡ thread.step = ap (λ (u : Thread). u.step) line in
                (omega (arith, at, stand.1.0, longer_on h read read_has), omega (arith, at, stand.1.1));
          })
          (λ f may. record {
            left = adds_behind (AreEventsOf o.inputs.told file) (λ es. Appending es time) safe (IsOutBy c (Undone f))
                (λ t told. told);
            has = tt;
            above = λ t line. absurd line;
          })

      archived : (file : List ℕ) (time : Option ℕ) (outcome : Outcome) → Does (command.Receive file time) outcome
          → Kept (command.Receive file time) outcome
      unfolding added_behind
      archived file time outcome came =
          let c = command.Receive file time in
          let safe : AddsSafe (IsImageOfHistory sha256) view (IsMessageIn o.inputs.told file) (λ m. NextBy (Receiving m time)) o.disk.before
          o.disk.after = ((rows view only_now as_it_reads o c).safe outcome came).1 in
          by_outcome Received (Kept c) outcome came
          (λ receipt may.
          let m = may.1.0.0 in
          let by = Receiving m time in
          let added = may.1.0.2.1 read reads in
          let next = added.0 in
          record {
            left = added_behind (IsMessageIn o.inputs.told file) (λ x. Receiving x time) safe
                (IsOutBy c (Received receipt)) by next added.1.0 added.2.0
                (λ t told. told_own sha256 read reads.stands.stands.keeps.sound by (OfReceipt receipt) next tt added.1.1
                t told);
            has = (m, may.1.0.1, receipt_stands sha256 read next m time receipt added.1.1);
            above = λ t line. absurd line;
          })
          (λ f may. record {
            left = adds_behind (IsMessageIn o.inputs.told file) (λ x. Receiving x time) safe (IsOutBy c (Undone f))
                (λ t told. told);
            has = tt;
            above = λ t line. absurd line;
          })

      -- what each command leaves
      pub leaves : (c : Command) (outcome : Outcome) → Does c outcome → By c outcome
      leaves (command.Init of) outcome came = making of outcome came
      leaves (command.Append file time) outcome came = (appended file time outcome came).left
      leaves (command.Receive file time) outcome came = (archived file time outcome came).left
      leaves (command.Thread since) outcome came = asked (ask.ThreadOut since) outcome came
      leaves (command.ProveEvent step index top) outcome came = asked (ask.Event step index top) outcome came
      leaves (command.ProveThread step peer k top) outcome came =
          asked (ask.Thread step (record { from = peer; step = k }) top) outcome came
      leaves (command.ProveAbsent step peer k top) outcome came =
          asked (ask.Absent step (record { from = peer; step = k }) top) outcome came
      leaves (command.ProveLink step top) outcome came = asked (ask.Link step top) outcome came
      leaves (command.MapLow step peer top) outcome came = asked (ask.Low step peer top) outcome came
      leaves (command.MapHigh step peer top) outcome came = asked (ask.High step peer top) outcome came
      leaves command.Export outcome came = asked ask.Export outcome came
      leaves (command.Watch of) outcome came =
          left_behind (IsOutBy (command.Watch of) outcome)
          (((rows view only_now as_it_reads o (command.Watch of)).safe outcome came).2 waver.0.image waver.0.told taken)
          (λ t told. told)
      leaves (command.Offer file) outcome came = left_behind (IsOutBy (command.Offer file) outcome)
          (offering file outcome came) (λ t told. told)
      leaves command.Heads outcome came =
          left_behind (IsOutBy command.Heads outcome) ((rows view only_now as_it_reads o command.Heads).safe outcome
          came).0 (λ t told. told)
      leaves c outcome came =
          left_behind (IsOutBy c outcome) (untouched_left view o.disk.before o.disk.after only_now
          ((rows view only_now as_it_reads o c).safe outcome came).0) (λ t told. told)

      -- and that what it acknowledges is there
      pub keeps_answers : (c : Command) (outcome : Outcome) → Does c outcome → Kept c outcome
      keeps_answers (command.Append file time) outcome came = appended file time outcome came
      keeps_answers (command.Receive file time) outcome came = archived file time outcome came
      keeps_answers c outcome came =
          record { left = leaves c outcome came; has = tt; above = λ t line. absurd line }
