-- What a run's status says by itself.
use Rattle.std.proofs.Common.{◌≡◌, ℕ, ◌<◌, ◌≤◌, List, [], ◌++◌, ap, sym, ◌∙◌, subst, arith, inl, inr, ◌⊎◌, ⊎_elim, refl}
use Rattle.std.proofs.lemmas.Bool.{cases_eq}
use Rattle.std.specs.Prelude.{Option, Some, None, MatchOption}
use Rattle.sha2.specs.Sha256.{sha256}
use Rattle.tw_base.specs.declared.history.report.Report.{Report}
use Rattle.tw_base.specs.kinds.Clash.{OrClash}
use Rattle.tw_base.specs.history.Facts.{Facts, TimesRise}
use Rattle.tw_base.specs.history.Family.{family_texts}
use Rattle.tw_base.specs.kinds.Faults.{Rose}
use Rattle.tw_base.specs.history.History.{History}
use Rattle.tw_base.proofs.lemmas.format.FormatLaws.{one_value}
use Rattle.tw_disk.specs.Disk.{DiskView}
use Rattle.tw_disk.specs.Image.{Image}
use Rattle.tw_outside.specs.TakenBytes.{Appends}
use Rattle.tw_words.specs.CommandLine.{IsFirstBadWord, command_of}
use Rattle.tw_text.specs.Faults.{IsRefused, fault_status, fault_text}
use Rattle.tw_text.specs.Lines.{no_memory_text}
use Rattle.tw_text.specs.declared.fault.CommandFault.{CommandFault}
use Rattle.tw_text.specs.declared.fault.CommandFault.TheVariants.{InputFault, DiskFault, NoMemory, Taken, Refused}
use Rattle.tw_text.specs.declared.fault.CommandFault.TheVariants.{NotFollowed, Unreadable, Unserved}
use Rattle.tw_text.specs.declared.refusal.BadInput.{BadInput}
use Rattle.tw_text.specs.declared.refusal.StoreCause.{StoreCause}
use Rattle.tw_text.specs.Reports.{report_text}
use Rattle.tw_words.specs.declared.command.Command.{Command}
use Rattle.tw_chain.specs.declared.proof.Proof.{Proof as ProofValue}
use Rattle.tw_chain.specs.Proofs.{proof_layout}
use Rattle.tw_chain.specs.declared.verdict.Verdict.{Verdict}
use Rattle.tw_chain.specs.declared.verdict.Verdict.TheVariants.{Yes, No}
use Rattle.tw_chain.specs.Accepting.{carried, proof_texts, report_of}
use Rattle.tw_filecmd.specs.declared.joining.Joined.{Joined as JoinedProofs}
use Rattle.tw_filecmd.specs.declared.joining.Joined.TheVariants.{Whole, Unfit}
use Rattle.tw_diskcmd.specs.Disks.{IsLeft, ReadsAsHistory}
use Rattle.tw_follow.specs.HeadLists.{Kept}
use Rattle.tw_diskcmd.specs.FollowerDisks.{ReadsAsHeads}
use Rattle.tw_app.specs.declared.outcome.Outcome.{Outcome}
use Rattle.tw_app.specs.declared.outcome.Outcome.TheVariants.{Judged, Written, Joined, Made, Received, Answered}
use Rattle.tw_app.specs.declared.outcome.Outcome.TheVariants.{BadWords, Undone}
use Rattle.tw_evidence.specs.declared.fork.ForkVerdict.TheVariants as fork
use Rattle.tw_reachcmd.specs.declared.accusing.Accused.TheVariants as accused
use Rattle.tw_audit.specs.declared.finding.Finding.TheVariants as finding
use Rattle.tw_tmap.specs.declared.map_verdict.MapVerdict.TheVariants as bounds
use Rattle.tw_reachcmd.specs.declared.answer.Answer.{Answer}
use Rattle.tw_reachcmd.specs.declared.adopting.Taken.TheVariants as taken
use Rattle.tw_reachcmd.specs.declared.auditing.Audited.TheVariants as audited
use Rattle.tw_reachcmd.specs.declared.answer.Answer.TheVariants as answers
use Rattle.tw_app.specs.Around.{Around, Writes}
use Rattle.tw_app.specs.Commands.{IsOfFollower, NamesFile}
use Rattle.tw_app.specs.Outcomes.{TakesMemory, status_of, text_of}
use Rattle.tw_app.specs.Running.{EndsAllowed, EndsWith, HasOutcome, HaveNoForm, IsDiskUntouched, Work, work}
use Rattle.tw_app.specs.Statuses.{AreWordsOf, DiskFailed, IsAcceptedRun, IsAnsweredRun, IsDiskFaultRun, IsDoneRun}
use Rattle.tw_app.specs.Statuses.{IsGapRun, IsIdle, IsInputFaultRun, IsRejectedRun, IsStatus, IsUndoneRun, IsUsageRun}
use Rattle.tw_app.specs.Statuses.{IsVerify, IsWork}
use Rattle.tw_app.proofs.AskedRuns.{asked_for, told_as}
use Rattle.tw_app.proofs.Words.{no_text_outcome}
use Rattle.tw_app.proofs.Commands.{Judges, LeavesGap, Row, fault_not_zero, of_option, of_words, rows, same_left}
use Rattle.tw_app.proofs.Commands.{serves_list, verdict_or_fault}

pub zero_not_four : (n : ℕ) → n ≡ 0 → n ≡ 4 → ⊥
zero_not_four n zeroth fourth = omega (arith, zeroth, fourth)

pub not_verdict : (verdict : Verdict) (n : ℕ) → (n ≡ 0 → ⊥) → (n ≡ 1 → ⊥) → n ≡ status_of (Judged verdict) → ⊥
not_verdict (Yes report) n zeroth first told = zeroth told
not_verdict (No reason) n zeroth first told = first told

pub not_joined : (joined : JoinedProofs) (n : ℕ) → (n ≡ 0 → ⊥) → (n ≡ 1 → ⊥) → n ≡ status_of (Joined joined) → ⊥
not_joined (Whole proof) n zeroth first told = zeroth told
not_joined (Unfit place) n zeroth first told = first told

not_answer : (answer : Answer) (n : ℕ) → (n ≡ 0 → ⊥) → (n ≡ 1 → ⊥) → (n ≡ 10 → ⊥) → n ≡ status_of (Answered answer) → ⊥
not_answer (answers.Accused (accused.Whole evidence)) n zeroth first tenth told = zeroth told
not_answer (answers.Accused (accused.Unfit place)) n zeroth first tenth told = first told
not_answer (answers.Planned planned) n zeroth first tenth told = zeroth told
not_answer (answers.Audited (audited.Found (finding.Stands report))) n zeroth first tenth told = zeroth told
not_answer (answers.Audited (audited.Found (finding.NotAccepted reason))) n zeroth first tenth told = first told
not_answer (answers.Audited (audited.Found (finding.Clash one other digest))) n zeroth first tenth told = tenth told
not_answer (answers.Audited (audited.Unheld held found)) n zeroth first tenth told = first told
not_answer (answers.Mapped (bounds.Yes low high upto)) n zeroth first tenth told = zeroth told
not_answer (answers.Mapped (bounds.No reason)) n zeroth first tenth told = first told
not_answer (answers.Mapped bounds.Gap) n zeroth first tenth told = first told
not_answer (answers.Taken (taken.File bytes)) n zeroth first tenth told = zeroth told
not_answer (answers.Taken (taken.Fault fault)) n zeroth first tenth told = first told
not_answer (answers.Fork (fork.Yes shown)) n zeroth first tenth told = zeroth told
not_answer (answers.Fork (fork.No reason)) n zeroth first tenth told = first told

not_fault : (f : CommandFault) (n : ℕ) → n ≡ fault_status f → n < 3 → ⊥
not_fault InputFault n same low = omega (arith, same, low)
not_fault _ n same low = omega (arith, same, low)

pub low_fault : (f : CommandFault) (n : ℕ) → n ≡ fault_status f → 9 < n → ⊥
low_fault InputFault n same high = omega (arith, same, high)
low_fault _ n same high = omega (arith, same, high)

no_form_status : (words : List (List ℕ)) (o : Outcome) → HaveNoForm words o → status_of o ≡ 0 → ⊥
no_form_status words (BadWords number) is zeroth = omega (arith, zeroth)
no_form_status words (Undone f) is zeroth = fault_not_zero f zeroth
no_form_status words _ is zeroth = is

is_disk_fault : (o : Outcome) → status_of o ≡ 5 → o ≡ Undone DiskFault
is_disk_fault (Judged verdict) fifth = absurd (not_verdict verdict 5 (λ k. omega arith) (λ k. omega arith) (sym fifth))
is_disk_fault (Joined joined) fifth = absurd (not_joined joined 5 (λ k. omega arith) (λ k. omega arith) (sym fifth))
is_disk_fault (Answered answer) fifth = absurd (not_answer answer 5 (λ k. omega arith) (λ k. omega arith)
    (λ k. omega arith) (sym fifth))
is_disk_fault (Undone f) fifth = ap (λ (g : CommandFault). Undone g) (by f fifth)
  where
    by : (f : CommandFault) → fault_status f ≡ 5 → f ≡ DiskFault
    by DiskFault fifth = refl
    by _ fifth = absurd (omega (arith, fifth))
is_disk_fault _ fifth = absurd (omega (arith, fifth))

module _ {D : Type 0} (view : D → DiskView)
    (only_now : (d : D) (image : Image) → (view d).left_since (view d).moment image → (view d).may_leave image)
    (as_it_reads : (d : D) (image : Image) → (view d).content ≡ Some image → (view d).may_leave image) (a : Around D)
    (status : ℕ) where
  -- the outcome that was come to, or want of memory for its text
  pub ends_by : (outcome : Outcome) → HasOutcome view a.outside a.words outcome
      → EndsWith a.taken a.sink_faults status outcome ⊎ (TakesMemory outcome × EndsWith a.taken a.sink_faults status
      (Undone NoMemory)) → EndsAllowed view a status
  ends_by outcome has (inl ends) = (outcome, record { has = has; ends = ends })
  ends_by outcome has (inr ends) = (
    Undone NoMemory,
    record { has = no_text_outcome view only_now as_it_reads a.outside a.words outcome ends.0 has; ends = ends.1 },
  )

  module _ (run : EndsAllowed view a status) where
    abbrev outcome : Outcome
    outcome = run.0

    abbrev Does : Command → Outcome → Type 0
    Does c o = (work view a.outside c).does o

    abbrev Has : Outcome → Type 0
    Has o = HasOutcome view a.outside a.words o

    -- what is known of the run's command
    abbrev known : (c : Command) → Row view only_now as_it_reads a.outside c (work view a.outside c)
    known c = rows view only_now as_it_reads a.outside c

    abbrev Left : Type 0
    Left = IsLeft view a.outside.disk.before a.outside.disk.after

    untouched_left : IsDiskUntouched view a.outside → Left
    untouched_left is = same_left view only_now as_it_reads a.outside is

    -- words of no form, or a command
    by_words : {Q : Type 0} → (o : Outcome) → Has o → (HaveNoForm a.words o × IsDiskUntouched view a.outside → Q)
        → ((c : Command) → command_of a.words ≡ Some c → Does c o → Q) → Q
    by_words {Q} o has none some = by (command_of a.words) refl has
      where
        by : (option : Option Command) → command_of a.words ≡ option
            → MatchOption option (HaveNoForm a.words o × IsDiskUntouched view a.outside) (λ c. Does c o) → Q
        by None is has = none has
        by (Some c) is has = some c is has

    of_work : (P : Work → Type 0) (c : Command) → command_of a.words ≡ Some c → P (work view a.outside c)
        → IsWork view a P
    of_work P c is holds = of_option (λ d. P (work view a.outside d)) a.words c is holds

    -- the status and the text are the outcome's
    abbrev Told : Outcome → Type 0
    Told o = (status ≡ status_of o) × Writes a (text_of o)

    told_of : (o : Outcome) → outcome ≡ o → (status ≡ 4 → ⊥) → Told o
    told_of o is other = told_as view a status run (λ cut. other cut.0) o is

    told : (status ≡ 4 → ⊥) → Told outcome
    told = told_of outcome refl

    -- ---- what is left of the disk

    pub crash : MatchOption (command_of a.words) (IsDiskUntouched view a.outside) (λ c. (work view a.outside c).safe)
    crash = by (command_of a.words) run.1.has
      where
        by : (option : Option Command) → MatchOption option (HaveNoForm a.words outcome × IsDiskUntouched view
            a.outside) (λ c. Does c outcome)
            → MatchOption option (IsDiskUntouched view a.outside) (λ c. (work view a.outside c).safe)
        by None has = has.1
        by (Some c) has = (known c).safe outcome has

    pub unwritten : IsIdle status → Left
    unwritten is =
        let same = (told is.1).0 in
        by_words outcome run.1.has (λ has. untouched_left has.1)
        (λ c of has. (known c).idle outcome (λ zeroth. is.0 (same ∙ zeroth)) (λ fifth. is.2 (same ∙ fifth)) has)

    -- ---- status 0

    done_status : status ≡ 0 → status_of outcome ≡ 0
    done_status zeroth = sym (told (zero_not_four status zeroth)).0 ∙ zeroth

    done_work : (c : Command) → command_of a.words ≡ Some c → Does c outcome → status_of outcome ≡ 0
        → IsWork view a (λ w. w.done (text_of outcome))
    done_work c is has zeroth = of_work (λ w. w.done (text_of outcome)) c is ((known c).done outcome has zeroth)

    pub done : status ≡ 0 → IsDoneRun view a
    done zeroth = (
      text_of outcome,
      by_words outcome run.1.has (λ has. absurd (no_form_status a.words outcome has.0 (done_status zeroth)))
          (λ c is has. done_work c is has (done_status zeroth)),
      (told (zero_not_four status zeroth)).1,
    )

    accepted_by : status ≡ 0 → (c : Command) (verdict : Verdict) → command_of a.words ≡ Some c
        → Judges a.outside.inputs.told c verdict → Told (Judged verdict)
        → IsAcceptedRun a.outside.inputs.told a.words a.taken.before a.taken.after
    accepted_by zeroth c (Yes report) is judges ended = record {
      command = c;
      file = judges.file;
      anchors = judges.anchors;
      is_command = is;
      asked = judges.asked;
      given = judges.given;
      there = judges.judged.there;
      accepted = λ bytes tells.
          let is = judges.judged.is_verdict bytes tells in
          (is.0, subst (λ r. Appends a.taken.before a.taken.after (report_text r)) is.2 ended.1);
      bare = λ bytes tells p spelled strict.
          let is = judges.judged.is_verdict bytes tells in
          subst (λ (q : ProofValue). carried q ≡ []) (one_value proof_layout bytes is.0.0 p is.0.1 spelled)
          (is.1 strict);
      binds = λ bytes tells p spelled family sound has.
          let is = judges.judged.is_verdict bytes tells in
          let same : is.0.0 ≡ p = one_value proof_layout bytes is.0.0 p is.0.1 spelled in
          let told : report ≡ report_of p = is.2 ∙ ap report_of same in
          let Holds : Report → Type 0 = λ r. OrClash sha256 (family_texts sha256 family ++ proof_texts sha256 p)
          (Facts sha256 family r.hops r.claim × TimesRise r.hops r.claim) in
          subst Holds told (judges.judged.binds bytes tells p spelled family sound has);
    }
    accepted_by zeroth c (No reason) is judges ended = absurd (omega (arith, zeroth, ended.0))

    pub accepted : status ≡ 0 → AreWordsOf IsVerify a.words → IsAcceptedRun a.outside.inputs.told a.words a.taken.before
        a.taken.after
    accepted zeroth asks = asked_for view a status run IsVerify asks
        (λ c is verify does. of c is does (verdict_or_fault view a.outside c outcome verify does))
      where
        of : (c : Command) → command_of a.words ≡ Some c → Does c outcome → ((v : Verdict) × (outcome ≡ Judged v))
            ⊎ ((f : CommandFault) × (outcome ≡ Undone f))
            → IsAcceptedRun a.outside.inputs.told a.words a.taken.before a.taken.after
        of c is does (inl judged) =
            accepted_by zeroth c judged.0 is
            ((known c).judging judged.0 (subst (λ (o : Outcome). Does c o) judged.1 does))
            (told_of (Judged judged.0) judged.1 (zero_not_four status zeroth))
        of c is does (inr fault) =
            absurd (fault_not_zero fault.0 (sym (told_of (Undone fault.0) fault.1 (zero_not_four status zeroth)).0
            ∙ zeroth))

    -- ---- the other statuses

    rejected_by : status ≡ 1 → (c : Command) (verdict : Verdict) → command_of a.words ≡ Some c
        → Judges a.outside.inputs.told c verdict → Told (Judged verdict) → IsRejectedRun a
    rejected_by first c (Yes report) is judges ended = absurd (omega (arith, first, ended.0))
    rejected_by first c (No reason) is judges ended = record {
      command = c;
      file = judges.file;
      anchors = judges.anchors;
      reason = reason;
      is_command = is;
      asked = judges.asked;
      given = judges.given;
      there = judges.judged.there;
      written = ended.1;
      refused = λ bytes tells. judges.judged.is_verdict bytes tells;
    }

    -- the outcome of a run with this status
    by_status : {Q : Type 0} (n : ℕ) → status ≡ n → (n ≡ 4 → ⊥) → ((o : Outcome) → Has o → n ≡ status_of o
        → Writes a (text_of o) → Q) → Q
    by_status n is other then = let ended = told (λ four. other (sym is ∙ four)) in then outcome run.1.has
        (sym is ∙ ended.0) ended.1

    gap_by : (c : Command) (place : ℕ) → command_of a.words ≡ Some c → LeavesGap a.outside.inputs c place
        → Writes a (text_of (Joined (Unfit place))) → IsGapRun a
    gap_by c place is leaves written = record {
      files = leaves.files;
      parts = leaves.comes.0;
      place = place;
      is_command = is ∙ ap (λ (d : Command). Some d) leaves.is_command;
      hold = leaves.comes.1;
      gap = leaves.comes.2;
      written = written;
    }

    -- a run that came to an answer
    answered_by : (n : ℕ) (answer : Answer) → n ≡ status_of (Answered answer) → Has (Answered answer)
        → Writes a (text_of (Answered answer)) → IsAnsweredRun view a n
    answered_by n answer is has written = (
      text_of (Answered answer),
      by_words (Answered answer) has (λ none. absurd none.0) (λ c of does.
          of_work (λ w. w.answers n (text_of (Answered answer))) c of
          (subst (λ (k : ℕ). (work view a.outside c).answers k (text_of (Answered answer))) (sym is)
          ((known c).answers (Answered answer) tt does))),
      written,
    )

    pub rejected : status ≡ 1 → IsRejectedRun a ⊎ IsGapRun a ⊎ IsAnsweredRun view a 1
    rejected is = by_status 1 is (λ k. omega arith) by
      where
        by : (o : Outcome) → Has o → 1 ≡ status_of o → Writes a (text_of o) → IsRejectedRun a ⊎ IsGapRun a
            ⊎ IsAnsweredRun view a 1
        by (Judged verdict) has first written =
            inl (by_words (Judged verdict) has (λ none. absurd none.0) (λ c of does. rejected_by is c verdict of
            ((known c).judging verdict does) (is ∙ first, written)))
        by (Joined (Unfit place)) has first written =
            inr (inl (by_words (Joined (Unfit place)) has (λ none. absurd none.0)
            (λ c of does. gap_by c place of ((known c).joining place does) written)))
        by (Answered answer) has first written = inr (inr (answered_by 1 answer first has written))
        by (Joined (Whole proof)) has first written = absurd (omega (arith, first))
        by (Undone f) has first written = absurd (not_fault f 1 first (omega arith))
        by (Written bytes) has first written = absurd (omega (arith, first))
        by (Made thread) has first written = absurd (omega (arith, first))
        by (Received receipt) has first written = absurd (omega (arith, first))
        by (BadWords n) has first written = absurd (omega (arith, first))

    pub clash : status ≡ 10 → IsAnsweredRun view a 10
    clash is = by_status 10 is (λ k. omega arith) by
      where
        by : (o : Outcome) → Has o → 10 ≡ status_of o → Writes a (text_of o) → IsAnsweredRun view a 10
        by (Answered answer) has tenth written = answered_by 10 answer tenth has written
        by (Judged verdict) has tenth written = absurd (not_verdict verdict 10 (λ k. omega arith) (λ k. omega arith)
            tenth)
        by (Joined joined) has tenth written = absurd (not_joined joined 10 (λ k. omega arith) (λ k. omega arith) tenth)
        by (Undone f) has tenth written = absurd (low_fault f 10 tenth (omega arith))
        by _ has tenth written = absurd (omega (arith, tenth))

    pub usage : status ≡ 2 → IsUsageRun view a
    usage is = by_status 2 is (λ k. omega arith) by
      where
        number_is : (n : ℕ) (option : Option Command) → MatchOption option (IsFirstBadWord a.words n × IsDiskUntouched
            view a.outside) (λ c. Does c (BadWords n))
            → MatchOption option (IsFirstBadWord a.words n) (λ c. ⊥)
        number_is n None has = has.0
        number_is n (Some c) has = (known c).usage n has

        by : (o : Outcome) → Has o → 2 ≡ status_of o → Writes a (text_of o) → IsUsageRun view a
        by (BadWords n) has second written = (n, number_is n (command_of a.words) has, written)
        by (Judged verdict) has second written = absurd (not_verdict verdict 2 (λ k. omega arith) (λ k. omega arith)
            second)
        by (Joined joined) has second written = absurd (not_joined joined 2 (λ k. omega arith) (λ k. omega arith)
            second)
        by (Answered answer) has second written = absurd (not_answer answer 2 (λ k. omega arith) (λ k. omega arith)
            (λ k. omega arith) second)
        by (Undone f) has second written = absurd (not_fault f 2 second (omega arith))
        by _ has second written = absurd (omega (arith, second))

    -- a run with the status of a fault says it
    says : {Q : Type 0} (n : ℕ) → status ≡ n → (n ≡ 4 → ⊥) → (3 ≤ n) × (n < 10)
        → ((f : CommandFault) → n ≡ fault_status f → Has (Undone f) → Writes a (fault_text f) → Q) → Q
    says {Q} n is other high then = by_status n is other by
      where
        by : (o : Outcome) → Has o → n ≡ status_of o → Writes a (text_of o) → Q
        by (Undone f) has same written = then f same has written
        by (Judged verdict) has same written =
            absurd (not_verdict verdict n (λ k. omega (arith, k, high.0)) (λ k. omega (arith, k, high.0)) same)
        by (Joined joined) has same written =
            absurd (not_joined joined n (λ k. omega (arith, k, high.0)) (λ k. omega (arith, k, high.0)) same)
        by (Answered answer) has same written =
            absurd (not_answer answer n (λ k. omega (arith, k, high.0)) (λ k. omega (arith, k, high.0))
            (λ k. omega (arith, k, high.1)) same)
        by _ has same written = absurd (omega (arith, same, high.0))

    -- the command that isn't done for it
    undone_by : {Q : Type 0} → (f : CommandFault) → (HaveNoForm a.words (Undone f) → ⊥) → Has (Undone f)
        → ((c : Command) → command_of a.words ≡ Some c → (work view a.outside c).undone f → Q) → Q
    undone_by f none has then = by_words (Undone f) has (λ no. absurd (none no.0))
        (λ c is does. then c is ((known c).undone f does))

    said : (f : CommandFault) → (HaveNoForm a.words (Undone f) → ⊥) → Has (Undone f) → Writes a (fault_text f)
        → IsUndoneRun view a f
    said f none has written = (undone_by f none has (λ c is undone. of_work (λ w. w.undone f) c is undone), written)

    pub input_fault : status ≡ 3 → IsInputFaultRun view a
    input_fault is = says 3 is (λ k. omega arith) (omega arith, omega arith) by
      where
        by : (f : CommandFault) → 3 ≡ fault_status f → Has (Undone f) → Writes a (fault_text f) → IsInputFaultRun view a
        by InputFault same has written = undone_by InputFault (λ none. none) has (λ c of undone.
            let failed = (known c).input undone in
            (of_option NamesFile a.words c of failed.0, failed.1, said InputFault (λ none. none) has written))
        by _ same has written = absurd (omega (arith, same))

    pub output_fault : status ≡ 4 → Rose a.sink_faults.before a.sink_faults.after
    output_fault is = ⊎_elim (λ ends. absurd (never outcome (sym ends.0 ∙ is))) (λ ends. ends.2) run.1.ends
      where
        never_verdict : (v : Verdict) → status_of (Judged v) ≡ 4 → ⊥
        never_verdict (Yes report) fourth = omega (arith, fourth)
        never_verdict (No reason) fourth = omega (arith, fourth)

        never_fault : (f : CommandFault) → fault_status f ≡ 4 → ⊥
        never_fault InputFault fourth = omega (arith, fourth)
        never_fault _ fourth = omega (arith, fourth)

        never : (o : Outcome) → status_of o ≡ 4 → ⊥
        never (Judged v) fourth = never_verdict v fourth
        never (Joined joined) fourth = not_joined joined 4 (λ k. omega arith) (λ k. omega arith) (sym fourth)
        never (Answered answer) fourth = not_answer answer 4 (λ k. omega arith) (λ k. omega arith) (λ k. omega arith)
            (sym fourth)
        never (Undone f) fourth = never_fault f fourth
        never _ fourth = omega (arith, fourth)

    pub cut_short : (DiskFailed view a → ⊥) → ((text : List ℕ) × IsWork view a (λ w. w.done text)) ⊎ Left
    cut_short unfailed = by_words outcome run.1.has (λ has. inr (untouched_left has.1))
        (λ c is has. elim (cases_eq (status_of outcome) 0) [
          | inl zeroth ↦ inl (text_of outcome, done_work c is has zeroth)
          | inr other ↦
              inr ((known c).idle outcome other
              (λ fifth. unfailed (failed c (subst (λ (o : Outcome). Does c o) (is_disk_fault outcome fifth) has))) has)
        ])
      where
        failed : (c : Command) → Does c (Undone DiskFault) → DiskFailed view a
        failed c does = ((known c).disk ((known c).undone DiskFault does)).1

    pub disk_fault : status ≡ 5 → IsDiskFaultRun view a
    disk_fault is = says 5 is (λ k. omega arith) (omega arith, omega arith) by
      where
        by : (f : CommandFault) → 5 ≡ fault_status f → Has (Undone f) → Writes a (fault_text f) → IsDiskFaultRun view a
        by DiskFault same has written = undone_by DiskFault (λ none. none) has (λ c of undone.
            let failed = (known c).disk undone in
            (of_work (λ w. w.uses_disk) c of failed.0, failed.1, said DiskFault (λ none. none) has written))
        by _ same has written = absurd (omega (arith, same))

    pub no_memory : status ≡ 6 → Writes a no_memory_text
    no_memory is = says 6 is (λ k. omega arith) (omega arith, omega arith) by
      where
        by : (f : CommandFault) → 6 ≡ fault_status f → Has (Undone f) → Writes a (fault_text f)
            → Writes a no_memory_text
        by NoMemory same has written = written
        by _ same has written = absurd (omega (arith, same))

    pub refused : status ≡ 7 → (fault : CommandFault) × IsRefused fault × IsUndoneRun view a fault
    refused is = says 7 is (λ k. omega arith) (omega arith, omega arith) by
      where
        by : (f : CommandFault) → 7 ≡ fault_status f → Has (Undone f) → Writes a (fault_text f) → (fault : CommandFault)
            × IsRefused fault × IsUndoneRun view a fault
        by Taken same has written = (Taken, tt, said Taken (λ none. none) has written)
        by (Refused refusal) same has written =
            (Refused refusal, tt, said (Refused refusal) (λ none. none) has written)
        by (NotFollowed refusal) same has written =
            (NotFollowed refusal, tt, said (NotFollowed refusal) (λ none. none) has written)
        by _ same has written = absurd (omega (arith, same))

    -- a run of status 8 tells why its command isn't served
    unserved_by : {Q : Type 0} → status ≡ 8 → ((cause : StoreCause) → Has (Undone (Unserved cause))
        → Writes a (fault_text (Unserved cause)) → Q) → Q
    unserved_by {Q} is then = says 8 is (λ k. omega arith) (omega arith, omega arith) by
      where
        by : (f : CommandFault) → 8 ≡ fault_status f → Has (Undone f) → Writes a (fault_text f) → Q
        by (Unserved cause) same has written = then cause has written
        by _ same has written = absurd (omega (arith, same))

    pub unserved : status ≡ 8 → (cause : StoreCause) × IsUndoneRun view a (Unserved cause)
    unserved is = unserved_by is (λ cause has written. (cause, said (Unserved cause) (λ none. none) has written))

    pub complete : status ≡ 8 → (AreWordsOf IsOfFollower a.words → ⊥) → (h : History)
        → ReadsAsHistory (view a.outside.disk.before).content h → ⊥
    complete is other h reads = unserved_by is (λ cause has written. undone_by (Unserved cause) (λ none. none) has
        (λ c of undone. (known c).serves (λ follows. other (of_option IsOfFollower a.words c of follows)) h reads cause
        undone))

    pub list_complete : status ≡ 8 → AreWordsOf IsOfFollower a.words → (k : Kept)
        → ReadsAsHeads (view a.outside.disk.before).content k → ⊥
    list_complete is follows k reads = unserved_by is (λ cause has written. undone_by (Unserved cause) (λ none. none)
        has
        (λ c of undone. serves_list view only_now as_it_reads a.outside c (of_words IsOfFollower a.words c of follows) k
        reads cause undone))

    pub unreadable : status ≡ 9 → (bad : BadInput) × IsUndoneRun view a (Unreadable bad)
    unreadable is = says 9 is (λ k. omega arith) (omega arith, omega arith) by
      where
        by : (f : CommandFault) → 9 ≡ fault_status f → Has (Undone f) → Writes a (fault_text f) → (bad : BadInput)
            × IsUndoneRun view a (Unreadable bad)
        by (Unreadable bad) same has written = (bad, said (Unreadable bad) (λ none. none) has written)
        by _ same has written = absurd (omega (arith, same))

    -- ---- the statuses

    fault_is_status : (f : CommandFault) → IsStatus (fault_status f)
    fault_is_status InputFault = inr (inr (inr (inl refl)))
    fault_is_status DiskFault = inr (inr (inr (inr (inr (inl refl)))))
    fault_is_status NoMemory = inr (inr (inr (inr (inr (inr (inl refl))))))
    fault_is_status Taken = inr (inr (inr (inr (inr (inr (inr (inl refl)))))))
    fault_is_status (Refused refusal) = inr (inr (inr (inr (inr (inr (inr (inl refl)))))))
    fault_is_status (NotFollowed refusal) = inr (inr (inr (inr (inr (inr (inr (inl refl)))))))
    fault_is_status (Unserved cause) = inr (inr (inr (inr (inr (inr (inr (inr (inl refl))))))))
    fault_is_status (Unreadable bad) = inr (inr (inr (inr (inr (inr (inr (inr (inr (inl refl)))))))))

    is_answer_status : (answer : Answer) → IsStatus (status_of (Answered answer))
    is_answer_status (answers.Accused (accused.Whole evidence)) = inl refl
    is_answer_status (answers.Accused (accused.Unfit place)) = inr (inl refl)
    is_answer_status (answers.Planned planned) = inl refl
    is_answer_status (answers.Audited (audited.Found (finding.Stands report))) = inl refl
    is_answer_status (answers.Audited (audited.Found (finding.NotAccepted reason))) = inr (inl refl)
    is_answer_status (answers.Audited (audited.Found (finding.Clash one other digest))) =
        inr (inr (inr (inr (inr (inr (inr (inr (inr (inr (inl refl))))))))))
    is_answer_status (answers.Audited (audited.Unheld held found)) = inr (inl refl)
    is_answer_status (answers.Mapped (bounds.Yes low high upto)) = inl refl
    is_answer_status (answers.Mapped (bounds.No reason)) = inr (inl refl)
    is_answer_status (answers.Mapped bounds.Gap) = inr (inl refl)
    is_answer_status (answers.Taken (taken.File bytes)) = inl refl
    is_answer_status (answers.Taken (taken.Fault fault)) = inr (inl refl)
    is_answer_status (answers.Fork (fork.Yes shown)) = inl refl
    is_answer_status (answers.Fork (fork.No reason)) = inr (inl refl)

    is_status : (o : Outcome) → IsStatus (status_of o)
    is_status (Judged (Yes report)) = inl refl
    is_status (Judged (No reason)) = inr (inl refl)
    is_status (Written bytes) = inl refl
    is_status (Joined (Whole proof)) = inl refl
    is_status (Joined (Unfit place)) = inr (inl refl)
    is_status (Made thread) = inl refl
    is_status (Received receipt) = inl refl
    is_status (Answered answer) = is_answer_status answer
    is_status (BadWords n) = inr (inr (inl refl))
    is_status (Undone f) = fault_is_status f

    pub statuses : IsStatus status
    statuses = ⊎_elim (λ ends. subst IsStatus (sym ends.0) (is_status outcome))
        (λ ends. inr (inr (inr (inr (inl ends.0))))) run.1.ends
