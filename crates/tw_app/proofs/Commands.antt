-- What is known of each command's work.
use Rattle.std.proofs.Common.{◌≡◌, ◌∙◌, ℕ, false, true, List, [], ◌∷◌, refl, ap, sym, subst, arith, inl, inr, ◌⊎◌}
use Rattle.std.specs.Prelude.{Option, Some, None, IsSome, MatchOption, Result, Ok, Err}
use Rattle.sha2.specs.Sha256.{sha256}
use Rattle.tw_base.specs.declared.history.question.Question.{Question}
use Rattle.tw_base.specs.declared.history.thread.Thread.{Thread}
use Rattle.tw_base.specs.kinds.Faults.{Rose}
use Rattle.tw_base.specs.history.History.{History}
use Rattle.tw_disk.specs.Disk.{DiskView}
use Rattle.tw_disk.specs.Image.{Image}
use Rattle.tw_outside.specs.Asked.{Asked}
use Rattle.tw_outside.specs.Files.{Files}
use Rattle.tw_words.specs.CommandLine.{command_of}
use Rattle.tw_words.specs.declared.command.Command.{Command}
use Rattle.tw_words.specs.declared.command.Command.TheVariants.{Accuse, Adopt, Append, Atlas, Audit, CheckFork}
use Rattle.tw_words.specs.declared.command.Command.TheVariants.{CheckMap, Init, Join, Receive, Show, VerifyFile}
use Rattle.tw_words.specs.declared.command.Command.TheVariants.{VerifyOne, Strict, Watch, Offer, Heads, Replay}
use Rattle.tw_words.specs.declared.command.Command.TheVariants.{Generate}
use Rattle.tw_text.specs.declared.fault.CommandFault.{CommandFault}
use Rattle.tw_text.specs.declared.fault.CommandFault.TheVariants.{InputFault, DiskFault, NoMemory, Unserved}
use Rattle.tw_text.specs.declared.refusal.StoreCause.{StoreCause}
use Rattle.tw_text.specs.Faults.{fault_status}
use Rattle.tw_chain.specs.declared.verdict.Verdict.{Verdict}
use Rattle.tw_filecmd.specs.declared.joining.Joined.{Joined as JoinedProofs}
use Rattle.tw_filecmd.specs.declared.joining.Joined.TheVariants.{Unfit}
use Rattle.tw_filecmd.specs.Joining.{JoinComes}
use Rattle.tw_filecmd.specs.Showing.{ShowComes}
use Rattle.tw_filecmd.specs.Verifying.{HasAnchors, IsFileJudged, VerifyFileComes, VerifyOneComes}
use Rattle.tw_diskcmd.specs.Asking.{AskComes}
use Rattle.tw_pages.proofs.AtRest.{untouched_left}
use Rattle.tw_diskcmd.specs.Leaves.{WritesNothing}
use Rattle.tw_diskcmd.proofs.AtRest.{left_keeps}
use Rattle.tw_diskcmd.proofs.StoreCommandLaws.{HasCauses, IsSafe}
use Rattle.tw_diskcmd.specs.Disks.{IsImageOfHistory, IsLeft, KeepsServiceDisk, ReadLeavesHistory, ReadsAsHistory}
use Rattle.tw_diskcmd.specs.Receiving.{ReceiveComes, ReceiveLeaves, ReceiveSafe}
use Rattle.tw_diskcmd.proofs.CommandLaws.{append_causes, append_is_safe, ask_causes, asking_is_safe, init_causes}
use Rattle.tw_diskcmd.proofs.CommandLaws.{init_is_safe, receive_causes, receive_is_safe}
use Rattle.tw_diskcmd.specs.FollowerDisks.{IsImageOfHeads, ReadsAsHeads}
use Rattle.tw_diskcmd.specs.Heads.{HeadsComes, HeadsLeaves, HeadsSafe}
use Rattle.tw_diskcmd.specs.Offering.{OfferComes, OfferLeaves, OfferSafe}
use Rattle.tw_diskcmd.specs.Watching.{WatchComes, WatchLeaves, WatchSafe}
use Rattle.tw_diskcmd.proofs.FollowerCommandLaws.{heads_causes, heads_is_safe, offer_causes, offer_is_safe}
use Rattle.tw_diskcmd.proofs.FollowerCommandLaws.{watch_causes, watch_is_safe}
use Rattle.tw_follow.specs.HeadLists.{Kept}
use Rattle.tw_app.specs.declared.outcome.Outcome.{Outcome}
use Rattle.tw_app.specs.declared.outcome.Outcome.TheVariants.{Judged, Written, Joined, Made, Received, Answered}
use Rattle.tw_app.specs.declared.outcome.Outcome.TheVariants.{BadWords, Undone}
use Rattle.tw_reachcmd.specs.declared.answer.Answer.{Answer}
use Rattle.tw_reachcmd.specs.declared.answer.Answer.TheVariants as answers
use Rattle.tw_reachcmd.specs.Accusing.{AccuseComes}
use Rattle.tw_reachcmd.specs.Adopting.{AdoptComes}
use Rattle.tw_reachcmd.specs.Auditing.{AuditComes}
use Rattle.tw_reachcmd.specs.CheckFork.{CheckForkComes}
use Rattle.tw_reachcmd.specs.CheckMap.{CheckMapComes}
use Rattle.tw_reachcmd.specs.Atlas.{AtlasComes}
use Rattle.tw_app.specs.declared.store.StoreAccess.{StoreAccess}
use Rattle.tw_app.specs.declared.store.StoreAccess.TheVariants.{Read, Write}
use Rattle.tw_app.specs.Around.{Outside, found_around}
use Rattle.tw_app.specs.Commands.{IsOfFollower, IsSomeFile, NamesFile, question_of}
use Rattle.tw_app.specs.Outcomes.{TakesMemory, outcome_by, status_of, text_of}
use Rattle.tw_app.specs.Generating.{GenerateComes}
use Rattle.tw_app.specs.Replaying.{ReplayComes}
use Rattle.tw_app.specs.Running.{IsAnswerBy, IsDiskUntouched, IsDoneBy, IsOutcomeOf, UsesDisk, Work, asking, by_results}
use Rattle.tw_app.specs.Running.{over_files, work, writing_disk}
use Rattle.tw_app.specs.Statuses.{AreWordsOf, GivesAnchors, IsVerify, is_strict, proof_file}

pub of_option : (P : Command → Type 0) (words : List (List ℕ)) (c : Command) → command_of words ≡ Some c → P c
    → AreWordsOf P words
of_option P words c is holds = subst (λ o. MatchOption o ⊥ P) (sym is) holds

pub of_words : (P : Command → Type 0) (words : List (List ℕ)) (c : Command) → command_of words ≡ Some c
    → AreWordsOf P words → P c
of_words P words c is holds = subst (λ o. MatchOption o ⊥ P) is holds

pub fault_not_zero : (f : CommandFault) → fault_status f ≡ 0 → ⊥
fault_not_zero InputFault zeroth = omega (arith, zeroth)
fault_not_zero _ zeroth = omega (arith, zeroth)

-- the outcomes of commands that were done or whose answer is another; neither a fault nor the usage line
abbrev pub IsAnswer : Outcome → Type 0
IsAnswer (BadWords number) = ⊥
IsAnswer (Undone f) = ⊥
IsAnswer _ = Unit {0}

same_fault : (f g : CommandFault) → Undone f ≡ Undone g → g ≡ f
same_fault f g is = cc

not_joined : (j : JoinedProofs) (f : CommandFault) → Joined j ≡ Undone f → ⊥
not_joined j f is = cc

not_judged : (v : Verdict) (f : CommandFault) → Judged v ≡ Undone f → ⊥
not_judged v f is = cc

some_file : (files : List (List ℕ)) → (files ≡ [] → ⊥) → IsSomeFile files
some_file [] some = absurd (some refl)
some_file (file ∷ files) some = tt

-- ---- how results are told

-- a value is told neither as a fault nor by the usage line
record Tells {X : Type 0} (of : X → Outcome) : Type 0 where
  value : (x : X) (f : CommandFault) → Undone f ≡ of x → ⊥
  words : (x : X) (n : ℕ) → BadWords n ≡ of x → ⊥

-- and never as a verdict, nor as what was joined; its status is 0, and its text takes no memory
record TellsOfDisk {X : Type 0} (of : X → Outcome) : Type 0 where
  unjudged : (x : X) (v : Verdict) → Judged v ≡ of x → ⊥
  unjoined : (x : X) (j : JoinedProofs) → Joined j ≡ of x → ⊥
  takes : (x : X) → TakesMemory (of x) → ⊥
  status : (x : X) → status_of (of x) ≡ 0

made_tells : Tells Made
made_tells = record { value = λ x f is. cc; words = λ x n is. cc }

joined_tells : Tells Joined
joined_tells = record { value = λ x f is. cc; words = λ x n is. cc }

answered_tells : {X : Type 0} (of : X → Answer) → Tells (λ x. Answered (of x))
answered_tells of = record { value = λ x f is. cc; words = λ x n is. cc }

written_tells : Tells Written
written_tells = record { value = λ x f is. cc; words = λ x n is. cc }

judged_tells : Tells Judged
judged_tells = record { value = λ x f is. cc; words = λ x n is. cc }

received_tells : Tells Received
received_tells = record { value = λ x f is. cc; words = λ x n is. cc }

made_of_disk : TellsOfDisk Made
made_of_disk = record { unjudged = λ x v is. cc; unjoined = λ x j is. cc; takes = λ x taken. taken; status = λ x. refl }

received_of_disk : TellsOfDisk Received
received_of_disk =
    record { unjudged = λ x v is. cc; unjoined = λ x j is. cc; takes = λ x taken. taken; status = λ x. refl }

written_of_disk : TellsOfDisk Written
written_of_disk =
    record { unjudged = λ x v is. cc; unjoined = λ x j is. cc; takes = λ x taken. taken; status = λ x. refl }

-- where its text takes memory, or its status is neither 0 nor 5, nothing was written
module _ {X : Type 0} (of : X → Outcome) (of_disk : TellsOfDisk of) where
  quiet_text : (r : Result X CommandFault) → TakesMemory (outcome_by of r) → WritesNothing r
  quiet_text (Ok x) taken = of_disk.takes x taken
  quiet_text (Err DiskFault) taken = taken
  quiet_text _ taken = tt

  quiet_status : (r : Result X CommandFault) → (status_of (outcome_by of r) ≡ 0 → ⊥)
      → (status_of (outcome_by of r) ≡ 5 → ⊥) → WritesNothing r
  quiet_status (Ok x) zeroth fifth = zeroth (of_disk.status x)
  quiet_status (Err DiskFault) zeroth fifth = fifth refl
  quiet_status _ zeroth fifth = tt

module _ {X : Type 0} (of : X → Outcome) (tells : Tells of) where
  no_usage : (n : ℕ) (r : Result X CommandFault) → BadWords n ≡ outcome_by of r → ⊥
  no_usage n (Ok x) is = tells.words x n is
  no_usage n (Err f) is = cc

  module _ (May : Result X CommandFault → Type 0) where
    undone_of : (f : CommandFault) → IsOutcomeOf of May (Undone f) → May (Err f)
    undone_of f came = by came.0 came.1 came.2
      where
        by : (r : Result X CommandFault) → May r → Undone f ≡ outcome_by of r → May (Err f)
        by (Ok x) may is = absurd (tells.value x f is)
        by (Err g) may is = subst (λ (h : CommandFault). May (Err h)) (same_fault f g is) may

    answers_of : (o : Outcome) → IsAnswer o → IsOutcomeOf of May o → IsAnswerBy of May (status_of o) (text_of o)
    answers_of o is_answer came = by came.0 came.1 came.2
      where
        by : (r : Result X CommandFault) → May r → o ≡ outcome_by of r → IsAnswerBy of May (status_of o) (text_of o)
        by (Ok x) may is = (x, may, sym (ap status_of is), ap text_of is)
        by (Err f) may is = absurd (subst IsAnswer is is_answer)

    done_of : (o : Outcome) → IsOutcomeOf of May o → status_of o ≡ 0 → IsDoneBy of May (text_of o)
    done_of o came zeroth = by came.0 came.1 came.2
      where
        by : (r : Result X CommandFault) → May r → o ≡ outcome_by of r → IsDoneBy of May (text_of o)
        by (Ok x) may is = (x, may, sym (ap status_of is) ∙ zeroth, ap text_of is)
        by (Err f) may is = absurd (fault_not_zero f (sym (ap status_of is) ∙ zeroth))

-- ---- what is known of each command

-- the command asks for the verdict on a file under the anchors that it gives
pub record Judges (told : Option Files) (c : Command) (verdict : Verdict) : Type 0 where
  pub file : List ℕ
  pub anchors : List Thread
  pub asked : proof_file c ≡ Some file
  pub given : GivesAnchors told c anchors
  pub judged : IsFileJudged told file anchors (is_strict c) verdict

-- the command asks for the proofs of files to be joined, and this part of them doesn't fit
pub record LeavesGap (a : Asked) (c : Command) (place : ℕ) : Type 0 where
  pub files : List (List ℕ)
  pub is_command : c ≡ Join files
  pub comes : JoinComes a files (Ok (Unfit place))

module _ {D : Type 0} (view : D → DiskView)
    (only_now : (d : D) (image : Image) → (view d).left_since (view d).moment image → (view d).may_leave image)
    (as_it_reads : (d : D) (image : Image) → (view d).content ≡ Some image → (view d).may_leave image)
    (o : Outside D) where
  abbrev Left : Type 0
  Left = IsLeft view o.disk.before o.disk.after

  pub same_left : IsDiskUntouched view o → Left
  same_left is = untouched_left view o.disk.before o.disk.after only_now is

  same_safe : IsDiskUntouched view o → IsDiskUntouched view o × KeepsServiceDisk view o.disk.before o.disk.after
  same_safe is = (is, left_keeps view o.disk.before o.disk.after (same_left is))

  -- that it is done, or why it isn't, by its outcome; each fault has its cause, a disk that reads as a history serves
  -- it, want of memory is
  -- free, also for its text; a run of which nothing was made and no disk failed wrote nothing; and a verdict is one
  -- that it asks for,
  -- as is a part that doesn't fit
  pub record Row (c : Command) (w : Work) : Type 0 where
    pub usage : (n : ℕ) → w.does (BadWords n) → ⊥
    pub answers : (outcome : Outcome) → IsAnswer outcome → w.does outcome → w.answers (status_of outcome)
        (text_of outcome)
    pub done : (outcome : Outcome) → w.does outcome → status_of outcome ≡ 0 → w.done (text_of outcome)
    pub undone : (f : CommandFault) → w.does (Undone f) → w.undone f
    pub input : w.undone InputFault → NamesFile c × Rose o.inputs.before o.inputs.after
    pub disk : w.undone DiskFault → w.uses_disk × Rose (view o.disk.before).faults (view o.disk.after).faults
    pub serves : (IsOfFollower c → ⊥) → (h : History) → ReadsAsHistory (view o.disk.before).content h → (why : StoreCause)
        → w.undone (Unserved why) → ⊥
    pub memory : (outcome : Outcome) → TakesMemory outcome → w.does outcome → w.does (Undone NoMemory)
    pub untouched : IsDiskUntouched view o → w.does (Undone NoMemory)
    pub idle : (outcome : Outcome) → (status_of outcome ≡ 0 → ⊥) → (status_of outcome ≡ 5 → ⊥) → w.does outcome → Left
    pub safe : (outcome : Outcome) → w.does outcome → w.safe
    pub judging : (v : Verdict) → w.does (Judged v) → Judges o.inputs.told c v
    pub joining : (place : ℕ) → w.does (Joined (Unfit place)) → LeavesGap o.inputs c place

  -- the causes of what a command comes to, that of a follower's disk or another
  record Causes {X : Type 0} (c : Command) (NamesFile UsesDisk : Type 0) (Comes : Result X CommandFault → Type 0) : Type
      0 where
    input : Comes (Err InputFault) → NamesFile × Rose o.inputs.before o.inputs.after
    disk : Comes (Err DiskFault) → UsesDisk × Rose (view o.disk.before).faults (view o.disk.after).faults
    serves : (IsOfFollower c → ⊥) → (h : History) → ReadsAsHistory (view o.disk.before).content h → (why : StoreCause)
        → Comes (Err (Unserved why)) → ⊥
    memory : Comes (Err NoMemory)

  of_service : {X : Type 0} {NamesFile UsesDisk : Type 0} {Comes : Result X CommandFault → Type 0} → (c : Command)
      → HasCauses (IsImageOfHistory sha256) o.inputs (found_around view o) NamesFile UsesDisk Comes
      → Causes c NamesFile UsesDisk Comes
  of_service c causes =
      record { input = causes.input; disk = causes.disk; serves = λ _. causes.serves; memory = causes.memory }

  of_follower : {X : Type 0} {NamesFile UsesDisk : Type 0} {Comes : Result X CommandFault → Type 0} → (c : Command)
      → IsOfFollower c
      → HasCauses IsImageOfHeads o.inputs (found_around view o) NamesFile UsesDisk Comes → Causes c NamesFile UsesDisk Comes
  of_follower c is causes =
      record { input = causes.input; disk = causes.disk; serves = λ other. absurd (other is); memory = causes.memory }

  module _ {X : Type 0} (c : Command) (of : X → Outcome) (tells : Tells of) (Comes Leaves : Result X CommandFault
      → Type 0) (Safe : Type 0) (access : Option StoreAccess)
      (causes : Causes c (NamesFile c) (UsesDisk access) Comes) where
    abbrev May : Result X CommandFault → Type 0
    May r = Comes r × Leaves r

    row : ((r : Result X CommandFault) → TakesMemory (outcome_by of r) → Leaves r → Leaves (Err NoMemory))
        → (IsDiskUntouched view o → Leaves (Err NoMemory))
        → ((r : Result X CommandFault) → (status_of (outcome_by of r) ≡ 0 → ⊥) → (status_of (outcome_by of r) ≡ 5 → ⊥)
        → Leaves r → Left)
        → ((r : Result X CommandFault) → Leaves r → Safe)
        → ((x : X) (v : Verdict) → Judged v ≡ of x → Comes (Ok x) → Judges o.inputs.told c v)
        → ((x : X) (place : ℕ) → Joined (Unfit place) ≡ of x → Comes (Ok x) → LeavesGap o.inputs c place)
        → Row c (by_results of (λ r. Comes r × Leaves r) Safe access)
    row memory untouched idle safe judging joining = record {
      usage = λ n came. no_usage of tells n came.0 came.2;
      answers = λ outcome is came. answers_of of tells May outcome is came;
      done = λ outcome came zeroth. done_of of tells May outcome came zeroth;
      undone = λ f came. undone_of of tells May f came;
      input = λ may. causes.input may.0;
      disk = λ may. causes.disk may.0;
      serves = λ other h reads why may. causes.serves other h reads why may.0;
      memory = λ outcome takes came. no_memory (memory came.0 (subst TakesMemory came.2 takes) came.1.1);
      untouched = λ is. no_memory (untouched is);
      idle = λ outcome zeroth fifth came. idle came.0 (λ is. zeroth (ap status_of came.2 ∙ is))
          (λ is. fifth (ap status_of came.2 ∙ is)) came.1.1;
      safe = λ outcome came. safe came.0 came.1.1;
      judging = λ v came. judged_by v came.0 came.1 came.2;
      joining = λ place came. joined_by place came.0 came.1 came.2;
    }
      where
        no_memory : Leaves (Err NoMemory) → IsOutcomeOf of May (Undone NoMemory)
        no_memory left = (Err NoMemory, (causes.memory, left), refl)

        judged_by : (v : Verdict) (r : Result X CommandFault) → May r → Judged v ≡ outcome_by of r
            → Judges o.inputs.told c v
        judged_by v (Ok x) may is = judging x v is may.0
        judged_by v (Err f) may is = absurd (not_judged v f is)

        joined_by : (place : ℕ) (r : Result X CommandFault) → May r → Joined (Unfit place) ≡ outcome_by of r
            → LeavesGap o.inputs c place
        joined_by place (Ok x) may is = joining x place is may.0
        joined_by place (Err f) may is = absurd (not_joined (Unfit place) f is)

    disk_row : TellsOfDisk of → IsSafe view o.disk.before o.disk.after Leaves Safe
        → Row c (by_results of (λ r. Comes r × Leaves r) Safe access)
    disk_row of_disk is_safe =
        row (λ r takes left. is_safe.no_memory (is_safe.idle r left (quiet_text of of_disk r takes)))
        (λ is. is_safe.no_memory (same_left is))
        (λ r zeroth fifth left. is_safe.idle r left (quiet_status of of_disk r zeroth fifth)) is_safe.safe
        (λ x v is comes. absurd (of_disk.unjudged x v is))
        (λ x place is comes. absurd (of_disk.unjoined x (Unfit place) is))

  files_row : {X : Type 0} (c : Command) (of : X → Outcome) → Tells of → (Comes : Result X CommandFault → Type 0)
      → HasCauses (IsImageOfHistory sha256) o.inputs (found_around view o) (NamesFile c) ⊥ Comes
      → ((x : X) (v : Verdict) → Judged v ≡ of x → Comes (Ok x) → Judges o.inputs.told c v)
      → ((x : X) (place : ℕ) → Joined (Unfit place) ≡ of x → Comes (Ok x) → LeavesGap o.inputs c place)
      → Row c (over_files view o of Comes)
  files_row c of tells Comes causes judging joining =
      row c of tells Comes (λ r. IsDiskUntouched view o) (IsDiskUntouched view o × KeepsServiceDisk view o.disk.before
      o.disk.after) None (of_service c causes)
      (λ r takes same. same) (λ is. is) (λ r zeroth fifth same. same_left same) (λ r same. same_safe same) judging
      joining

  -- one that makes a service or a step, and one that asks a service a question
  made_row : {Comes Leaves : Result Thread CommandFault → Type 0} {Safe : Type 0} → (c : Command)
      → HasCauses (IsImageOfHistory sha256) o.inputs (found_around view o) (NamesFile c) (Unit {0}) Comes
      → IsSafe view o.disk.before o.disk.after Leaves Safe → Row c (writing_disk view o Made Comes Leaves Safe)
  made_row {Comes} {Leaves} {Safe} c causes is_safe = disk_row c Made made_tells Comes Leaves Safe (Some Write)
      (of_service c causes) made_of_disk is_safe

  received_row : (file : List ℕ) (time : Option ℕ) → Row (Receive file time) (work view o (Receive file time))
  received_row file time =
      disk_row (Receive file time) Received received_tells (ReceiveComes o.inputs (found_around view o) file time)
      (ReceiveLeaves view o.disk.before o.disk.after o.inputs.told file time)
      (ReceiveSafe view o.disk.before o.disk.after o.inputs.told file time) (Some Write)
      (of_service (Receive file time) (receive_causes o.inputs (found_around view o) file time)) received_of_disk
      (receive_is_safe view o.disk.before o.disk.after only_now as_it_reads o.inputs.told file time)

  asked_row : (c : Command) (asked : Option Question) → IsSome asked → Row c (asking view o asked)
  asked_row c None some = absurd (let none : false ≡ true = some in cc)
  asked_row c (Some q) some =
      let causes = ask_causes o.inputs (found_around view o) q in
      disk_row c Written written_tells (AskComes (found_around view o) q) (ReadLeavesHistory view o.disk.before
      o.disk.after) (Left × KeepsServiceDisk view o.disk.before o.disk.after) (Some Read)
      (record {
        input = λ came. absurd (causes.input came).0;
        disk = causes.disk;
        serves = λ other. causes.serves;
        memory = causes.memory;
      })
      written_of_disk (asking_is_safe view o.disk.before o.disk.after)

  -- one that writes bytes
  written_row : (c : Command) (Comes : Result (List ℕ) CommandFault → Type 0)
      → HasCauses (IsImageOfHistory sha256) o.inputs (found_around view o) (NamesFile c) ⊥ Comes
      → Row c (over_files view o Written Comes)
  written_row c Comes causes =
      files_row c Written written_tells Comes causes (λ x v is comes. absurd (written_of_disk.unjudged x v is))
      (λ x place is comes. absurd (written_of_disk.unjoined x (Unfit place) is))

  show_row : (history : List ℕ) (step index : ℕ) → Row (Show history step index) (work view o (Show history step index))
  show_row history step index =
      written_row (Show history step index) (ShowComes o.inputs history step index)
      (record {
        input = λ rose. (tt, rose);
        disk = λ came. absurd came;
        serves = λ h reads why came. came;
        memory = tt;
      })

  replay_row : (file : List ℕ) → Row (Replay file) (work view o (Replay file))
  replay_row file =
      written_row (Replay file) (ReplayComes o.inputs file)
      (record {
        input = λ rose. (tt, rose);
        disk = λ came. absurd came;
        serves = λ h reads why came. came;
        memory = tt;
      })

  generate_row : (number rounds : ℕ) → Row (Generate number rounds) (work view o (Generate number rounds))
  generate_row number rounds =
      written_row (Generate number rounds) (GenerateComes number rounds)
      (record {
        input = λ came. absurd came;
        disk = λ came. absurd came;
        serves = λ h reads why came. came;
        memory = tt;
      })

  join_row : (files : List (List ℕ)) → Row (Join files) (work view o (Join files))
  join_row files =
      files_row (Join files) Joined joined_tells (JoinComes o.inputs files)
      (record {
        input = λ failed. (some_file files failed.0, failed.1);
        disk = λ came. absurd came;
        serves = λ h reads why came. came;
        memory = tt;
      })
      (λ x v is comes. cc) joining
    where
      joining : (x : JoinedProofs) (place : ℕ) → Joined (Unfit place) ≡ Joined x → JoinComes o.inputs files (Ok x)
          → LeavesGap o.inputs (Join files) place
      joining x place is comes =
          let same : x ≡ Unfit place = cc in
          record {
            files = files;
            is_command = refl;
            comes = subst (λ (j : JoinedProofs). JoinComes o.inputs files (Ok j)) same comes;
          }

  -- one that judges a proof under the anchors of a file
  anchors_row : (c : Command) (proof anchors : List ℕ) → NamesFile c → proof_file c ≡ Some proof
      → ((held : List Thread) → HasAnchors o.inputs.told anchors held → GivesAnchors o.inputs.told c held)
      → Row c (over_files view o Judged (VerifyFileComes o.inputs proof anchors (is_strict c)))
  anchors_row c proof anchors names asked given =
      files_row c Judged judged_tells (VerifyFileComes o.inputs proof anchors (is_strict c))
      (record {
        input = λ rose. (names, rose);
        disk = λ came. absurd came;
        serves = λ h reads why came. came;
        memory = tt;
      }) judging (λ x place is comes. cc)
    where
      judging : (w v : Verdict) → Judged v ≡ Judged w → VerifyFileComes o.inputs proof anchors (is_strict c) (Ok w)
          → Judges o.inputs.told c v
      judging w v is comes =
          let same : w ≡ v = cc in
          record {
            file = proof;
            anchors = comes.0;
            asked = asked;
            given = given comes.0 comes.1;
            judged = subst (IsFileJudged o.inputs.told proof comes.0 (is_strict c)) same comes.2;
          }

  verify_one_row : (proof : List ℕ) (anchor : Thread) → Row (VerifyOne proof anchor)
      (work view o (VerifyOne proof anchor))
  verify_one_row proof anchor =
      files_row (VerifyOne proof anchor) Judged judged_tells (VerifyOneComes o.inputs proof anchor)
      (record {
        input = λ rose. (tt, rose);
        disk = λ came. absurd came;
        serves = λ h reads why came. came;
        memory = tt;
      })
      judging (λ x place is comes. cc)
    where
      judging : (w v : Verdict) → Judged v ≡ Judged w → VerifyOneComes o.inputs proof anchor (Ok w)
          → Judges o.inputs.told (VerifyOne proof anchor) v
      judging w v is comes =
          let same : w ≡ v = cc in
          record {
            file = proof;
            anchors = anchor ∷ [];
            asked = refl;
            given = refl;
            judged = subst (IsFileJudged o.inputs.told proof (anchor ∷ []) false) same comes;
          }

  -- one over files that reach beyond one proof
  answer_row : {X : Type 0} (c : Command) (of : X → Answer) → (Comes : Result X CommandFault → Type 0)
      → HasCauses (IsImageOfHistory sha256) o.inputs (found_around view o) (NamesFile c) ⊥ Comes
      → Row c (over_files view o (λ x. Answered (of x)) Comes)
  answer_row c of Comes causes =
      files_row c (λ x. Answered (of x)) (answered_tells of) Comes causes (λ x v is comes. cc) (λ x place is comes. cc)

  names_parts : (first second : List ℕ) (link : Option (List ℕ)) → NamesFile (Accuse first second link)
  names_parts first second None = tt
  names_parts first second (Some file) = tt

  accuse_row : (first second : List ℕ) (link : Option (List ℕ)) → Row (Accuse first second link)
      (work view o (Accuse first second link))
  accuse_row first second link =
      answer_row (Accuse first second link) answers.Accused (AccuseComes o.inputs first second link)
      (record {
        input = λ rose. (names_parts first second link, rose);
        disk = λ came. absurd came;
        serves = λ h reads why came. came;
        memory = tt;
      })

  atlas_row : (name : List ℕ) (pos : ℕ) (files : List (List ℕ)) → Row (Atlas name pos files)
      (work view o (Atlas name pos files))
  atlas_row name pos files =
      answer_row (Atlas name pos files) answers.Planned (AtlasComes o.inputs (record { from = name; step = pos }) files)
      (record {
        input = λ failed. (some_file files failed.0, failed.1);
        disk = λ came. absurd came;
        serves = λ h reads why came. came;
        memory = tt;
      })

  audit_row : (proof anchors : List ℕ) (histories : List (List ℕ)) → Row (Audit proof anchors histories)
      (work view o (Audit proof anchors histories))
  audit_row proof anchors histories =
      answer_row (Audit proof anchors histories) answers.Audited (AuditComes o.inputs proof anchors histories)
      (record {
        input = λ rose. (tt, rose);
        disk = λ came. absurd came.2;
        serves = λ h reads why came. came.2;
        memory = tt;
      })

  adopt_row : (history anchors proof : List ℕ) (more : List (List ℕ)) → Row (Adopt history anchors proof more)
      (work view o (Adopt history anchors proof more))
  adopt_row history anchors proof more =
      answer_row (Adopt history anchors proof more) answers.Taken (AdoptComes o.inputs history anchors (proof ∷ more))
      (record {
        input = λ rose. (tt, rose);
        disk = λ came. absurd came;
        serves = λ h reads why came. came;
        memory = tt;
      })

  check_fork_row : (file anchors : List ℕ) → Row (CheckFork file anchors) (work view o (CheckFork file anchors))
  check_fork_row file anchors =
      answer_row (CheckFork file anchors) answers.Fork (CheckForkComes o.inputs file anchors)
      (record {
        input = λ rose. (tt, rose);
        disk = λ came. absurd came;
        serves = λ h reads why came. came;
        memory = tt;
      })

  check_map_row : (low high anchors : List ℕ) → Row (CheckMap low high anchors)
      (work view o (CheckMap low high anchors))
  check_map_row low high anchors =
      answer_row (CheckMap low high anchors) answers.Mapped (CheckMapComes o.inputs low high anchors)
      (record {
        input = λ rose. (tt, rose);
        disk = λ came. absurd came;
        serves = λ h reads why came. came;
        memory = tt;
      })

  -- each command, by what is known of its results
  pub rows : (c : Command) → Row c (work view o c)
  rows (Init name) =
      made_row (Init name) (init_causes o.inputs (found_around view o) name)
      (init_is_safe view o.disk.before o.disk.after only_now as_it_reads name)
  rows (Append file time) =
      made_row (Append file time) (append_causes o.inputs (found_around view o) file time)
      (append_is_safe view o.disk.before o.disk.after only_now as_it_reads o.inputs.told file time)
  rows (Receive file time) = received_row file time
  rows (Show history step index) = show_row history step index
  rows (Replay file) = replay_row file
  rows (Generate number rounds) = generate_row number rounds
  rows (Join files) = join_row files
  rows (VerifyFile proof anchors) =
      anchors_row (VerifyFile proof anchors) proof anchors tt refl (λ held has. has)
  rows (Strict proof anchors) =
      anchors_row (Strict proof anchors) proof anchors tt refl (λ held has. has)
  rows (VerifyOne proof anchor) = verify_one_row proof anchor
  rows (CheckMap low high anchors) = check_map_row low high anchors
  rows (Atlas name pos files) = atlas_row name pos files
  rows (Audit proof anchors histories) = audit_row proof anchors histories
  rows (Adopt history anchors proof more) = adopt_row history anchors proof more
  rows (Accuse first second link) = accuse_row first second link
  rows (CheckFork file anchors) = check_fork_row file anchors
  rows (Watch name) =
      disk_row (Watch name) Made made_tells (WatchComes (found_around view o) name)
      (WatchLeaves view o.disk.before o.disk.after name) (WatchSafe view o.disk.before o.disk.after name) (Some Write)
      (of_follower (Watch name) tt (watch_causes o.inputs (found_around view o) name))
      made_of_disk (watch_is_safe view o.disk.before o.disk.after only_now as_it_reads name)
  rows (Offer file) =
      disk_row (Offer file) Made made_tells (OfferComes o.inputs (found_around view o) file)
      (OfferLeaves view o.disk.before o.disk.after o.inputs.told file) (OfferSafe view o.disk.before o.disk.after
      o.inputs.told file) (Some Write)
      (of_follower (Offer file) tt (offer_causes o.inputs (found_around view o) file))
      made_of_disk (offer_is_safe view o.disk.before o.disk.after only_now as_it_reads o.inputs.told file)
  rows Heads =
      disk_row Heads Written written_tells (HeadsComes (found_around view o))
      (HeadsLeaves view o.disk.before o.disk.after) (HeadsSafe view o.disk.before o.disk.after) (Some Read)
      (of_follower Heads tt (heads_causes o.inputs (found_around view o)))
      written_of_disk (heads_is_safe view o.disk.before o.disk.after)
  rows c = asked_row c (question_of c) refl

  -- a disk that reads as a list of heads serves each command of a follower
  pub serves_list : (c : Command) → IsOfFollower c → (k : Kept) → ReadsAsHeads (view o.disk.before).content k
      → (why : StoreCause) → (work view o c).undone (Unserved why) → ⊥
  serves_list (Watch name) of k reads why came =
      (watch_causes o.inputs (found_around view o) name).serves k reads why came.0
  serves_list (Offer file) of k reads why came =
      (offer_causes o.inputs (found_around view o) file).serves k reads why came.0
  serves_list Heads of k reads why came =
      (heads_causes o.inputs (found_around view o)).serves k reads why came.0
  serves_list _ of k reads why came = absurd of

-- a command that judges comes to a verdict or isn't done
of_result : (o : Outcome) (r : Result Verdict CommandFault) → o ≡ outcome_by Judged r → ((v : Verdict) × (o ≡ Judged v))
    ⊎ ((f : CommandFault) × (o ≡ Undone f))
of_result o (Ok v) is = inl (v, is)
of_result o (Err f) is = inr (f, is)

pub verdict_or_fault : {D : Type 0} (view : D → DiskView) (o : Outside D) (c : Command) (outcome : Outcome) → IsVerify c
    → (work view o c).does outcome
    → ((v : Verdict) × (outcome ≡ Judged v)) ⊎ ((f : CommandFault) × (outcome ≡ Undone f))
verdict_or_fault view o (VerifyFile proof anchors) outcome is came = of_result outcome came.0 came.2
verdict_or_fault view o (VerifyOne proof anchor) outcome is came = of_result outcome came.0 came.2
verdict_or_fault view o (Strict proof anchors) outcome is came = of_result outcome came.0 came.2
verdict_or_fault view o _ outcome is came = absurd is
