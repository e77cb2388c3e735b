-- What each command does, what a run of the program comes to, and how it ends.
use Rattle.std.specs.Prelude.{◌≡◌, ◌⊎◌, ℕ, List, ◌∷◌, true, false, Option, Some, None, Result, Ok, Err, MatchOption}
use Rattle.tw_base.specs.declared.history.question.Question.{Question}
use Rattle.tw_base.specs.kinds.Faults.{Rose}
use Rattle.tw_disk.specs.Disk.{DiskView}
use Rattle.tw_outside.specs.TakenBytes.{Appends, AppendsPart}
use Rattle.tw_words.specs.CommandLine.{IsFirstBadWord, command_of}
use Rattle.tw_words.specs.declared.command.Command.{Command}
use Rattle.tw_text.specs.declared.fault.CommandFault.{CommandFault}
use Rattle.tw_text.specs.declared.fault.CommandFault.TheVariants.{NoMemory}
use Rattle.tw_words.specs.declared.command.Command.TheVariants.{Init, Append, Receive, Show, Join, VerifyFile, VerifyOne, Strict, CheckMap, Audit, Adopt, Atlas, Accuse, CheckFork, Watch, Offer, Heads, Replay, Generate}
use Rattle.tw_filecmd.specs.Joining.{JoinComes}
use Rattle.tw_filecmd.specs.Showing.{ShowComes}
use Rattle.tw_filecmd.specs.Verifying.{VerifyFileComes, VerifyOneComes}
use Rattle.tw_diskcmd.specs.Appending.{AppendComes, AppendLeaves, AppendSafe}
use Rattle.tw_diskcmd.specs.Asking.{AskComes}
use Rattle.tw_diskcmd.specs.Disks.{IsLeft, KeepsServiceDisk, ReadLeavesHistory}
use Rattle.tw_diskcmd.specs.Init.{InitComes, InitLeaves, InitSafe}
use Rattle.tw_diskcmd.specs.Receiving.{ReceiveComes, ReceiveLeaves, ReceiveSafe}
use Rattle.tw_diskcmd.specs.Heads.{HeadsComes, HeadsLeaves, HeadsSafe}
use Rattle.tw_diskcmd.specs.Offering.{OfferComes, OfferLeaves, OfferSafe}
use Rattle.tw_diskcmd.specs.Watching.{WatchComes, WatchLeaves, WatchSafe}
use Rattle.tw_reachcmd.specs.Accusing.{AccuseComes}
use Rattle.tw_reachcmd.specs.Adopting.{AdoptComes}
use Rattle.tw_reachcmd.specs.Auditing.{AuditComes}
use Rattle.tw_reachcmd.specs.CheckFork.{CheckForkComes}
use Rattle.tw_reachcmd.specs.CheckMap.{CheckMapComes}
use Rattle.tw_reachcmd.specs.Atlas.{AtlasComes}
use Rattle.tw_app.specs.declared.outcome.Outcome.{Outcome}
use Rattle.tw_app.specs.declared.outcome.Outcome.TheVariants.{Judged, Written, Joined, Made, Received, BadWords, Undone}
use Rattle.tw_app.specs.declared.store.StoreAccess.{StoreAccess}
use Rattle.tw_app.specs.declared.store.StoreAccess.TheVariants.{Read, Write}
use Rattle.tw_app.specs.Around.{Around, Outside, Span, found_around}
use Rattle.tw_app.specs.Commands.{question_of}
use Rattle.tw_app.specs.Generating.{GenerateComes}
use Rattle.tw_app.specs.Replaying.{ReplayComes}
use Rattle.tw_app.specs.Outcomes.{of_accused, of_audited, of_fork, of_mapped, of_planned, of_taken, outcome_by, status_of, text_of}

-- ---- what a command does

-- what is said of a command
pub record Work : Type 1 where
  -- it may come to this outcome, and leaves the disk as is right for it
  pub does : Outcome → Type 0
  -- it comes to an answer that has this status and text
  pub answers : (status : ℕ) (text : List ℕ) → Type 0
  -- it is done, and this is its text
  pub done : (text : List ℕ) → Type 0
  -- it isn't done for this fault, and leaves the disk as is right for it
  pub undone : CommandFault → Type 0
  -- whatever it comes to, this holds of the disk
  pub safe : Type 0
  -- what it does with the store of a folder, where it works on one
  pub access : Option StoreAccess
  -- it works on the disk of a folder
  pub uses_disk : Type 0

-- the outcome is that of a result for which May holds
abbrev pub IsOutcomeOf : {X : Type 0} → (of : X → Outcome) → (May : Result X CommandFault → Type 0) → Outcome → Type 0
IsOutcomeOf {X} of May outcome = (result : Result X CommandFault) × May result × (outcome ≡ outcome_by of result)

-- May holds of a value whose outcome has this status and text
abbrev pub IsAnswerBy : {X : Type 0} → (of : X → Outcome) → (May : Result X CommandFault → Type 0) → (status : ℕ) (text : List ℕ) → Type 0
IsAnswerBy {X} of May status text = (value : X) × May (Ok value) × (status_of (of value) ≡ status) × (text ≡ text_of (of value))

-- the status is 0
abbrev pub IsDoneBy : {X : Type 0} → (of : X → Outcome) → (May : Result X CommandFault → Type 0) → (text : List ℕ) → Type 0
IsDoneBy of May text = IsAnswerBy of May 0 text

-- one that reads or writes the store of a folder works on a disk
abbrev pub UsesDisk : Option StoreAccess → Type 0
UsesDisk None = ⊥
UsesDisk (Some access) = Unit {0}

-- a command with results of its own, of which May holds
abbrev pub by_results : {X : Type 0} → (of : X → Outcome) → (May : Result X CommandFault → Type 0) → (Safe : Type 0) → Option StoreAccess → Work
by_results of May Safe access = record {
  does = IsOutcomeOf of May;
  answers = IsAnswerBy of May;
  done = IsDoneBy of May;
  undone = λ fault. May (Err fault);
  safe = Safe;
  access = access;
  uses_disk = UsesDisk access;
}

module _ {D : Type 0} (view : D → DiskView) (o : Outside D) where
  -- no device call was made, and so the disk keeps what it keeps
  abbrev pub IsDiskUntouched : Type 0
  IsDiskUntouched = o.disk.after ≡ o.disk.before

  -- a command without a folder
  abbrev pub over_files : {X : Type 0} → (of : X → Outcome) → (Comes : Result X CommandFault → Type 0) → Work
  over_files of Comes = by_results of (λ result. Comes result × IsDiskUntouched) (IsDiskUntouched × KeepsServiceDisk view o.disk.before o.disk.after) None

  -- a command that reads the disk of a folder, and writes nothing
  abbrev pub reading_disk : {X : Type 0} → (of : X → Outcome) → (Comes : Result X CommandFault → Type 0) → Work
  reading_disk of Comes =
      by_results of (λ result. Comes result × ReadLeavesHistory view o.disk.before o.disk.after result)
      (IsLeft view o.disk.before o.disk.after × KeepsServiceDisk view o.disk.before o.disk.after) (Some Read)

  -- one that asks the service of that disk this
  abbrev pub asking : Option Question → Work
  asking asked = reading_disk Written (λ result. MatchOption asked ⊥ (λ q. AskComes (found_around view o) q result))

  -- one that writes it
  abbrev pub writing_disk : {X : Type 0} → (of : X → Outcome) → (Comes Leaves : Result X CommandFault → Type 0) → (Safe : Type 0) → Work
  writing_disk of Comes Leaves Safe = by_results of (λ result. Comes result × Leaves result) Safe (Some Write)

  -- what each command does; those that aren't listed ask a service a question
  abbrev pub work : Command → Work
  work (Init name) =
      writing_disk Made (InitComes (found_around view o) name) (InitLeaves view o.disk.before o.disk.after name) (InitSafe view o.disk.before o.disk.after name)
  work (Append file time) =
      writing_disk Made (AppendComes o.inputs (found_around view o) file time) (AppendLeaves view o.disk.before o.disk.after o.inputs.told file time)
      (AppendSafe view o.disk.before o.disk.after o.inputs.told file time)
  work (Receive file time) =
      writing_disk Received (ReceiveComes o.inputs (found_around view o) file time) (ReceiveLeaves view o.disk.before o.disk.after o.inputs.told file time)
      (ReceiveSafe view o.disk.before o.disk.after o.inputs.told file time)
  work (Show history step index) = over_files Written (ShowComes o.inputs history step index)
  work (Join files) = over_files Joined (JoinComes o.inputs files)
  work (VerifyFile proof anchors) = over_files Judged (VerifyFileComes o.inputs proof anchors false)
  work (VerifyOne proof anchor) = over_files Judged (VerifyOneComes o.inputs proof anchor)
  work (Strict proof anchors) = over_files Judged (VerifyFileComes o.inputs proof anchors true)
  work (CheckMap low high anchors) = over_files of_mapped (CheckMapComes o.inputs low high anchors)
  work (Atlas name pos files) = over_files of_planned (AtlasComes o.inputs (record { from = name; step = pos }) files)
  work (Audit proof anchors histories) = over_files of_audited (AuditComes o.inputs proof anchors histories)
  work (Adopt history anchors proof more) = over_files of_taken (AdoptComes o.inputs history anchors (proof ∷ more))
  work (Accuse first second link) = over_files of_accused (AccuseComes o.inputs first second link)
  work (CheckFork file anchors) = over_files of_fork (CheckForkComes o.inputs file anchors)
  work (Replay file) = over_files Written (ReplayComes o.inputs file)
  work (Generate number rounds) = over_files Written (GenerateComes number rounds)
  work (Watch name) =
      writing_disk Made (WatchComes (found_around view o) name) (WatchLeaves view o.disk.before o.disk.after name) (WatchSafe view o.disk.before o.disk.after name)
  work (Offer file) =
      writing_disk Made (OfferComes o.inputs (found_around view o) file)
      (OfferLeaves view o.disk.before o.disk.after o.inputs.told file) (OfferSafe view o.disk.before o.disk.after o.inputs.told file)
  work Heads =
      by_results Written (λ result. HeadsComes (found_around view o) result × HeadsLeaves view o.disk.before o.disk.after result)
      (HeadsSafe view o.disk.before o.disk.after) (Some Read)
  work command = asking (question_of command)

-- ---- what words come to

-- what words come to that have no form: the number is that of the first word at which none goes on
abbrev pub HaveNoForm : (words : List (List ℕ)) → Outcome → Type 0
HaveNoForm words (BadWords number) = IsFirstBadWord words number
HaveNoForm words (Undone NoMemory) = Unit {0}
HaveNoForm words _ = ⊥

-- what the words come to, and what that leaves of the disk
abbrev pub HasOutcome : {D : Type 0} → (view : D → DiskView) → Outside D → (words : List (List ℕ)) → Outcome → Type 0
HasOutcome view o words outcome =
    MatchOption (command_of words) (HaveNoForm words outcome × IsDiskUntouched view o) (λ command. (work view o command).does outcome)

-- ---- how the run ends

-- the outcome's text was written whole and its status answered, or the sink failed with a part of the text written, and
-- the status is 4
abbrev pub EndsWith : (taken : Span (Option (List ℕ))) (sink_faults : Span ℕ) → (status : ℕ) → Outcome → Type 0
EndsWith taken sink_faults status outcome =
    ((status ≡ status_of outcome) × Appends taken.before taken.after (text_of outcome))
    ⊎ ((status ≡ 4) × AppendsPart taken.before taken.after (text_of outcome) × Rose sink_faults.before sink_faults.after)

module _ {D : Type 0} (view : D → DiskView) (around : Around D) (status : ℕ) where
  -- the run comes to this outcome, which is allowed, leaves the disk as is right for it, whether its text could be written or not, and ends
  -- with this status
  pub record EndsAsOutcome (outcome : Outcome) : Type 0 where
    pub has : HasOutcome view around.outside around.words outcome
    pub ends : EndsWith around.taken around.sink_faults status outcome

  abbrev pub EndsAllowed : Type 0
  EndsAllowed = (outcome : Outcome) × EndsAsOutcome outcome

-- a command over files alone was kept from its answer: the inputs or the sink failed, or there was no memory
abbrev pub IsHindered : {D : Type 0} → Around D → (status : ℕ) → Type 0
IsHindered around status =
    ((status ≡ 3) × Rose around.outside.inputs.before around.outside.inputs.after)
    ⊎ ((status ≡ 4) × Rose around.sink_faults.before around.sink_faults.after)
    ⊎ (status ≡ 6)
