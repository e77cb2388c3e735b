-- Runs of the program on one disk that stands for a list of heads, one after the other; and the heads that they tell.
use Rattle.std.specs.Prelude.{◌≡◌, ◌⊎◌, ℕ, List, [], ◌∷◌, ◌++◌, Option}
use Rattle.sha2.specs.Sha256.{sha256}
use Rattle.tw_base.specs.declared.history.thread.Thread.{Thread}
use Rattle.tw_base.specs.kinds.Lists.{Each}
use Rattle.tw_disk.specs.Disk.{DiskView}
use Rattle.tw_disk.specs.Image.{Image}
use Rattle.tw_msg.specs.declared.message.Message.{Message}
use Rattle.tw_outside.specs.Files.{Files}
use Rattle.tw_pages.specs.Runs.{HoldsOnly}
use Rattle.tw_words.specs.declared.command.Command.{Command}
use Rattle.tw_follow.specs.HeadLists.{Kept}
use Rattle.tw_follow.specs.Runs.{Move, RunsByMoves}
use Rattle.tw_follow.specs.Stands.{StandsFor}
use Rattle.tw_diskcmd.specs.Files.{IsMessageIn}
use Rattle.tw_diskcmd.specs.Heads.{head_lines}
use Rattle.tw_words.specs.declared.command.Command.TheVariants.{Heads, Offer}
use Rattle.tw_app.specs.declared.outcome.Outcome.{Outcome}
use Rattle.tw_app.specs.declared.outcome.Outcome.TheVariants.{Made, Written}
use Rattle.tw_app.specs.Around.{Outside}
use Rattle.tw_app.specs.Statuses.{AreWordsOf}
use Rattle.tw_laws.specs.Turns.{IsWorkOn}

-- What comes to a disk, as in `Turns`, but for services, which a list of heads doesn't serve.
pub data Run (D : Type 0) : Type 0 where
  -- the work is done, and some of the outcome's text may be out, be it all of it: the words, what is around the work, and what it came to
  Ran : (words : List (List ℕ)) → Outside D → Outcome → Run D
  -- the program is stopped in its work, or its machine is
  Stopped : (words : List (List ℕ)) → Outside D → Outcome → Run D

-- a run, and the disk that is there behind it
pub record RunBehind (D : Type 0) : Type 0 where
  pub run : Run D
  pub left : D

module _ {D : Type 0} (view : D → DiskView) where
  -- The run leads from one disk to the next: to the one that it hands back, or, where it or its machine stopped later, to one that holds images
  -- of that moment alone; where it stopped in its work, images of some moments since its start.
  abbrev pub LeadsByRun : Run D → (disk left : D) → Type 0
  LeadsByRun (Ran words o outcome) disk left =
      IsWorkOn view disk words o outcome × ((left ≡ o.disk.after) ⊎ HoldsOnly view (view o.disk.after).may_leave left)
  LeadsByRun (Stopped words o outcome) disk left =
      IsWorkOn view disk words o outcome × HoldsOnly view ((view o.disk.after).left_since (view disk).moment) left

  abbrev pub AreRunsFrom : D → List (RunBehind D) → Type 0
  AreRunsFrom disk [] = Unit {0}
  AreRunsFrom disk (x ∷ runs) = LeadsByRun x.run disk x.left × AreRunsFrom x.left runs

-- the head is told: it is that of the line which `offer` writes
abbrev pub IsToldByCommand : Command → Outcome → Thread → Type 0
IsToldByCommand (Offer file) (Made thread) t = t ≡ thread
IsToldByCommand command outcome t = ⊥

abbrev pub IsToldIn : {D : Type 0} → Run D → Thread → Type 0
IsToldIn (Ran words o outcome) t = AreWordsOf (λ command. IsToldByCommand command outcome t) words
IsToldIn (Stopped words o outcome) t = ⊥

-- in one of the runs
abbrev pub IsToldInRuns : {D : Type 0} → List (RunBehind D) → Thread → Type 0
IsToldInRuns [] t = ⊥
IsToldInRuns (x ∷ runs) t = IsToldIn x.run t ⊎ IsToldInRuns runs t

-- the message is offered: it is that of the file which `offer` reads
abbrev pub IsOfferedByCommand : Option Files → Command → Message → Type 0
IsOfferedByCommand told (Offer file) m = IsMessageIn told file m
IsOfferedByCommand told command m = ⊥

-- by a run, be it done or stopped
abbrev pub IsOfferedIn : {D : Type 0} → Run D → Message → Type 0
IsOfferedIn (Ran words o outcome) m = AreWordsOf (λ command. IsOfferedByCommand o.inputs.told command m) words
IsOfferedIn (Stopped words o outcome) m = AreWordsOf (λ command. IsOfferedByCommand o.inputs.told command m) words

-- by one of the runs
abbrev pub IsOfferedInRuns : {D : Type 0} → List (RunBehind D) → Message → Type 0
IsOfferedInRuns [] m = ⊥
IsOfferedInRuns (x ∷ runs) m = IsOfferedIn x.run m ⊎ IsOfferedInRuns runs m

-- there are moves by which the one list comes to the other, and each message by which it grows is such a one
abbrev pub GoesOnByOffered : (Offered : Message → Type 0) → (kept next : Kept) → Type 0
GoesOnByOffered Offered kept next = (moves : List Move) × (moved : List Message) × RunsByMoves sha256 kept moves moved next × Each Offered moved

-- the image stands for a list to which this one came by messages that were offered
abbrev pub KeepsOffered : {D : Type 0} → (first : Kept) → List (RunBehind D) → Image → Type 0
KeepsOffered first runs image = (last : Kept) × StandsFor sha256 image last × GoesOnByOffered (IsOfferedInRuns runs) first last

-- the run's text is this list of lines: `heads` writes it
abbrev pub IsListText : Outcome → (lines : List ℕ) → Type 0
IsListText (Written bytes) lines = lines ≡ bytes
IsListText outcome lines = ⊥

abbrev pub IsListedByCommand : Command → Outcome → (lines : List ℕ) → Type 0
IsListedByCommand Heads outcome lines = IsListText outcome lines
IsListedByCommand command outcome lines = ⊥

abbrev pub IsListedIn : {D : Type 0} → Run D → (lines : List ℕ) → Type 0
IsListedIn (Ran words o outcome) lines = AreWordsOf (λ command. IsListedByCommand command outcome lines) words
IsListedIn (Stopped words o outcome) lines = ⊥

-- in one of the runs
abbrev pub IsListedInRuns : {D : Type 0} → List (RunBehind D) → (lines : List ℕ) → Type 0
IsListedInRuns [] lines = ⊥
IsListedInRuns (x ∷ runs) lines = IsListedIn x.run lines ⊎ IsListedInRuns runs lines

-- the lines go on from these, by none more or by some behind them
abbrev pub GoesOnFromLines : (lines later : List ℕ) → Type 0
GoesOnFromLines lines later = (more : List Thread) × (later ≡ lines ++ head_lines more)

-- each list that is written goes on from each one that was written before
abbrev pub NeverFalls : {D : Type 0} → List (RunBehind D) → Type 0
NeverFalls [] = Unit {0}
NeverFalls (x ∷ runs) = ((lines later : List ℕ) → IsListedIn x.run lines → IsListedInRuns runs later → GoesOnFromLines lines later) × NeverFalls runs

-- the image stands for a list whose lines go on from each list that is written
abbrev pub KeepsLists : {D : Type 0} → List (RunBehind D) → Image → Type 0
KeepsLists runs image = (last : Kept) × StandsFor sha256 image last × ((lines : List ℕ) → IsListedInRuns runs lines → GoesOnFromLines lines (head_lines last.heads))

-- the disk behind all of them
abbrev pub disk_behind_runs : {D : Type 0} → D → List (RunBehind D) → D
disk_behind_runs disk [] = disk
disk_behind_runs disk (x ∷ runs) = disk_behind_runs x.left runs
