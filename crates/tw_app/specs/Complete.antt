-- Runs that have all that their command needs: files of their grammars, a disk that serves it, and nothing outside that fails.
use Rattle.std.specs.Prelude.{◌≡◌, ◌⊎◌, ℕ, ◌≤◌, List, [], length, Option, Some, None, Ok, MatchOption}
use Rattle.tw_base.specs.declared.history.question.Question.{Question}
use Rattle.tw_base.specs.declared.history.report.Hop.{Hop}
use Rattle.tw_base.specs.declared.kinds.limits.TheConstants.{MOST_HISTORY_BYTES}
use Rattle.tw_base.specs.format.Formats.{Format, Spells}
use Rattle.tw_base.specs.history.History.{History}
use Rattle.tw_base.specs.kinds.Lists.{Each}
use Rattle.tw_disk.specs.Disk.{DiskView}
use Rattle.tw_disk.specs.Image.{Image}
use Rattle.tw_outside.specs.Files.{Files, TellsBytes}
use Rattle.tw_words.specs.declared.command.Command.{Command}
use Rattle.tw_words.specs.declared.command.Command.TheVariants.{Append, Receive, Show, Join, VerifyFile, Strict, CheckMap, Audit, Adopt, Atlas, Accuse, CheckFork, Offer, Heads, Replay}
use Rattle.tw_text.specs.Lines.{no_memory_text}
use Rattle.tw_text.specs.Faults.{IsRefused}
use Rattle.tw_text.specs.declared.fault.CommandFault.{CommandFault}
use Rattle.tw_chain.specs.Proofs.{proof_layout}
use Rattle.tw_evidence.specs.Evidence.{link_proof_layout, thread_proof_layout}
use Rattle.tw_follow.specs.HeadLists.{Kept}
use Rattle.tw_msg.specs.AnchorsFile.{AllGood, lines}
use Rattle.tw_msg.specs.EventsFile.{events_file}
use Rattle.tw_msg.specs.Messages.{message_layout}
use Rattle.tw_tmap.specs.MapFiles.{high_layout, low_layout}
use Rattle.tw_script.specs.Scripts.{script_of}
use Rattle.tw_script.specs.declared.script.NumberedLine.{NumberedLine}
use Rattle.tw_filecmd.specs.Showing.{IsHistoryFileOf}
use Rattle.tw_diskcmd.specs.declared.limits.TheConstants.{EVENTS_LIMIT}
use Rattle.tw_diskcmd.specs.Disks.{ReadsAsHistory}
use Rattle.tw_diskcmd.specs.FollowerDisks.{ReadsAsHeads}
use Rattle.tw_reachcmd.specs.Held.{TellAll}
use Rattle.tw_reachcmd.specs.Histories.{AreHistories}
use Rattle.tw_reachcmd.specs.Atlas.{AreHops}
use Rattle.tw_app.specs.Around.{Around, Writes}
use Rattle.tw_app.specs.Commands.{question_of}
use Rattle.tw_app.specs.Judging.{NoneFailed}
use Rattle.tw_app.specs.Statuses.{AreWordsOf, DiskFailed, IsAnsweredRun, IsDoneRun, IsGapRun, IsRejectedRun, IsUndoneRun}

-- ---- the files

-- the bytes spell something
abbrev pub IsWord : {X : Type 0} → Format X → (bytes : List ℕ) → Type 0
IsWord {X} layout bytes = (x : X) × Spells layout bytes x

-- they are an events file
abbrev pub IsEventsFile : (bytes : List ℕ) → Type 0
IsEventsFile bytes = (length bytes ≤ EVENTS_LIMIT) × IsWord events_file bytes

-- the file of a sound history
abbrev pub IsHistoryFile : (bytes : List ℕ) → Type 0
IsHistoryFile bytes = (h : History) × IsHistoryFileOf bytes h

-- an anchors file, each of whose lines is good
abbrev pub IsAnchorsFile : (bytes : List ℕ) → Type 0
IsAnchorsFile bytes = AllGood (lines bytes)

-- files of sound histories of different services, together within the limit
abbrev pub AreHistoryFiles : (all : List (List ℕ)) → Type 0
AreHistoryFiles all = (family : List History) × AreHistories MOST_HISTORY_BYTES [] all family

-- files of receipts, together no more than there may be
abbrev pub AreReceiptFiles : (all : List (List ℕ)) → Type 0
AreReceiptFiles all = (hops : List Hop) × AreHops [] all hops

-- a script
abbrev pub IsScriptFile : (bytes : List ℕ) → Type 0
IsScriptFile bytes = (script : List NumberedLine) × (script_of bytes ≡ Ok script)

module _ (told : Option Files) where
  -- the inputs tell the bytes of the file, and P holds of them
  pub record HasFile (P : (bytes : List ℕ) → Type 0) (file : List ℕ) : Type 0 where
    pub bytes : List ℕ
    pub tells : TellsBytes told file bytes
    pub is : P bytes

  -- the inputs tell the bytes of all these files, and P holds of all
  pub record HasFiles (P : (all : List (List ℕ)) → Type 0) (files : List (List ℕ)) : Type 0 where
    pub all : List (List ℕ)
    pub tell : TellAll told files all
    pub are : P all

  -- where a link is named, its file holds one
  abbrev pub HasLinkFile : (link : Option (List ℕ)) → Type 0
  HasLinkFile None = Unit {0}
  HasLinkFile (Some file) = HasFile (IsWord link_proof_layout) file

  -- each file that the command reads is there, and is one of its kind. What is judged may be anything: a proof of `verify`, `strict`, `audit` and `adopt`,
  -- and the evidence of `checkfork`
  abbrev pub HasValidFiles : Command → Type 0
  HasValidFiles (Append file time) = HasFile IsEventsFile file
  HasValidFiles (Receive file time) = HasFile (IsWord message_layout) file
  HasValidFiles (Show history step index) = HasFile IsHistoryFile history
  HasValidFiles (Join files) = Each (HasFile (IsWord proof_layout)) files
  HasValidFiles (VerifyFile proof anchors) = HasFile IsAnchorsFile anchors
  HasValidFiles (Strict proof anchors) = HasFile IsAnchorsFile anchors
  HasValidFiles (CheckMap low high anchors) = HasFile (IsWord low_layout) low × HasFile (IsWord high_layout) high × HasFile IsAnchorsFile anchors
  HasValidFiles (Atlas name pos files) = HasFiles AreReceiptFiles files
  HasValidFiles (Audit proof anchors histories) = HasFile IsAnchorsFile anchors × HasFiles AreHistoryFiles histories
  HasValidFiles (Adopt history anchors proof more) = HasFile IsHistoryFile history × HasFile IsAnchorsFile anchors
  HasValidFiles (Accuse first second link) = HasFile (IsWord thread_proof_layout) first × HasFile (IsWord thread_proof_layout) second × HasLinkFile link
  HasValidFiles (CheckFork file anchors) = HasFile IsAnchorsFile anchors
  HasValidFiles (Offer file) = HasFile (IsWord message_layout) file
  HasValidFiles (Replay file) = HasFile IsScriptFile file
  HasValidFiles _ = Unit {0}

-- ---- the disk

-- what the disk read as stands for a history
abbrev pub HasHistoryOnDisk : (found : Option Image) → Type 0
HasHistoryOnDisk found = (h : History) × ReadsAsHistory found h

-- for a list of heads
abbrev pub HasList : (found : Option Image) → Type 0
HasList found = (k : Kept) × ReadsAsHeads found k

-- the disk serves the command: it read as a history, or as a list of heads; `init` and `watch` may meet any
abbrev pub HasItsDisk : (found : Option Image) → Command → Type 0
HasItsDisk found (Append file time) = HasHistoryOnDisk found
HasItsDisk found (Receive file time) = HasHistoryOnDisk found
HasItsDisk found (Offer file) = HasList found
HasItsDisk found Heads = HasList found
HasItsDisk found command = MatchOption (question_of command) (Unit {0}) (λ (q : Question). HasHistoryOnDisk found)

-- ---- the run

module _ {D : Type 0} (view : D → DiskView) (a : Around D) where
  -- the words are of a command, its files and its disk are as they have to be, and neither inputs, sink nor disk failed
  pub record HasAllNeeded : Type 0 where
    pub files : AreWordsOf (HasValidFiles a.outside.inputs.told) a.words
    pub disk : AreWordsOf (HasItsDisk (view a.outside.disk.before).content) a.words
    pub none : NoneFailed a
    pub disk_held : DiskFailed view a → ⊥

  -- the run's status is that of an answer, which was written whole: the command is done, rejects or is refused, tells a clash, or found no memory
  abbrev pub IsStatusAnswered : (status : ℕ) → Type 0
  IsStatusAnswered status =
      ((status ≡ 0) × IsDoneRun view a)
      ⊎ ((status ≡ 1) × (IsRejectedRun a ⊎ IsGapRun a ⊎ IsAnsweredRun view a 1))
      ⊎ ((status ≡ 6) × Writes a no_memory_text)
      ⊎ ((status ≡ 7) × ((fault : CommandFault) × IsRefused fault × IsUndoneRun view a fault))
      ⊎ ((status ≡ 10) × IsAnsweredRun view a 10)
