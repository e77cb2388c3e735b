-- Which files the commands name, and what they ask a service.
use Rattle.std.specs.Prelude.{ℕ, List, [], ◌∷◌, Option, Some, None}
use Rattle.tw_base.specs.declared.history.question.Question.{Question}
use Rattle.tw_base.specs.declared.history.question.Question.TheVariants as ask
use Rattle.tw_words.specs.declared.command.Command.{Command}
use Rattle.tw_words.specs.declared.command.Command.TheVariants.{Append, Thread, Receive, MapLow, MapHigh, Export, Show, Join, VerifyFile, VerifyOne, Strict, CheckMap, Audit, Atlas, Accuse, CheckFork, Adopt, Watch, Offer, Heads, Replay}
use Rattle.tw_script.specs.AskedWords.{asked_of}

-- the files that a command's words name, in their order; a directory is none
abbrev pub command_files : Command → List (List ℕ)
command_files (Append file time) = file ∷ []
command_files (Receive file time) = file ∷ []
command_files (Show history step index) = history ∷ []
command_files (Join files) = files
command_files (VerifyFile proof anchors) = proof ∷ anchors ∷ []
command_files (VerifyOne proof anchor) = proof ∷ []
command_files (Strict proof anchors) = proof ∷ anchors ∷ []
command_files (CheckMap low high anchors) = low ∷ high ∷ anchors ∷ []
command_files (Audit proof anchors histories) = proof ∷ anchors ∷ histories
command_files (Atlas name pos files) = files
command_files (Accuse first second None) = first ∷ second ∷ []
command_files (Accuse first second (Some link)) = first ∷ second ∷ link ∷ []
command_files (CheckFork file anchors) = file ∷ anchors ∷ []
command_files (Adopt history anchors proof more) = history ∷ anchors ∷ proof ∷ more
command_files (Offer file) = file ∷ []
command_files (Replay file) = file ∷ []
command_files _ = []

-- what the command asks a service; most ask nothing, and those that make a proof what `asked_of` says
abbrev pub question_of : Command → Option Question
question_of (Thread since) = Some (ask.ThreadOut since)
question_of (MapLow step peer top) = Some (ask.Low step peer top)
question_of (MapHigh pos peer top) = Some (ask.High pos peer top)
question_of Export = Some ask.Export
question_of command = asked_of command

-- the command works on the disk of a follower
abbrev pub IsOfFollower : Command → Type 0
IsOfFollower (Watch name) = Unit {0}
IsOfFollower (Offer file) = Unit {0}
IsOfFollower Heads = Unit {0}
IsOfFollower _ = ⊥

-- there is a file
abbrev pub IsSomeFile : (files : List (List ℕ)) → Type 0
IsSomeFile [] = ⊥
IsSomeFile (file ∷ files) = Unit {0}

-- the command's words name a file
abbrev pub NamesFile : Command → Type 0
NamesFile command = IsSomeFile (command_files command)
