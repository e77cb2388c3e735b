-- The proofs that the command line asks for, as lines have them.
use Rattle.std.specs.Prelude.{◌≡◌, List, ℕ, Option, Some, None}
use Rattle.std.specs.Option.{option_and_then}
use Rattle.std.specs.Result.{result_ok}
use Rattle.tw_base.specs.declared.history.question.Question.{Question}
use Rattle.tw_base.specs.declared.history.question.Question.TheVariants as ask
use Rattle.tw_base.specs.history.Questions.{MayAsk}
use Rattle.tw_words.specs.CommandLine.{proofs}
use Rattle.tw_words.specs.Forms.{choose_form}
use Rattle.tw_words.specs.declared.command.Command.{Command}
use Rattle.tw_words.specs.declared.command.Command.TheVariants.{ProveEvent, ProveThread, ProveAbsent, ProveLink}
use Rattle.tw_script.specs.LineTable.{asked_proof}
use Rattle.tw_script.specs.declared.line.Line.{Line}
use Rattle.tw_script.specs.declared.line.Line.TheVariants.{Prove}

-- what a command that makes a proof asks for
abbrev pub asked_of : Command → Option Question
asked_of (ProveEvent step index top) = Some (ask.Event step index top)
asked_of (ProveThread step peer k top) = Some (ask.Thread step (record { from = peer; step = k }) top)
asked_of (ProveAbsent step peer k top) = Some (ask.Absent step (record { from = peer; step = k }) top)
asked_of (ProveLink step top) = Some (ask.Link step top)
asked_of _ = None

-- words ask for what they ask for behind `prove DIR`
abbrev pub AskAlike : (words : List (List ℕ)) → Type 0
AskAlike words = asked_proof words ≡ option_and_then asked_of (result_ok (choose_form proofs words))

-- what the line asks a service for may be asked
abbrev pub AsksWell : Line → Type 0
AsksWell (Prove service asked) = MayAsk asked
AsksWell _ = Unit {0}
