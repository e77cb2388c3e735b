-- What a run of the program publishes of the history on its disk, by its command and what that came to.
use Rattle.std.specs.Prelude.{◌≡◌, MatchOption}
use Rattle.sha2.specs.Sha256.{sha256}
use Rattle.tw_base.specs.declared.history.question.Question.{Question}
use Rattle.tw_base.specs.declared.history.thread.Thread.{Thread}
use Rattle.tw_words.specs.declared.command.Command.{Command}
use Rattle.tw_words.specs.declared.command.Command.TheVariants as command
use Rattle.tw_app.specs.Commands.{question_of}
use Rattle.tw_app.specs.declared.outcome.Outcome.{Outcome}
use Rattle.tw_app.specs.declared.outcome.Outcome.TheVariants.{Made, Received, Written}
use Rattle.tw_laws.specs.Published.{IsInAnswer}

-- the bytes that answer the question publish the thread: it is that of the message, one of the prover's own that stand in the proof or the
-- map file, or one of the history whose file was written
abbrev pub IsOutByAnswer : Question → Outcome → Thread → Type 0
IsOutByAnswer q (Written bytes) t = IsInAnswer sha256 q bytes t
IsOutByAnswer q _ t = ⊥

-- The text of what the command came to publishes the thread: it is the line of it; the receipt is by its step; or the answer to the question
-- that was asked publishes it. Nothing else counts: refusals have no authenticator of the disk's own history, files are no part of the disk,
-- and a follower's commands tell of another service's.
abbrev pub IsOutBy : Command → Outcome → Thread → Type 0
IsOutBy (command.Init name) (Made thread) t = t ≡ thread
IsOutBy (command.Append file time) (Made thread) t = t ≡ thread
IsOutBy (command.Receive file time) (Received receipt) t = t ≡ receipt.by
IsOutBy c outcome t = MatchOption (question_of c) ⊥ (λ q. IsOutByAnswer q outcome t)
