-- What becomes of a message that a service is given.
use Rattle.std.specs.Prelude.{◌≡◌, ◌⊎◌, ℕ, List, Bool, true, false, Option, Some, None, Result, Err}
use Rattle.tw_archive.specs.declared.judgement.Judgement.{Judgement}
use Rattle.tw_archive.specs.declared.judgement.Judgement.TheVariants as judged
use Rattle.tw_archive.specs.Judging.{IsJudgementFor}
use Rattle.tw_base.specs.format.Formats.{IsPlace}
use Rattle.tw_msg.specs.declared.message.Message.{Message}
use Rattle.tw_msg.specs.Messages.{message_layout}
use Rattle.tw_service.specs.declared.receiving.Reception.{Reception}
use Rattle.tw_service.specs.declared.receiving.Reception.TheVariants.{Refuse, Known, Archive}
use Rattle.tw_base.specs.declared.history.refusal.Refusal.{Refusal}
use Rattle.tw_base.specs.declared.history.refusal.Refusal.TheVariants.{Malformed, Forked, Stale, BadLink, Full, ClockBack, Reopen, NoMemory}
use Rattle.tw_answers.specs.Limits.{archive_refusal}

-- the refusal, where there is one, and else the other
abbrev pub refuse_or : Option Refusal → Reception → Reception
refuse_or (Some refusal) other = Refuse refusal
refuse_or None other = other

-- by its judgement: a thread that is known is answered, by the step that received it; a message that isn't taken is refused; and one
-- that is accepted is archived, where there is a further step for it at this time
unfoldable pub reception : (steps : ℕ) → (clock time : Option ℕ) → Judgement → Reception
reception steps clock time (judged.Known archived) = Known archived
reception steps clock time (judged.Forked step kept offered) = Refuse (Forked step kept offered)
reception steps clock time (judged.Stale last) = Refuse (Stale last)
reception steps clock time (judged.BadLink last kept) = Refuse (BadLink last kept)
reception steps clock time judged.Accept = refuse_or (archive_refusal steps clock time) Archive

-- what a refusal by the archive, or for want of a further step, tells of this message, whatever the pages keep
abbrev pub TellsOfMessage : (dig : List ℕ → List ℕ) → (steps : ℕ) → (clock time : Option ℕ) → Message → Refusal → Type 0
TellsOfMessage dig steps clock time m (Forked step kept offered) = IsJudgementFor dig m (judged.Forked step kept offered)
TellsOfMessage dig steps clock time m (Stale last) = IsJudgementFor dig m (judged.Stale last)
TellsOfMessage dig steps clock time m (BadLink last kept) = IsJudgementFor dig m (judged.BadLink last kept)
TellsOfMessage dig steps clock time m Full = archive_refusal steps clock time ≡ Some Full
TellsOfMessage dig steps clock time m (ClockBack last given) = archive_refusal steps clock time ≡ Some (ClockBack last given)
TellsOfMessage dig steps clock time m _ = ⊥

-- bytes that are no message: Reopen where a call before met a disk fault; else the first byte at which no message goes on is told,
-- want of memory excepted
abbrev pub RefusesNoMessage : {T : Type 0} → (is_broken : Bool) → (bytes : List ℕ) → Result T Refusal → Type 0
RefusesNoMessage true bytes result = result ≡ Err Reopen
RefusesNoMessage false bytes result = (result ≡ Err NoMemory) ⊎ ((place : ℕ) × (result ≡ Err (Malformed place)) × IsPlace message_layout bytes place)
