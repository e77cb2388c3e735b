-- A history file that was read, and its history judged.
use Rattle.std.proofs.Common.{◌≡◌, ℕ, ◌≤◌, List, length, subst, sym}
use Rattle.std.specs.Prelude.{Result, Ok, Err, MatchResult}
use Rattle.tw_base.specs.declared.kinds.limits.TheConstants.{MOST_HISTORY_BYTES}
use Rattle.tw_base.specs.format.Formats.{Spells}
use Rattle.tw_base.specs.history.History.{History}
use Rattle.tw_base.specs.history.HistoryCodec.{history_layout}
use Rattle.tw_base.specs.history.Sound.{IsSound}
use Rattle.tw_history.specs.declared.fault.HistoryFault.{HistoryFault}
use Rattle.tw_history.specs.declared.fault.HistoryFault.TheVariants.{Malformed, NoMemory, TooLong, Unsound}
use Rattle.tw_history.specs.Refusals.{ReadsHistory, TellsRule}

pub judged_read : (whole : List ℕ) (h : History) (r : Result History HistoryFault) → length whole ≤ MOST_HISTORY_BYTES
    → Spells history_layout whole h
    → MatchResult r (λ found. (found ≡ h) × IsSound h) (TellsRule h) → ReadsHistory whole r
judged_read whole h (Ok found) short spelled judged =
    let P : History → Type 0 = λ x. Spells history_layout whole x × IsSound x in
    let both = subst P (sym judged.0) (spelled, judged.1) in (short, both.0, both.1)
judged_read whole h (Err (TooLong bytes)) short spelled judged = absurd judged
judged_read whole h (Err (Malformed place)) short spelled judged = absurd judged
judged_read whole h (Err (Unsound step rule)) short spelled judged = (short, (h, spelled, judged))
judged_read whole h (Err NoMemory) short spelled judged = tt
