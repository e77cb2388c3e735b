-- The ranges in which the numbers of a command lie.
use Rattle.std.specs.Prelude.{◌≤◌}
use Rattle.tw_base.specs.history.Limits.{IsStep}
use Rattle.tw_words.specs.declared.command.Command.{Command}
use Rattle.tw_words.specs.declared.command.Command.TheVariants.{ProveThread, ProveAbsent, MapHigh, VerifyOne, Atlas, Generate}
use Rattle.tw_words.specs.declared.limits.TheConstants.{MOST_GENERATED}

-- a peer's step, and that of an anchor or of a start, is a step from 1 on; a generated schedule has at least one step, and not too many
abbrev pub IsWithinRanges : Command → Type 0
IsWithinRanges (ProveThread step peer k top) = IsStep k
IsWithinRanges (ProveAbsent step peer k top) = IsStep k
IsWithinRanges (MapHigh pos peer top) = IsStep pos
IsWithinRanges (VerifyOne proof anchor) = IsStep anchor.step
IsWithinRanges (Atlas name pos files) = IsStep pos
IsWithinRanges (Generate seed steps) = (1 ≤ steps) × (steps ≤ MOST_GENERATED)
IsWithinRanges _ = Unit {0}
