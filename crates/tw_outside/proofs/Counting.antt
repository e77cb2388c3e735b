-- Counts of faults, call after call.
use Rattle.std.proofs.Common.{ℕ, ◌≤◌, arith}
use Rattle.tw_base.specs.kinds.Faults.{Rose}

-- a count that rose has risen since earlier calls
pub Rose-earlier : (earlier before now : ℕ) → earlier ≤ before → Rose before now → Rose earlier now
Rose-earlier earlier before now le rose = omega arith
