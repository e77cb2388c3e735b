use Rattle.std.proofs.Common.{◌≡◌, ℕ, ◌+◌, List, drop}
use Rattle.tw_base.specs.history.History.{History}
use Rattle.tw_adopt.specs.Stops.{AnswersForShown, differing}
use Rattle.tw_adopt.proofs.weighing.first_differing.Given as goal

abbrev pub invariant-loop-index : goal.invariant-loop-index
invariant-loop-index l = (dig : List ℕ → List ℕ) (h : History) → AnswersForShown dig h l.shown l.stops
    → differing dig h (l.index + 1) (drop l.index l.shown) ≡ differing dig h 1 l.shown
