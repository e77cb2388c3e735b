-- The copies so far are the front of the steps.
use Rattle.std.proofs.Common.{◌≡◌, take}
use Rattle.tw_adopt.proofs.front.copy_steps.Given as goal

abbrev pub invariant-loop-step : goal.invariant-loop-step
invariant-loop-step l = l.copies ≡ take l.step-index l.steps
