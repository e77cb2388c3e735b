use Rattle.std.proofs.Common.{◌≡◌, ◌++◌, map, drop}
use Rattle.tw_adopt.specs.declared.receiving.Receiving.{Receiving}
use Rattle.tw_adopt.proofs.stops.steps_shown.Given as goal

-- the steps so far, and those that are left
abbrev pub invariant-loop-one : goal.invariant-loop-one
invariant-loop-one l = l.steps.items ++ map (λ (t : Receiving). t.entry.thread.step) (drop l.one-index l.shown) ≡ map
    (λ (t : Receiving). t.entry.thread.step) l.shown
