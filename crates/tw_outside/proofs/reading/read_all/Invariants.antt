use Rattle.std.proofs.Common.{◌≡◌, ℕ, ◌-◌, ◌≤◌, ◌↔◌, List, length}
use Rattle.tw_outside.specs.Files.{IsFrontOfFile}
use Rattle.tw_outside.proofs.reading.read_all.Given as goal

abbrev pub invariant-loop-all : goal.invariant-loop-all
invariant-loop-all g l = record {
  kept : g.I.Inputs.told l.inputs ≡ g.I.Inputs.told l.fn.inputs;
  same_names : (other : List ℕ) → g.I.Inputs.may_ask l.inputs other ↔ g.I.Inputs.may_ask l.fn.inputs other;
  later : g.I.Inputs.faults l.fn.inputs ≤ g.I.Inputs.faults l.inputs;
  within : length l.all.items ≤ l.limit;
  front : IsFrontOfFile (g.I.Inputs.told l.fn.inputs) l.name l.all.items;
}

abbrev pub decreases-loop-all : goal.decreases-loop-all
decreases-loop-all g l = l.limit - length l.all.items
