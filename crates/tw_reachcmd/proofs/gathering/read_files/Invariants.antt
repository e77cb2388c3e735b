use Rattle.std.proofs.Common.{◌≡◌, ℕ, ◌≤◌, ◌↔◌, List, [], take}
use Rattle.tw_base.specs.kinds.Lists.{Each}
use Rattle.tw_outside.specs.Files.{IsThere}
use Rattle.tw_reachcmd.proofs.gathering.read_files.Given as goal

abbrev pub invariant-loop-file : goal.invariant-loop-file
invariant-loop-file g l = record {
  kept : g.I.Inputs.told l.inputs ≡ g.I.Inputs.told l.fn.inputs;
  same_names : (other : List ℕ) → g.I.Inputs.may_ask l.inputs other ↔ g.I.Inputs.may_ask l.fn.inputs other;
  later : g.I.Inputs.faults l.fn.inputs ≤ g.I.Inputs.faults l.inputs;
  holds : g.G.Gathers.holds l.into;
  there : Each (IsThere (g.I.Inputs.told l.fn.inputs)) (take l.file-index l.files);
  read : g.G.Gathers.reads (g.I.Inputs.told l.fn.inputs) [] l.fn.into → g.G.Gathers.reads (g.I.Inputs.told l.fn.inputs)
      (take l.file-index l.files) l.into;
}
