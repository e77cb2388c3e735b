use Rattle.std.proofs.Common.{◌≡◌, ℕ, ◌≤◌, ◌↔◌, List, ◌++◌, take}
use Rattle.tw_base.specs.kinds.Lists.{Each}
use Rattle.tw_outside.specs.Files.{IsThere}
use Rattle.tw_filecmd.specs.declared.limits.TheConstants.{FILE_READ}
use Rattle.tw_reachcmd.specs.AdoptReading.{AreReadTo}
use Rattle.tw_reachcmd.proofs.adopting.put_files.Given as goal

abbrev pub invariant-loop-file : goal.invariant-loop-file
invariant-loop-file g l = record {
  kept : g.I.Inputs.told l.inputs ≡ g.I.Inputs.told l.fn.inputs;
  same_names : (other : List ℕ) → g.I.Inputs.may_ask l.inputs other ↔ g.I.Inputs.may_ask l.fn.inputs other;
  later : g.I.Inputs.faults l.fn.inputs ≤ g.I.Inputs.faults l.inputs;
  there : Each (IsThere (g.I.Inputs.told l.fn.inputs)) (take l.file-index l.files);
  read : (before : List (List ℕ)) → AreReadTo (g.I.Inputs.told l.fn.inputs) FILE_READ before l.fn.proofs
      → AreReadTo (g.I.Inputs.told l.fn.inputs) FILE_READ (before ++ take l.file-index l.files) l.proofs;
}
