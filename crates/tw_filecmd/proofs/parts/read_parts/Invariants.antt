use Rattle.std.proofs.Common.{◌≡◌, ℕ, ◌≤◌, ◌↔◌, List, take}
use Rattle.tw_filecmd.specs.Parts.{ArePartsRead}
use Rattle.tw_filecmd.proofs.parts.read_parts.Given as goal

abbrev pub invariant-loop-file : goal.invariant-loop-file
invariant-loop-file g l = record {
  kept : g.I.Inputs.told l.inputs ≡ g.I.Inputs.told l.fn.inputs;
  same_names : (other : List ℕ) → g.I.Inputs.may_ask l.inputs other ↔ g.I.Inputs.may_ask l.fn.inputs other;
  later : g.I.Inputs.faults l.fn.inputs ≤ g.I.Inputs.faults l.inputs;
  read : ArePartsRead (g.I.Inputs.told l.fn.inputs) (take l.file-index l.files) l.parts.proofs l.parts.bad;
}
