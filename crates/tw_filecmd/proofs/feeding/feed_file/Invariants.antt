use Rattle.std.proofs.Common.{◌≡◌, ℕ, ◌-◌, ◌≤◌, ◌↔◌, List}
use Rattle.tw_filecmd.specs.Feeding.{IsFedFront}
use Rattle.tw_filecmd.proofs.feeding.feed_file.Given as goal

abbrev pub invariant-loop-came : goal.invariant-loop-came
invariant-loop-came g l = record {
  kept : g.I.Inputs.told l.inputs ≡ g.I.Inputs.told l.fn.inputs;
  same_names : (other : List ℕ) → g.I.Inputs.may_ask l.inputs other ↔ g.I.Inputs.may_ask l.fn.inputs other;
  later : g.I.Inputs.faults l.fn.inputs ≤ g.I.Inputs.faults l.inputs;
  few : l.at ≤ 4430818;
  fed : IsFedFront (g.I.Inputs.told l.fn.inputs) l.proof l.anchors l.strict l.verifier l.at;
}

-- no front of a proof is longer than 4,430,818 bytes
abbrev pub decreases-loop-came : goal.decreases-loop-came
decreases-loop-came g l = 4430819 - l.at
