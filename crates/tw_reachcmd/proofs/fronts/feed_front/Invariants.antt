use Rattle.std.proofs.Common.{◌≡◌, ℕ, ◌-◌, ◌≤◌, ◌↔◌, List}
use Rattle.std.specs.Prelude.{vec_len}
use Rattle.tw_reachcmd.specs.Fronts.{IsFedOf}
use Rattle.tw_reachcmd.proofs.fronts.feed_front.Given as goal

abbrev pub invariant-loop-came : goal.invariant-loop-came
invariant-loop-came g l = record {
  kept : g.I.Inputs.told l.inputs ≡ g.I.Inputs.told l.fn.inputs;
  same_names : (other : List ℕ) → g.I.Inputs.may_ask l.inputs other ↔ g.I.Inputs.may_ask l.fn.inputs other;
  later : g.I.Inputs.faults l.fn.inputs ≤ g.I.Inputs.faults l.inputs;
  few : vec_len l.fed.bytes ≤ 4430818;
  fed : IsFedOf (g.I.Inputs.told l.fn.inputs) l.proof l.anchors l.fed.verifier l.fed.bytes.items;
}

-- no front of a proof is longer than 4,430,818 bytes
abbrev pub decreases-loop-came : goal.decreases-loop-came
decreases-loop-came g l = 4430819 - vec_len l.fed.bytes
