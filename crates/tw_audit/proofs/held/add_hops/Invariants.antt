use Rattle.std.proofs.Common.{◌≡◌, ◌++◌, take}
use Rattle.std.specs.List.{flat_map}
use Rattle.tw_audit.specs.HopHeld.{held_of_hop}
use Rattle.tw_audit.proofs.held.add_hops.Given as goal

abbrev pub invariant-loop-hop : goal.invariant-loop-hop
invariant-loop-hop l = l.threads ≡ l.initial.threads ++ flat_map (held_of_hop l.anchors) (take l.hop-index l.hops)
