-- The hops so far, with those of the parts that are left before them, are the hops of all parts.
use Rattle.std.proofs.Common.{◌≡◌, [], length, None}
use Rattle.std.specs.Prelude.{reverse}
use Rattle.tw_join.specs.Joining.{hops_before}
use Rattle.tw_join.specs.TakenParts.{joints_of}
use Rattle.tw_join.proofs.joining.hops_of.Given as goal

abbrev pub invariant-loop-joint : goal.invariant-loop-joint
invariant-loop-joint l = hops_before (joints_of l.joints.items) l.before (reverse l.hops) ≡ hops_before
    (joints_of l.fn.joints.items) None []

abbrev pub decreases-loop-joint : goal.decreases-loop-joint
decreases-loop-joint l = length l.joints.items
