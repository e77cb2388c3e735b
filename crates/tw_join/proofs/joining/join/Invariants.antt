-- The parts that are left join to what was taken as all join.
use Rattle.std.proofs.Common.{◌≡◌, ◌+◌, drop}
use Rattle.tw_join.specs.Joining.{joined_proof}
use Rattle.tw_join.specs.Joining.Taken.{Nothing}
use Rattle.tw_join.specs.TakenParts.{taken_of}
use Rattle.tw_join.proofs.joining.join.Given as goal

abbrev pub invariant-loop-part : goal.invariant-loop-part
invariant-loop-part l =
    (l.place ≡ l.part-index + 1) × (joined_proof (taken_of l.taken) l.place (drop l.part-index l.parts) ≡ joined_proof
    Nothing 1 l.parts)
