use Rattle.std.proofs.Common.{◌-◌, ◌≤◌, List, length, take}
use Rattle.tw_base.specs.declared.kinds.limits.TheConstants.{LAST_STEP}
use Rattle.tw_base.specs.format.Formats.{Format}
use Rattle.tw_pieces.specs.Resuming.{StandsBehind}
use Rattle.tw_skipproof.specs.declared.path.Link.{Link}
use Rattle.tw_verifier.specs.declared.judgement.Judgement.{Judgement}
use Rattle.tw_verifier.specs.Stages.{path_of}
use Rattle.tw_verifier.proofs.attempts.take_links.Given as goal

abbrev pub invariant-loop-at : goal.invariant-loop-at
invariant-loop-at l = record {
  small : l.at ≤ LAST_STEP;
  within : l.size ≤ length l.held;
  behind : (next : List Link → Format Judgement) → StandsBehind (path_of l.fn.links l.from l.to next)
      (take l.size l.held) (path_of l.links l.at l.to next);
}

abbrev pub decreases-loop-at : goal.decreases-loop-at
decreases-loop-at l = l.at - l.to
