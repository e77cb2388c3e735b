-- Which of these proofs can be checked: their steps are within the format's limit.
use Rattle.std.specs.Prelude.{◌≤◌}
use Rattle.tw_base.specs.declared.kinds.limits.TheConstants.{LAST_STEP}
use Rattle.tw_contradict.specs.declared.archive_proof.ArchiveProof.{ArchiveProof}

pub record IsSmall (a : ArchiveProof) : Type 0 where
  pub step : a.at.step ≤ LAST_STEP
  pub top : a.at.top ≤ LAST_STEP
