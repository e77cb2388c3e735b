-- Which tree proofs are within the limits of their format.
use Rattle.std.specs.Prelude.{ℕ, ◌≤◌, length}
use Rattle.tw_base.specs.declared.history.tree_proof.TreeProof.{TreeProof}
use Rattle.tw_base.specs.declared.history.tree_proof.TreeProof.TheVariants.{Present, Gap}
use Rattle.tw_base.specs.history.Limits.{IsAncestorInRange}
use Rattle.tw_base.specs.kinds.Lists.{Each}
use Rattle.tw_base.specs.history.TreeProofs.{ancestors_of}
use Rattle.tw_treeproof.specs.declared.limits.TheConstants.{MOST_ABOVE_ENTRY, MOST_ABOVE_PLACE}

-- the most nodes that a proof of this kind may have above its place
abbrev pub most_above : TreeProof → ℕ
most_above (Present left right up) = MOST_ABOVE_ENTRY
most_above (Gap up) = MOST_ABOVE_PLACE

pub record IsProofInRange (proof : TreeProof) : Type 0 where
  pub count : length (ancestors_of proof) ≤ most_above proof
  pub entries : Each IsAncestorInRange (ancestors_of proof)
