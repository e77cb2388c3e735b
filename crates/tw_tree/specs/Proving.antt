-- What making a proof over a tree of the code gives.
use Rattle.std.specs.Prelude.{◌≡◌, List, Result, Ok, Err, ℕ}
use Rattle.tw_base.specs.declared.history.tree_proof.Ask.{Ask}
use Rattle.tw_base.specs.declared.history.tree_proof.TreeProof.{TreeProof}
use Rattle.tw_base.specs.history.Tree.{Tree, entries}
use Rattle.tw_base.specs.history.TreeProofs.{IsSo, proof_of}
use Rattle.tw_tree.specs.declared.proving.ProveFault.{ProveFault}
use Rattle.tw_tree.specs.declared.proving.ProveFault.TheVariants.{Untrue, NoMemory}

-- what is asked is so, and this is the tree's proof; or it isn't so. Want of memory is free
abbrev pub Proves : (dig : List ℕ → List ℕ) → Tree → Ask → Result TreeProof ProveFault → Type 0
Proves dig t ask (Ok proof) = IsSo (entries t) ask × (proof ≡ proof_of dig t ask)
Proves dig t ask (Err Untrue) = IsSo (entries t) ask → ⊥
Proves dig t ask (Err NoMemory) = Unit {0}
