-- Digests have 32 bytes.
use Rattle.std.proofs.Common.{◌≡◌, ℕ, List, length}
use Rattle.tw_base.specs.history.Tree.{Tree}
use Rattle.tw_base.specs.history.Tree.Tree.{Empty, Branch}
use Rattle.tw_base.specs.history.Auth.{tree_label}

module _ (dig : List ℕ → List ℕ) (size : (text : List ℕ) → length (dig text) ≡ 32) where
  pub tree_label-size : (t : Tree) → length (tree_label dig t) ≡ 32
  unfolding tree_label
  tree_label-size Empty = size _
  tree_label-size (Branch l e r) = size _
