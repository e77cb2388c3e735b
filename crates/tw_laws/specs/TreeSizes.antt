-- How many nodes the proofs of an archive's tree have.
use Rattle.std.specs.Prelude.{◌≡◌, ℕ, ◌+◌, ◌-◌, ◌*◌, ◌^◌, ◌<◌, ◌≤◌, List, length}
use Rattle.tw_base.specs.declared.history.tree_proof.Ask.{Ask}
use Rattle.tw_base.specs.history.Tree.{Tree, entries}
use Rattle.tw_base.specs.history.TreeProofs.{ancestors_of, proof_of}
use Rattle.tw_disk.specs.Found.Found.{Is}
use Rattle.tw_disk.specs.Image.{Image}
use Rattle.tw_rbtree.specs.Reading.{levels_in}

-- the tree's own proof of what is asked has at most 9 nodes above its place for each of the levels that its pages have under this root page,
-- and at most 99; each level more takes 13 times the entries
pub record HasFewAbove (dig : List ℕ → List ℕ) (pages : Image) (page : ℕ) (t : Tree) (ask : Ask) : Type 0 where
  pub levels : ℕ
  pub there : levels_in dig pages page ≡ Is levels
  pub few : length (ancestors_of (proof_of dig t ask)) ≤ 9 * levels
  pub most : length (ancestors_of (proof_of dig t ask)) ≤ 99
  pub many : 0 < levels → 2 * 13 ^ (levels - 1) ≤ length (entries t) + 1
