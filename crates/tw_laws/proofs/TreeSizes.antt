-- How many nodes the proofs of an archive's tree have, where pages stand for the tree.
use Rattle.std.proofs.Common.{ℕ, ◌*◌, ◌≤◌, List, length, sym, ◌∙◌, subst, arith}
use Rattle.tw_base.specs.declared.history.root.Root.{Root}
use Rattle.tw_base.specs.declared.history.tree_proof.Ancestor.{Ancestor}
use Rattle.tw_base.specs.declared.history.tree_proof.Ask.{Ask}
use Rattle.tw_base.specs.history.Tree.{Tree}
use Rattle.tw_base.specs.history.TreeProofs.{place_of_ask, way_up}
use Rattle.tw_base.proofs.lemmas.history.Ways.{at-ancestors}
use Rattle.tw_disk.specs.Image.{Image}
use Rattle.tw_rbtree.specs.Standing.{StandsForTree}
use Rattle.tw_rbtree.proofs.LevelLaws.{levels-few}
use Rattle.tw_rbtree.proofs.RootWays.{root-way}
use Rattle.tw_laws.specs.TreeSizes.{HasFewAbove}

module _ (dig : List ℕ → List ℕ) (ps : Image) where
  pub few-above : (root : Root) (t : Tree) (ask : Ask) → StandsForTree dig ps root t → HasFewAbove dig ps root.page t
      ask
  few-above root t ask stands =
      let w = root-way dig ps ask root t stands in
      let same = w.up ∙ sym (at-ancestors dig (place_of_ask ask t) (way_up dig ask t)) in
      let few = subst (λ (xs : List Ancestor). length xs ≤ 9 * w.levels) same w.few in
      record {
        levels = w.levels;
        there = w.levels_is;
        few = few;
        most = (let low = levels-few dig ps root.page w.levels w.levels_is in omega (arith, few, low));
        many = w.many;
      }
