use Rattle.std.proofs.Common.{◌*◌, ◌≤◌, List, length, sym, ◌∙◌, subst}
use Rattle.tw_base.specs.declared.history.tree_proof.Ancestor.{Ancestor}
use Rattle.tw_base.specs.history.TreeProofs.{place_of_ask, way_up}
use Rattle.tw_base.proofs.lemmas.history.Ways.{at-ancestors}
use Rattle.tw_rbtree.proofs.RootWays.{root-way}
use Rattle.tw_rbtree.proofs.TreeHeights.{stands-height}
use Rattle.tw_rbtree.proofs.laws.size_laws.Goals as goal

pub returns : goal.returns
returns g c = record {
  size = λ ps root t ask stands.
      let dig = g.H.Hasher.dig in
      let w = root-way dig ps ask root t stands in
      let same = w.up ∙ sym (at-ancestors dig (place_of_ask ask t) (way_up dig ask t)) in
      (w.levels, w.levels_is, subst (λ (xs : List Ancestor). length xs ≤ 9 * w.levels) same w.few, w.many);
  height = λ ps root t stands. stands-height g.H.Hasher.dig ps root t stands;
}
