-- How many levels the pages of a tree have.
use Rattle.std.proofs.Common.{◌≡◌, ℕ, ◌+◌, ◌≤◌, List, Bool, true, false, refl, ap, sym, ◌∙◌, arith}
use Rattle.std.specs.Prelude.{◌==◌, if◌then◌else◌}
use Rattle.tw_disk.specs.Found.{◌>>=◌}
use Rattle.tw_disk.specs.Found.Found.{Is}
use Rattle.tw_disk.specs.Image.{Image}
use Rattle.tw_disk.proofs.FoundLaws.{same_found}
use Rattle.tw_rbnode.specs.Page.{TreePage}
use Rattle.tw_rbtree.specs.Reading.{levels_in, node_in}
use Rattle.tw_rbtree.proofs.ListLaws.{from_both}
use Rattle.tw_rbtree.proofs.PageLaws.{is-root}

module _ (dig : List ℕ → List ℕ) (ps : Image) where
  level-page : (page levels : ℕ) → (node_in dig ps page >>= (λ (p : TreePage). Is (p.level + 1))) ≡ Is levels
      → levels ≤ 11
  level-page page levels found =
      let both = from_both (node_in dig ps page) (λ (p : TreePage). Is (p.level + 1)) levels found in
      let low = (is-root dig ps page both.0 both.1).may_stand.node.level in
      let is = same_found (both.0.level + 1) levels both.2 in
      omega (arith, low, is)

  pub levels-few : (page levels : ℕ) → levels_in dig ps page ≡ Is levels → levels ≤ 11
  unfolding levels_in
  levels-few page levels found = by (page == 0) refl
    where
      by : (none : Bool) → (page == 0) ≡ none → levels ≤ 11
      by true e =
          let is = same_found 0 levels
          (sym (ap (λ (b : Bool). if b then Is 0 else (node_in dig ps page >>= (λ (p : TreePage). Is (p.level + 1)))) e)
          ∙ found) in
          omega (arith, is)
      by false e = level-page page levels
          (sym (ap (λ (b : Bool). if b then Is 0 else (node_in dig ps page >>= (λ (p : TreePage). Is (p.level + 1)))) e)
          ∙ found)
