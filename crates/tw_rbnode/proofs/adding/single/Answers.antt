use Rattle.std.proofs.Common.{◌≡◌, ◌++◌, ◌∷◌, [], length, refl, sym, ap, ◌∙◌, subst, arith, false}
use Rattle.tw_base.specs.kinds.Lists.{Each}
use Rattle.tw_base.specs.history.Tree.{IsRising}
use Rattle.tw_base.specs.history.Limits.{IsEntryInRange}
use Rattle.tw_rbnode.specs.Shape.{Empty, Node}
use Rattle.tw_rbnode.proofs.Pages.{whole_node}
use Rattle.tw_rbnode.proofs.adding.single.Goals as goal

pub invariant_of-result : goal.invariant_of-result
invariant_of-result g c =
    let kept : c.push.new.self.items ≡ c.args.entry ∷ [] = c.push.ensures.items ∙ ap (λ xs. xs ++ c.args.entry ∷ [])
    c.new-entries.ensures in
    let sides : c.push-3.new.self.items ≡ c.args.left ∷ c.args.right ∷ [] =
    c.push-3.ensures.items ∙ ap (λ xs. xs ++ c.args.right ∷ [])
    (c.push-2.ensures.items ∙ ap (λ xs. xs ++ c.args.left ∷ []) c.new-children.ensures) in
    let count : length c.push.new.self.items ≡ 1 = ap length kept in
    let places : length c.push-3.new.self.items ≡ 2 = ap length sides in
    whole_node _ (Node false Empty Empty) 1 c.args.level _ _
    (record { blank = refl; top_is = refl; at = (refl, tt, tt) })
    (sym count) (omega arith) (omega arith) (omega arith) (refl, 1, (0, refl, refl, refl)) c.requires.level
    (subst IsRising (sym kept) (tt, tt)) (subst (Each IsEntryInRange) (sym kept) (c.requires.range, tt))
