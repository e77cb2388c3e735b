use Rattle.std.proofs.Common.{◌≡◌, ◌++◌, List, length, slice_get, refl, sym, ap, ◌∙◌, subst, arith}
use Rattle.tw_base.specs.kinds.Lists.{Each}
use Rattle.tw_base.specs.history.Tree.{IsRising}
use Rattle.tw_base.specs.history.Limits.{IsEntryInRange}
use Rattle.tw_rbnode.specs.declared.links.Link.{Link}
use Rattle.tw_rbnode.specs.Slots.{IsTree}
use Rattle.tw_rbnode.proofs.Pages.{whole_node, twelve, twelve_lawful}
use Rattle.tw_rbnode.proofs.adding.balanced.Goals as goal

pub invariant_of-result : goal.invariant_of-result
invariant_of-result c =
    let kept : c.put.new.list.items ≡ c.args.entries.now = c.put.ensures.items ∙ ap (λ xs. xs ++ c.args.entries.now)
    c.new-kept.ensures in
    let sides : c.put-2.new.list.items ≡ c.args.children.now = c.put-2.ensures.items
    ∙ ap (λ xs. xs ++ c.args.children.now) c.new-sides.ensures in
    let count : length c.put.new.list.items ≡ 12 = ap length kept ∙ c.requires.count in
    let places : length c.put-2.new.list.items ≡ 13 = ap length sides ∙ c.requires.places in
    let P : List Link → Type 0 = λ links. IsTree (slice_get links) 0 twelve 7 in
    whole_node _ twelve 7 c.args.level _ _
    (subst P (sym c.balanced_links.ensures) (record {
      blank = refl;
      top_is = refl;
      at = (
        refl,
        (refl, (refl, (refl, tt, tt), (refl, tt, tt)), (refl, (refl, tt, tt), tt)),
        (refl, (refl, (refl, tt, tt), tt), (refl, (refl, tt, tt), tt)),
      );
    }))
    (sym count) (omega arith) (omega arith) (omega arith) twelve_lawful c.requires.level
    (subst IsRising (sym kept) c.requires.rising) (subst (Each IsEntryInRange) (sym kept) c.requires.ranges)
