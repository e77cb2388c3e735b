use Rattle.std.proofs.Common.{ap, sym, ◌∙◌}
use Rattle.std.specs.Ordering.{is_lt}
use Rattle.tw_base.specs.history.Entries.{key_cmp}
use Rattle.tw_tree.specs.TreeMeaning.{meant_tree}
use Rattle.tw_tree.proofs.Steps.{after-left, after-right}
use Rattle.tw_tree.proofs.searching.after.Goals as goal

pub loop-here-preserved-then-is_below : goal.loop-here-preserved-then-is_below
loop-here-preserved-then-is_below c =
    let down = after-left c.args.key.now _ _ c.in-Branch.entry _ (ap meant_tree c.in-Branch.is)
    c.loop-here.invariant.rising c.loop-here.nearest (ap (λ k. is_lt (key_cmp c.args.key.now k))
    (sym c.entry_key.ensures) ∙ sym c.is_below.ensures ∙ c.if-is_below.true) in
    rw (c.deref-here.ensures) (record { rising = down.0; same = down.1 ∙ c.loop-here.invariant.same })

pub loop-here-preserved : goal.loop-here-preserved
loop-here-preserved c =
    let down = after-right c.args.key.now _ _ c.in-Branch.entry _ (ap meant_tree c.in-Branch.is)
    c.loop-here.invariant.rising c.loop-here.nearest (ap (λ k. is_lt (key_cmp c.args.key.now k))
    (sym c.entry_key.ensures) ∙ sym c.is_below.ensures ∙ c.if-is_below.false) in
    rw (c.deref-here-else-is_below.ensures) (record { rising = down.0; same = down.1 ∙ c.loop-here.invariant.same })
