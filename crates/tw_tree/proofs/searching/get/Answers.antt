use Rattle.std.proofs.Common.{ap, sym, ◌∙◌}
use Rattle.tw_base.specs.history.Entries.{key_cmp}
use Rattle.tw_tree.specs.TreeMeaning.{meant_tree}
use Rattle.tw_tree.proofs.Steps.{with-here, with-left, with-right}
use Rattle.tw_tree.proofs.searching.get.Goals as goal

pub loop-here-preserved-in-Less : goal.loop-here-preserved-in-Less
loop-here-preserved-in-Less c =
    let down = with-left c.args.key.now _ _ c.in-Branch.entry _ (ap meant_tree c.in-Branch.is)
    c.loop-here.invariant.rising (ap (key_cmp c.args.key.now) (sym c.entry_key.ensures) ∙ sym c.compare_keys.ensures
    ∙ c.in-Less.is) in
    rw (c.deref-here.ensures) (record { rising = down.0; same = down.1 ∙ c.loop-here.invariant.same })

pub returns-in-Equal : goal.returns-in-Equal
returns-in-Equal c =
    with-here c.args.key.now _ _ c.in-Branch.entry _ (ap meant_tree c.in-Branch.is) c.loop-here.invariant.rising
    (ap (key_cmp c.args.key.now) (sym c.entry_key.ensures) ∙ sym c.compare_keys.ensures ∙ c.in-Equal.is)
    ∙ c.loop-here.invariant.same

pub loop-here-preserved : goal.loop-here-preserved
loop-here-preserved c =
    let down = with-right c.args.key.now _ _ c.in-Branch.entry _ (ap meant_tree c.in-Branch.is)
    c.loop-here.invariant.rising (ap (key_cmp c.args.key.now) (sym c.entry_key.ensures) ∙ sym c.compare_keys.ensures
    ∙ c.in-Greater.is) in
    rw (c.deref-here-in-Greater.ensures) (record { rising = down.0; same = down.1 ∙ c.loop-here.invariant.same })
