use Rattle.std.proofs.Common.{ap, sym, ◌∙◌}
use Rattle.std.specs.Prelude.{is_some}
use Rattle.tw_base.specs.history.Asking.{entry_with}
use Rattle.tw_base.specs.history.Tree.{entries}
use Rattle.tw_tree.specs.TreeMeaning.{meant_tree}
use Rattle.tw_base.proofs.lemmas.history.Leaves.{has-leaf, none_is, some_is}
use Rattle.tw_tree.proofs.inserting.insert_plain.Goals as goal

pub returns-then-is_some : goal.returns-then-is_some
returns-then-is_some c =
    some_is _
    (ap is_some (sym (c.get.ensures ∙ ap (entry_with (entries (meant_tree c.args.tree.now))) c.entry_key.ensures))
    ∙ sym c.is_some.ensures ∙ c.if-is_some.true)

pub returns-in-Ok : goal.returns-in-Ok
returns-in-Ok c =
    has-leaf c.args.entry (meant_tree c.args.tree.now) _ c.requires
    (none_is _
    (ap is_some (sym (c.get.ensures ∙ ap (entry_with (entries (meant_tree c.args.tree.now))) c.entry_key.ensures))
    ∙ sym c.is_some.ensures ∙ c.if-is_some.false))
    c.in-Ok.ensures
