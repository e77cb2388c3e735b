use Rattle.std.proofs.Common.{◌↔◌, sym, subst, arith, IsTrue, None}
use Rattle.std.proofs.lemmas.Bool.{leb-true}
use Rattle.tw_base.specs.declared.history.thread.Entry.{Entry}
use Rattle.std.specs.Prelude.{IsSome}
use Rattle.tw_base.specs.history.History.{entry_at}
use Rattle.tw_history.proofs.Planting.{entry_to-past, entry_to-within, some_key}
use Rattle.tw_history.proofs.soundness.nodes.is_received.Goals as goal

pub returns-then-entry-step : goal.returns-then-entry-step
returns-then-entry-step c =
    subst (λ o. IsTrue c.is_some.result ↔ IsSome o)
    (sym (entry_to-within c.args.history.now c.args.step c.args.entry c.if-entry-step.true))
    (subst (λ b. IsTrue b ↔ IsSome (entry_at c.args.history.now c.args.entry)) (sym c.is_some.ensures)
    (some_key _ _ c.key_at.ensures))

pub returns-else-entry-step : goal.returns-else-entry-step
returns-else-entry-step c = let none = entry_to-past c.args.history.now c.args.step c.args.entry
    c.if-entry-step.false in (
      (λ yes. absurd (omega (arith, leb-true c.args.entry c.args.step yes))),
      (λ some. let never : IsSome {T = Entry} None = subst IsSome none some in cc),
    )
