use Rattle.std.proofs.Common.{◌≡◌, ◌+◌, ◌≤◌, length, ap, sym, ◌∙◌, arith}
use Rattle.std.specs.Prelude.{Option, Some, None}
use Rattle.std.specs.Option.{option_to_list}
use Rattle.tw_base.specs.declared.history.thread.Entry.{Entry}
use Rattle.tw_base.specs.history.History.{received}
use Rattle.tw_history.specs.declared.step.Step.{Step}
use Rattle.tw_generate.proofs.ReceivedSteps.{count-step, entry_in, received-none}
use Rattle.tw_generate.proofs.received.count_received.Goals as goal

at_most_one : (o : Option Entry) → length (option_to_list o) ≤ 1
at_most_one None = omega arith
at_most_one (Some e) = omega arith

pub loop-index-init : goal.loop-index-init
loop-index-init c = (sym (ap length (received-none c.args.history.now)), omega arith)

pub loop-index-preserved : goal.loop-index-preserved
loop-index-preserved c =
    let few : length (option_to_list c.entry_of.result) ≤ 1 = at_most_one c.entry_of.result in
    let more : length (received c.args.history.now (c.loop-index.index + 1)) ≡ length
    (received c.args.history.now c.loop-index.index) + length (option_to_list c.entry_of.result) =
    count-step c.args.history.now c.table_of.result.0.now c.table_of.result.1.now c.table_of.ensures.steps
    c.loop-index.index c.index-steps-index.result (omega arith)
    ∙ ap (λ (s : Step). length (received c.args.history.now c.loop-index.index) + length
    (option_to_list (entry_in s (c.loop-index.index + 1)))) (sym c.index-steps-index.is)
    ∙ ap (λ (o : Option Entry). length (received c.args.history.now c.loop-index.index) + length (option_to_list o))
    (sym c.entry_of.ensures) in
    (omega arith, omega arith)
