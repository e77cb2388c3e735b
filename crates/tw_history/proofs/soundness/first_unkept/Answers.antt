use Rattle.std.proofs.Common.{◌<◌, ap, sym, subst, ◌∙◌, arith, length}
use Rattle.std.specs.Option.{option_to_list}
use Rattle.tw_base.specs.history.History.{History, received, times}
use Rattle.tw_history.specs.Tables.{step_of}
use Rattle.tw_history.specs.JudgingSteps.{TellsRules}
use Rattle.tw_history.proofs.RulesJudged.{all_by, another_by, decided_by, first-told, later_by, length-option}
use Rattle.tw_history.proofs.soundness.first_unkept.Goals as goal

pub overflow_add-threads : goal.overflow_add-threads
overflow_add-threads c =
    let few = c.requires.few in
    let new = length-option c.received_thread-thread.result in
    omega (arith, few, new, c.count.ensures)

pub index-requires : goal.index-requires
index-requires c = subst (λ n. c.args.step.now.root < n) (sym c.args.judged.now.summaries.ok.0) c.requires.root

pub returns : goal.returns
returns c i fresh there few kept before greatest time one two =
    let h = c.args.history.now in
    let st = c.args.step.now in
    let all = all_by h i st fresh there _ c.index.result.now c.args.judged.now.threads c.count.result kept one
    c.index.ensures before
    (c.count.ensures ∙ ap (λ o. length (option_to_list o)) c.received_thread-thread.ensures) few in
    let another = another_by h i st fresh there c.history.inside.name _ c.is_of_another-another.result
    c.received_thread-thread.ensures
    (ap (λ (x : History). x.name) c.history.view_is) c.is_of_another-another.ensures in
    let later = later_by h i st fresh there _ c.is_later-later.result c.received_thread-thread.ensures
    (c.is_later-later.ensures (received h i) greatest) in
    subst (TellsRules h i (step_of st fresh)) (sym c.first_broken.ensures)
    (first-told h i (step_of st fresh) one two _ _ _ _ _ (decided_by _ _ all) another later c.events_fit-fit.ensures
    (c.doesnt_fall-rise.ensures (times h i) time))
