use Rattle.std.proofs.Common.{suc, ◌++◌, ap, sym, subst, ◌∙◌, arith, length}
use Rattle.std.specs.Prelude.{IfSome}
use Rattle.std.specs.Option.{option_to_list}
use Rattle.tw_base.specs.history.History.{Step, received, times}
use Rattle.tw_base.specs.history.Rules.Rule.{NodesAreKnown, StepsRise, TimesDontFall, TreesRise}
use Rattle.tw_history.specs.JudgingSteps.{IsGreatest, IsLater, TellsRules, greatest_of}
use Rattle.tw_history.specs.Tables.{step_of}
use Rattle.tw_history.proofs.Summaries.{is_false}
use Rattle.tw_history.proofs.RulesJudged.{count-received, entry_of, judged_next, length-option, length-received}
use Rattle.tw_history.proofs.RulesJudged.{lower_rules, names_by, none-broken, refusal, refused, root-within}
use Rattle.tw_history.proofs.soundness.judge_step.Goals as goal

pub returns-then-not-names_known : goal.returns-then-not-names_known
returns-then-not-names_known c =
    let s : Step = step_of c.args.step.now c.args.fresh.now in
    let names = names_by c.args.history.now c.args.earlier c.args.step.now c.args.fresh.now c.requires.there _ _ _
    c.requires.judged.summaries (c.len-first.ensures ∙ c.args.judged.now.summaries.ok.0) c.names_known.ensures in
    refusal c.args.history.now c.args.earlier s _ c.unsound.result NodesAreKnown c.unsound.ensures
    (λ kept. is_false _ c.if-not-names_known.true (names.1 kept))
    (lower_rules c.args.history.now c.args.earlier s 1 (λ l. absurd (omega (arith, l))) (λ l. absurd (omega (arith, l)))
    (λ l. absurd (omega (arith, l))) (λ l. absurd (omega (arith, l))) (λ l. absurd (omega (arith, l)))
    (λ l. absurd (omega (arith, l))) (λ l. absurd (omega (arith, l))))

pub returns-then-not-branch : goal.returns-then-not-branch
returns-then-not-branch c =
    let s : Step = step_of c.args.step.now c.args.fresh.now in
    let names = names_by c.args.history.now c.args.earlier c.args.step.now c.args.fresh.now c.requires.there _ _ _
    c.requires.judged.summaries (c.len-first.ensures ∙ c.args.judged.now.summaries.ok.0) c.names_known.ensures in
    refusal c.args.history.now c.args.earlier s _ c.unsound-then-not-branch.result TreesRise
    c.unsound-then-not-branch.ensures (c.in_ok-plant.ensures.fallen c.if-not-branch.true)
    (lower_rules c.args.history.now c.args.earlier s 2 (λ _. names.0 c.if-not-names_known.false)
    (λ l. absurd (omega (arith, l))) (λ l. absurd (omega (arith, l))) (λ l. absurd (omega (arith, l)))
    (λ l. absurd (omega (arith, l))) (λ l. absurd (omega (arith, l))) (λ l. absurd (omega (arith, l))))

pub first_unkept-requires-clause-few : goal.first_unkept-requires-clause-few
first_unkept-requires-clause-few c =
    omega (arith, c.requires.few, length-received c.args.history.now c.args.earlier, c.requires.judged.threads)

pub first_unkept-requires-clause-root : goal.first_unkept-requires-clause-root
first_unkept-requires-clause-root c =
    let names = names_by c.args.history.now c.args.earlier c.args.step.now c.args.fresh.now c.requires.there _ _ _
    c.requires.judged.summaries (c.len-first.ensures ∙ c.args.judged.now.summaries.ok.0) c.names_known.ensures in
    root-within c.args.history.now c.args.earlier c.args.step.now c.args.fresh.now c.requires.there _
    (c.in_ok-plant.ensures.risen c.if-not-branch.false).0 (names.0 c.if-not-names_known.false)

pub overflow_add-judged : goal.overflow_add-judged
overflow_add-judged c =
    let so_far = length-received c.args.history.now c.args.earlier in
    let new = length-option c.received_thread-thread.result in
    omega (arith, c.requires.few, so_far, c.requires.judged.threads, new, c.count.ensures)

pub returns-in-Some : goal.returns-in-Some
returns-in-Some c =
    let names = names_by c.args.history.now c.args.earlier c.args.step.now c.args.fresh.now c.requires.there _ _ _
    c.requires.judged.summaries (c.len-first.ensures ∙ c.args.judged.now.summaries.ok.0) c.names_known.ensures in
    let risen = c.in_ok-plant.ensures.risen c.if-not-branch.false in
    refused c.args.history.now c.args.earlier (step_of c.args.step.now c.args.fresh.now) _ c.unsound-in-Some.result
    c.in-Some.rule c.unsound-in-Some.ensures
    (subst (TellsRules c.args.history.now c.args.earlier (step_of c.args.step.now c.args.fresh.now)) c.in-Some.is
    (c.first_unkept.ensures c.args.earlier c.args.fresh.now c.requires.there c.requires.few risen.0
    c.requires.judged.threads c.requires.judged.greatest c.requires.judged.time (names.0 c.if-not-names_known.false)
    risen.1))

pub returns : goal.returns
returns c =
    let h = c.args.history.now in
    let i = c.args.earlier in
    let s : Step = step_of c.args.step.now c.args.fresh.now in
    let names = names_by h i c.args.step.now c.args.fresh.now c.requires.there _ _ _ c.requires.judged.summaries
    (c.len-first.ensures ∙ c.args.judged.now.summaries.ok.0) c.names_known.ensures in
    let risen = c.in_ok-plant.ensures.risen c.if-not-branch.false in
    let every = none-broken _ _ c.first_unkept.result c.in_default.not-Some
    (c.first_unkept.ensures i c.args.fresh.now c.requires.there c.requires.few risen.0 c.requires.judged.threads
    c.requires.judged.greatest c.requires.judged.time (names.0 c.if-not-names_known.false) risen.1) in
    let thread = c.received_thread-thread.ensures in
    let counted = count-received h i s c.requires.there c.args.judged.now.threads c.count.result
    c.requires.judged.threads (c.count.ensures ∙ ap (λ o. length (option_to_list o)) thread) in
    let added = c.in_ok-add.ensures (received h i) (suc i) c.requires.judged.greatest
    (subst (λ o. IfSome o (λ t. IsLater t (received h i))) (sym thread) (every StepsRise)) in (
      record { rules = every; limits = c.limits_law.ensures; time = c.requires.time },
      judged_next h i s c.args.judged.now _ c.requires.there c.requires.judged risen.1 risen.0 counted
          (subst (λ o. IsGreatest (received h i ++ option_to_list (entry_of (suc i) o)) (greatest_of c.add.new.self))
          thread added)
          (c.greatest_with-judged.ensures (times h i) c.requires.judged.time (every TimesDontFall)),
    )
