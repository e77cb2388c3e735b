use Rattle.std.proofs.Common.{◌≡◌, subst}
use Rattle.std.specs.Prelude.{None, Some}
use Rattle.tw_adopt.specs.Stops.{AnswersForShown, differing}
use Rattle.tw_adopt.proofs.WeighingLaws.{decided, decided-differs, decided-inside}
use Rattle.tw_adopt.proofs.weighing.decide.Goals as goal

pub returns-in-Some-clause-weighed : goal.returns-in-Some-clause-weighed
returns-in-Some-clause-weighed c = λ dig anchors h proofs heard answers.
    decided-differs dig h anchors proofs c.args.heard.now.shown.items c.args.heard.now.fault c.in-Some.fault heard
    (subst (λ shown. AnswersForShown dig h shown c.args.stops.now → Some c.in-Some.fault ≡ differing dig h 1 shown)
    c.as_slice.ensures.value (c.in-Some.ensures dig h) answers)

pub returns-in-None-clause-weighed : goal.returns-in-None-clause-weighed
returns-in-None-clause-weighed c = λ dig anchors h proofs heard answers.
    decided dig h anchors proofs c.args.heard.now.shown.items c.args.heard.now.fault c.agreed.result heard
    (subst (λ shown. AnswersForShown dig h shown c.args.stops.now → None ≡ differing dig h 1 shown)
    c.as_slice.ensures.value (c.in-None.ensures dig h) answers)
    c.agreed.ensures.fault c.agreed.ensures.good c.requires

pub returns-in-None-clause-inside : goal.returns-in-None-clause-inside
returns-in-None-clause-inside c = λ dig h answers.
    decided-inside dig h c.args.heard.now.shown.items c.args.heard.now.fault c.agreed.result
    (subst (λ shown. AnswersForShown dig h shown c.args.stops.now → None ≡ differing dig h 1 shown)
    c.as_slice.ensures.value (c.in-None.ensures dig h) answers)
    c.agreed.ensures.fault c.agreed.ensures.good c.requires
