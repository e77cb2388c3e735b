use Rattle.std.proofs.Common.{◌∙◌}
use Rattle.tw_chain.specs.Checks.Check.{AnswerOf}
use Rattle.tw_chain.proofs.FoundSteps.{found-one}
use Rattle.tw_chain.proofs.finding.with_answer.Goals as goal

pub returns : goal.returns
returns g c = λ anchors.
    c.unless.ensures
    ∙ found-one g.H.Hasher.dig anchors c.args.found (AnswerOf c.args.part c.args.root.now c.args.ask.now
    c.args.shown.now) c.answers.result c.answers.ensures
