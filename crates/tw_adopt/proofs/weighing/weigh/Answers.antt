use Rattle.std.proofs.Common.{sym, subst}
use Rattle.tw_adopt.specs.Stops.{AnswersForShown}
use Rattle.tw_adopt.proofs.weighing.weigh.Goals as goal

pub returns-in-Ok-clause-inside : goal.returns-in-Ok-clause-inside
returns-in-Ok-clause-inside g c =
    c.decide.ensures.inside g.H.Hasher.dig c.args.history.now
    (subst (λ stops. AnswersForShown g.H.Hasher.dig c.args.history.now c.args.heard.now.shown.items stops)
    (sym c.as_slice-in-Ok.ensures.value)
    (subst (λ shown. AnswersForShown g.H.Hasher.dig c.args.history.now shown c.in-Ok.stops.items)
    c.as_slice.ensures.value c.in-Ok.ensures))
