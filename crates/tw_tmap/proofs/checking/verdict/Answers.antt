use Rattle.std.proofs.Common.{sym, ◌∙◌}
use Rattle.tw_tmap.proofs.MapChecks.{judged}
use Rattle.tw_tmap.proofs.MapCodec.{high-fields, low-fields}
use Rattle.tw_tmap.proofs.checking.verdict.Goals as goal

pub low_judged-of_low-requires-clause-some : goal.low_judged-of_low-requires-clause-some
low_judged-of_low-requires-clause-some g c = (low-fields c.args.low.now c.requires.low).steps.some

pub low_judged-of_low-requires-clause-step : goal.low_judged-of_low-requires-clause-step
low_judged-of_low-requires-clause-step g c = (low-fields c.args.low.now c.requires.low).steps.step_within

pub low_judged-of_low-requires-clause-top : goal.low_judged-of_low-requires-clause-top
low_judged-of_low-requires-clause-top g c = (low-fields c.args.low.now c.requires.low).steps.top_within

pub high_judged-of_high-requires-clause-some : goal.high_judged-of_high-requires-clause-some
high_judged-of_high-requires-clause-some g c = (high-fields c.args.high.now c.requires.high).steps.some

pub high_judged-of_high-requires-clause-top : goal.high_judged-of_high-requires-clause-top
high_judged-of_high-requires-clause-top g c = (high-fields c.args.high.now c.requires.high).steps.top_within

pub returns : goal.returns
returns g c =
    c.told.ensures
    ∙ judged g.H.Hasher.dig c.args.anchors.now c.args.low.now c.args.high.now (sym c.fit.ensures ∙ c.if-not-fit.false)
    c.low_judged-of_low.result.found c.high_judged-of_high.result.found c.low_judged-of_low.result.bound
    c.high_judged-of_high.result.bound c.low_judged-of_low.ensures.found c.high_judged-of_high.ensures.found
    c.low_judged-of_low.ensures.bound c.high_judged-of_high.ensures.bound c.lower_found-found.result
    (sym c.lower_found-found.ensures)
