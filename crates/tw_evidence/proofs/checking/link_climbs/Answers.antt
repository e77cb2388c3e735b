use Rattle.std.proofs.Common.{◌∙◌}
use Rattle.tw_evidence.proofs.Bound.{climbed-no, climbed-yes, forked}
use Rattle.tw_evidence.proofs.Verdicts.{conflicts-is}
use Rattle.tw_evidence.proofs.checking.link_climbs.Goals as goal

pub returns-in-None-clause-climbs : goal.returns-in-None-clause-climbs
returns-in-None-clause-climbs g c = climbed-no g.H.Hasher.dig c.args.evidence.now c.in-None.ensures.answer

pub returns-in-Some-clause-climbs : goal.returns-in-Some-clause-climbs
returns-in-Some-clause-climbs g c =
    climbed-yes g.H.Hasher.dig c.args.evidence.now c.is_same_digest.result c.in-Some.top c.in-Some.ensures.answer.0
    c.in-Some.ensures.answer.1 c.is_same_digest.ensures

pub returns-in-Some-clause-forked : goal.returns-in-Some-clause-forked
returns-in-Some-clause-forked g c = λ same conflict.
    forked g.H.Hasher.dig c.args.evidence.now conflict
    (λ h sound within high. c.in-Some.ensures.binds h sound ((conflicts-is c.args.evidence.now).0 conflict).0.1 within
    (c.is_same_digest.ensures.0 same ∙ high))
