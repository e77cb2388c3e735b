use Rattle.std.proofs.Common.{◌++◌, ◌∷◌, [], List, ap, ◌∙◌}
use Rattle.tw_history.specs.declared.stops.Stop.{Stop}
use Rattle.tw_history.proofs.StopLaws.{handed-to, stops-answer, stops-begin}
use Rattle.tw_history.proofs.stops.stops_to.Goals as goal

pub pass_to-requires-clause-stops : goal.pass_to-requires-clause-stops
pass_to-requires-clause-stops g c =
    stops-begin g.T.Transcript.dig c.args.history.now c.args.asked.now c.auth_passed.result c.push.new.self.items
    (c.auth_passed.ensures g.T.Transcript.dig c.args.history.now 0 c.in_ok-digests.ensures.passed)
    (c.in_ok-push.ensures.items ∙ ap (λ (ss : List Stop). ss ++ record { step = 0; auth = c.auth_passed.result } ∷ [])
    c.new-stops.ensures.items)

pub returns-clause-stops : goal.returns-clause-stops
returns-clause-stops g c =
    stops-answer g.T.Transcript.dig c.args.history.now c.args.asked.now c.pass_to.new.stops.items c.args.last
    c.in_ok-pass_to.ensures.stops

pub returns-clause-took : goal.returns-clause-took
returns-clause-took g c =
    handed-to g.T.Transcript.dig c.args.history.now g.T.Transcript.took _ _ _ c.args.last c.in_ok-digests.ensures.took
    c.in_ok-pass_to.ensures.took
