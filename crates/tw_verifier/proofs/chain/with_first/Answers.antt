use Rattle.std.proofs.Common.{◌∙◌}
use Rattle.tw_chain.specs.Checks.Check.{EventOf, InOrder, PathOf}
use Rattle.tw_chain.specs.Checks.Upper.{Known}
use Rattle.tw_chain.proofs.FoundSteps.{found-three}
use Rattle.tw_verifier.proofs.chain.with_first.Goals as goal

pub returns : goal.returns
returns g c = λ anchors.
    c.with_event.ensures anchors
    ∙ found-three g.H.Hasher.dig anchors c.args.found c.with_order-found.result c.with_path-found.result
    (InOrder c.args.at.now.step c.args.at.now.top) (PathOf c.args.part c.args.at.now (Known c.args.upper.now))
    (EventOf c.args.part c.args.at.now.opening c.args.event.now)
    (c.with_order-found.ensures g.H.Hasher.dig anchors) (c.with_path-found.ensures anchors)
