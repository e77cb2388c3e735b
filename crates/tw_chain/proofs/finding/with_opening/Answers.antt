use Rattle.std.proofs.Common.{[], ◌∷◌, ◌∙◌}
use Rattle.tw_chain.specs.Checks.{Check}
use Rattle.tw_chain.specs.Checks.Check.{InOrder, OpeningOf}
use Rattle.tw_chain.proofs.FoundSteps.{found-one, found-onto}
use Rattle.tw_chain.proofs.finding.with_opening.Goals as goal

pub returns-in-Some : goal.returns-in-Some
returns-in-Some g c = λ anchors.
    let check : Check = OpeningOf c.args.part c.args.thread.now c.in-Some.opening in
    rw c.in-Some.is (c.unless.ensures
    ∙ found-one g.H.Hasher.dig anchors c.with_order-found.result check c.opens.result c.opens.ensures
    ∙ found-onto g.H.Hasher.dig anchors c.args.found c.with_order-found.result (InOrder 1 c.args.thread.now.step ∷ [])
    (check ∷ [])
    (c.with_order-found.ensures g.H.Hasher.dig anchors))
