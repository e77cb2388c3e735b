use Rattle.std.proofs.Common.{List, [], ◌∷◌, refl, ◌∙◌}
use Rattle.tw_chain.specs.Checks.{Check}
use Rattle.tw_chain.specs.Checks.Check.{InOrder, NeedsAnchor}
use Rattle.tw_chain.specs.Finding.{found_in}
use Rattle.tw_tmap.specs.Checking.{before_checks}
use Rattle.tw_tmap.proofs.MapChecks.{found-behind}
use Rattle.tw_tmap.proofs.showing.low_judged.Goals as goal

pub returns-in-None-clause-found : goal.returns-in-None-clause-found
returns-in-None-clause-found g c =
    let order : List Check = InOrder c.args.low.now.step c.args.low.now.top ∷ [] in
    let anchor : List Check = NeedsAnchor (record { from = c.args.low.now.service; step = c.args.low.now.top }) ∷ [] in
    rw c.in-None.is (c.with_anchor.ensures g.H.Hasher.dig
    ∙ found-behind g.H.Hasher.dig c.args.anchors.now c.with_order-found.result
    (found_in g.H.Hasher.dig c.args.anchors.now anchor) order anchor
    (c.with_order-found.ensures g.H.Hasher.dig c.args.anchors.now) refl)

pub returns-in-Some-clause-found : goal.returns-in-Some-clause-found
returns-in-Some-clause-found g c =
    let order : List Check = InOrder c.args.low.now.step c.args.low.now.top ∷ [] in
    rw c.in-Some.is (c.lower_found.ensures
    ∙ found-behind g.H.Hasher.dig c.args.anchors.now c.with_order-found.result c.low_before-before.result.found order
    (before_checks c.args.low.now c.in-Some.part)
    (c.with_order-found.ensures g.H.Hasher.dig c.args.anchors.now) c.low_before-before.ensures.found)
