use Rattle.std.proofs.Common.{sym, ◌∙◌}
use Rattle.tw_chain.proofs.FoundSteps.{under-held, under-not_held}
use Rattle.tw_tmap.specs.Checking.{high_part}
use Rattle.tw_tmap.proofs.finding.high_under.Goals as goal

pub returns-in-None : goal.returns-in-None
returns-in-None g c =
    c.lower.ensures
    ∙ under-not_held g.H.Hasher.dig c.args.anchors.now 1 (high_part c.args.high.now) c.with_order-found.result
    (c.with_order-found.ensures g.H.Hasher.dig c.args.anchors.now) (sym c.find_anchor.ensures ∙ c.in-None.is)

pub returns-in-Some : goal.returns-in-Some
returns-in-Some g c =
    c.unless.ensures
    ∙ under-held g.H.Hasher.dig c.args.anchors.now 1 (high_part c.args.high.now) c.with_order-found.result
    (c.with_order-found.ensures g.H.Hasher.dig c.args.anchors.now) c.in-Some.anchor c.high_reaches.result
    (sym c.find_anchor.ensures ∙ c.in-Some.is) c.high_reaches.ensures
