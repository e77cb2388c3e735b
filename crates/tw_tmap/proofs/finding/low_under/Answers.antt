use Rattle.std.proofs.Common.{sym, ◌∙◌}
use Rattle.tw_chain.proofs.FoundSteps.{under-held, under-not_held}
use Rattle.tw_tmap.specs.Checking.{low_file_part}
use Rattle.tw_tmap.proofs.finding.low_under.Goals as goal

pub returns-in-None : goal.returns-in-None
returns-in-None g c =
    c.lower.ensures
    ∙ under-not_held g.H.Hasher.dig c.args.anchors.now 0 (low_file_part c.args.low.now c.args.part.now)
    c.with_order-found.result
    (c.with_order-found.ensures g.H.Hasher.dig c.args.anchors.now) (sym c.find_anchor.ensures ∙ c.in-None.is)

pub returns-in-Some : goal.returns-in-Some
returns-in-Some g c =
    c.unless.ensures
    ∙ under-held g.H.Hasher.dig c.args.anchors.now 0 (low_file_part c.args.low.now c.args.part.now)
    c.with_order-found.result
    (c.with_order-found.ensures g.H.Hasher.dig c.args.anchors.now) c.in-Some.anchor c.low_reaches.result
    (sym c.find_anchor.ensures ∙ c.in-Some.is) c.low_reaches.ensures
