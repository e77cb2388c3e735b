use Rattle.std.proofs.Common.{refl, sym, ◌∙◌, ap}
use Rattle.tw_atlas.specs.BestSoFar.{is_arrival_lower, kept_for}
use Rattle.tw_atlas.proofs.ArrivalSteps.{offer-changes, offer-stays}
use Rattle.tw_atlas.proofs.arriving.offer.Goals as goal

pub returns : goal.returns
returns c =
    offer-changes c.keep.result c.args.stop.now c.args.number (kept_for c.args.best.now) (kept_for c.keep.new.best)
    (record { service = c.args.stop.now.from; step = c.args.stop.now.step; leg = c.args.number }) refl
    (sym (c.is_lower.ensures ∙ ap (is_arrival_lower c.args.stop.now.step) c.kept_of.ensures) ∙ c.if-not-is_lower.false)
    c.keep.ensures.here c.keep.ensures.others

pub returns-then-not-is_lower : goal.returns-then-not-is_lower
returns-then-not-is_lower c before count best =
    offer-stays before c.args.stop.now (kept_for c.args.best.now)
    (sym (c.is_lower.ensures ∙ ap (is_arrival_lower c.args.stop.now.step) c.kept_of.ensures) ∙ c.if-not-is_lower.true)
    best
