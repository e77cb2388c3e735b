use Rattle.std.proofs.Common.{◌≡◌, ◌++◌, ◌∷◌, [], ◌∙◌, ◌+◌, List, length, take, sym, ap, subst, arith}
use Rattle.std.proofs.lemmas.List.{length-take, take_more}
use Rattle.tw_base.specs.declared.history.thread.Key.{Key}
use Rattle.tw_atlas.specs.BestSoFar.{AreBest, kept_for}
use Rattle.tw_atlas.proofs.arriving.best_arrivals.Goals as goal

pub loop-number-preserved : goal.loop-number-preserved
loop-number-preserved c =
    let stops : List Key = c.args.stops.now in
    let stop : Key = c.index-stops-number.result in
    let within = c.loop-number-test.true in
    let more : take (c.loop-number.number + 1) stops ≡ take c.loop-number.number stops ++ stop ∷ [] =
    take_more stops c.loop-number.number stop within ∙ ap (λ (s : Key). take c.loop-number.number stops ++ s ∷ [])
    (sym c.index-stops-number.is) in
    let count : length (take c.loop-number.number stops) ≡ c.loop-number.number =
    omega (arith, length-take c.loop-number.number stops, within) in
    subst (λ (keys : List Key). AreBest keys (kept_for c.offer.new.best)) (sym more)
    (c.in_ok-offer.ensures (take c.loop-number.number stops) count c.loop-number.invariant)
