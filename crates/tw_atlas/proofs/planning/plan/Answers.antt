use Rattle.std.proofs.Common.{◌≡◌, ◌∙◌, List, [], length, ap, sym, subst}
use Rattle.std.specs.List.Sorted.{IsStrictlySortedBy}
use Rattle.tw_base.specs.declared.history.report.Hop.{Hop}
use Rattle.tw_base.specs.declared.history.thread.Key.{Key}
use Rattle.tw_atlas.specs.Atlases.{AreArrivals}
use Rattle.tw_atlas.specs.Rounds.{hop_cmp, ordered, rounds}
use Rattle.tw_atlas.proofs.HopOrder.{ordered-sorted}
use Rattle.tw_atlas.proofs.Planned.{planned}
use Rattle.tw_atlas.proofs.planning.plan.Goals as goal

pub legs_in_rounds-requires-clause-ordered : goal.legs_in_rounds-requires-clause-ordered
legs_in_rounds-requires-clause-ordered c =
    subst (IsStrictlySortedBy hop_cmp) (sym (c.deref.ensures.value ∙ c.in_ok-different.ensures))
    (ordered-sorted c.args.hops.now)

pub returns : goal.returns
returns c =
    let start : Key = record { from = c.args.from.now; step = c.args.step } in
    let hops : c.deref.result.now ≡ ordered c.args.hops.now = c.deref.ensures.value ∙ c.in_ok-different.ensures in
    planned c.args.hops.now start c.in_ok-planned.planned.legs c.in_ok-arrivals.arrivals
    (c.in_ok-planned.ensures.legs ∙ ap (λ (hs : List Hop). rounds (length hs) start [] hs) hops)
    (subst (λ (at : List Key). AreArrivals at c.in_ok-arrivals.arrivals)
    (c.deref-2.ensures.value ∙ c.in_ok-planned.ensures.stops) c.in_ok-arrivals.ensures)
