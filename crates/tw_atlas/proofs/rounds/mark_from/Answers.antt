use Rattle.std.proofs.Common.{◌≡◌, ◌≢◌, ◌∙◌, List, Option, Some, None, true, ℕ, get_or, set, take, sym, ap}
use Rattle.tw_base.specs.declared.history.report.Hop.{Hop}
use Rattle.tw_atlas.specs.Reaching.{goes_on_from}
use Rattle.tw_atlas.specs.Rounds.{after_of}
use Rattle.tw_atlas.proofs.StopOrder.{has-mark, marks-begin, marks-end, marks-more, no-mark, stays-off}
use Rattle.tw_atlas.proofs.rounds.mark_from.Goals as goal
use Rattle.tw_atlas.proofs.rounds.mark_from.Goals.{then-is_some-via-then-is_some}
use Rattle.tw_atlas.proofs.rounds.mark_from.Goals.{then-is_some-via-else-is_some+then-not-goes_on}

pub loop-i-init : goal.loop-i-init
loop-i-init c =
    c.requires.marked ∙ sym (marks-begin c.args.stops.now c.args.number c.index-stops-number.result c.requires.within
    (sym c.index-stops-number.is) c.args.hops.now c.first_from-i.result
    c.first_from-i.ensures.split.0)

pub returns-then-is_some : goal.returns-then-is_some
returns-then-is_some c =
    let is = sym c.index-stops-number.is in
    let marked : (d : Hop) → goes_on_from c.index-stops-number.result (get_or c.args.hops.now c.loop-i.i d) ≡ true
    → after_of (take c.args.number c.args.stops.now) (get_or c.args.hops.now c.loop-i.i d) ≢ None =
    λ d on. elim c.then-is_some.branch [
      | then-is_some-via-then-is_some w ↦ has-mark c.args.stops.now c.args.number c.index-stops-number.result
          c.requires.within is c.args.hops.now c.loop-i.i d c.loop-i.marks c.loop-i.invariant
          c.loop-i-test.true (sym c.is_some.ensures ∙ w.if-is_some.true)
      | then-is_some-via-else-is_some+then-not-goes_on w ↦ absurd (stays-off c.args.stops.now c.args.number
          c.index-stops-number.result c.requires.within is c.args.hops.now c.loop-i.i d w.index-hops-i.result
          c.loop-i-test.true w.index-hops-i.is (sym w.goes_on.ensures ∙ w.if-not-goes_on.true) on)
    ] in
    c.loop-i.invariant ∙ marks-end c.args.stops.now c.args.number c.index-stops-number.result c.requires.within is
    c.args.hops.now c.loop-i.i c.first_from-i.result c.requires.ordered c.loop-i-test.true
    c.loop-i.auto.i c.first_from-i.ensures.split.1 marked

pub loop-i-preserved : goal.loop-i-preserved
loop-i-preserved c =
    let is = sym c.index-stops-number.is in
    ap (λ (ms : List (Option ℕ)). set ms c.loop-i.i (Some c.args.number)) c.loop-i.invariant
    ∙ marks-more c.args.stops.now c.args.number c.index-stops-number.result c.requires.within is c.args.hops.now
    c.loop-i.i c.index-hops-i.result c.loop-i-test.true (sym c.index-hops-i.is)
    (no-mark c.args.stops.now c.args.number c.index-stops-number.result c.requires.within is c.args.hops.now c.loop-i.i
    c.index-hops-i.result c.loop-i.marks c.loop-i.invariant c.loop-i-test.true
    (sym c.index-hops-i.is) (sym c.is_some.ensures ∙ c.if-is_some.false))
    (sym c.goes_on.ensures ∙ c.if-not-goes_on.false)
