use Rattle.std.proofs.Common.{◌≡◌, ◌∙◌, ◌+◌, ◌++◌, List, Option, ℕ, length, take, drop, arith, ap, sym, subst}
use Rattle.std.specs.Prelude.{map}
use Rattle.std.proofs.Math.Seq.{take-append_seam}
use Rattle.tw_base.specs.declared.history.thread.Key.{Key}
use Rattle.tw_atlas.specs.declared.atlas.Leg.{Leg}
use Rattle.tw_atlas.specs.Reaching.{target}
use Rattle.tw_atlas.specs.Rounds.{after_of, left_over, round_of_hops}
use Rattle.tw_atlas.proofs.RoundSteps.{SoFar, so-far-all, so-far-few, so-far-more, so-far-none, so-far-still}
use Rattle.tw_atlas.proofs.rounds.legs_in_rounds.Goals as goal

pub loop-i-init : goal.loop-i-init
loop-i-init c = record {
  so_far = so-far-none c.args.start c.args.hops.now c.in_ok-listed.listed.legs c.in_ok-listed.listed.stops.items
      c.in_ok-listed.ensures.legs c.in_ok-listed.ensures.stops;
  marked = c.in_ok-marks.ensures;
}

pub returns-then-first-count : goal.returns-then-first-count
returns-then-first-count c =
    let s = c.loop-i.invariant.so_far in
    let at : List Key = c.loop-i.listed.stops.items in
    let all : c.loop-i.first ≡ length at = c.if-first-count.true ∙ c.len-count.ensures ∙ c.loop-i.listed.stops.ok.0 in
    record {
      legs = so-far-still (length c.args.hops.now) c.loop-i._i c.args.start c.args.hops.now c.loop-i.listed.legs at
          c.loop-i.first all s;
      stops = s.are_stops;
      few = so-far-few (length c.args.hops.now) c.loop-i._i c.args.start c.args.hops.now c.loop-i.listed.legs at
          c.loop-i.first s;
    }

pub loop-i-preserved : goal.loop-i-preserved
loop-i-preserved c =
    let s = c.loop-i.invariant.so_far in
    let at : List Key = c.loop-i.listed.stops.items in
    let more : List Leg = round_of_hops at (left_over (take c.loop-i.first at) c.args.hops.now) in
    let targets : List Key = map (λ (leg : Leg). target leg.hop) more in
    let count : length at ≡ c.len-count.result = sym (c.len-count.ensures ∙ c.loop-i.listed.stops.ok.0) in
    let size : c.loop-i.marks.len ≡ length c.mark_from_all.new.marks =
    sym (c.mark_from_all.auto.marks ∙ c.deref_mut.ensures.len) in
    let rest : List (Option ℕ) = drop (length c.mark_from_all.new.marks) c.loop-i.marks.items in
    let seam : take c.loop-i.marks.len (c.mark_from_all.new.marks ++ rest) ≡ c.mark_from_all.new.marks =
    ap (λ (n : ℕ). take n (c.mark_from_all.new.marks ++ rest)) size ∙ take-append_seam c.mark_from_all.new.marks rest in
    let front : take c.len-count.result c.list_marked.new.listed.stops.items ≡ at =
    ap (take c.len-count.result) c.in_ok-list_marked.ensures.stops ∙ ap (λ (n : ℕ). take n (at ++ targets)) (sym count)
    ∙ take-append_seam at targets in
    record {
      so_far = subst (λ (n : ℕ). SoFar (length c.args.hops.now) (c.loop-i._i + 1) c.args.start c.args.hops.now
          c.list_marked.new.listed.legs c.list_marked.new.listed.stops.items n) count
          (so-far-more (length c.args.hops.now) c.loop-i._i c.args.start c.args.hops.now c.loop-i.listed.legs at
          c.loop-i.first c.loop-i-test.true s
          c.list_marked.new.listed.legs c.list_marked.new.listed.stops.items c.in_ok-list_marked.ensures.legs
          c.in_ok-list_marked.ensures.stops);
      marked = seam ∙ c.mark_from_all.ensures ∙ ap (λ (ks : List Key). map (after_of ks) c.args.hops.now)
          (c.deref.ensures.value ∙ sym front);
    }

pub returns : goal.returns
returns c =
    let s = c.loop-i.invariant.so_far in
    let end : c.loop-i._i ≡ length c.args.hops.now = omega (arith, c.loop-i-test.false, c.loop-i.auto._i-end) in
    record {
      legs = so-far-all (length c.args.hops.now) c.loop-i._i c.args.start c.args.hops.now c.loop-i.listed.legs
          c.loop-i.listed.stops.items c.loop-i.first end s;
      stops = s.are_stops;
      few = so-far-few (length c.args.hops.now) c.loop-i._i c.args.start c.args.hops.now c.loop-i.listed.legs
          c.loop-i.listed.stops.items c.loop-i.first s;
    }
