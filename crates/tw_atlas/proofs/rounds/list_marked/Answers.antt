use Rattle.std.proofs.Common.{◌∙◌, ◌++◌, List, None, get_or, take, sym, ap, append_assoc}
use Rattle.std.specs.Prelude.{map}
use Rattle.tw_base.specs.declared.history.thread.Key.{Key}
use Rattle.tw_atlas.specs.declared.atlas.Leg.{Leg}
use Rattle.tw_atlas.specs.Marking.{marked_leg}
use Rattle.tw_atlas.specs.Reaching.{target}
use Rattle.tw_atlas.specs.Rounds.{left_over, round_of_hops}
use Rattle.tw_atlas.proofs.MarkLaws.{list-more}
use Rattle.tw_atlas.proofs.RoundLaws.{map-append}
use Rattle.tw_atlas.proofs.rounds.list_marked.Goals as goal

pub loop-i-preserved : goal.loop-i-preserved
loop-i-preserved c =
    let at : List Key = c.args.listed.now.stops.items in
    let before : List Leg = round_of_hops at (left_over (take c.args.first at) (take c.loop-i.i c.args.hops.now)) in
    let one : List Leg = marked_leg c.args.first (get_or c.args.marks.now c.loop-i.i None) c.index-hops-i.result in
    let more = list-more at c.args.first c.loop-i.i c.args.hops.now c.index-hops-i.result c.args.marks.now
    c.requires.first c.loop-i-test.true c.index-hops-i.is c.requires.marked in
    record {
      legs = c.in_ok-list.ensures.legs ∙ ap (λ (ls : List Leg). ls ++ one) c.loop-i.invariant.legs ∙ append_assoc
          c.args.listed.now.legs before one
          ∙ ap (λ (ls : List Leg). c.args.listed.now.legs ++ ls) more;
      stops = c.in_ok-list.ensures.stops ∙ ap (λ (ks : List Key). ks ++ map (λ (leg : Leg). target leg.hop) one)
          c.loop-i.invariant.stops
          ∙ append_assoc at (map (λ (leg : Leg). target leg.hop) before) (map (λ (leg : Leg). target leg.hop) one)
          ∙ ap (λ (ks : List Key). at ++ ks) (sym (map-append (λ (leg : Leg). target leg.hop) before one)
          ∙ ap (λ (ls : List Leg). map (λ (leg : Leg). target leg.hop) ls) more);
    }
