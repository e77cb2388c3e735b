use Rattle.std.proofs.Common.{◌∙◌, ◌+◌, refl, sym, ap}
use Rattle.tw_atlas.specs.declared.atlas.Leg.{Leg}
use Rattle.tw_atlas.specs.Reaching.{target}
use Rattle.tw_atlas.proofs.CheckLaws.{none-better-more}
use Rattle.tw_atlas.proofs.checking.none_better.Goals as goal

pub loop-k-preserved : goal.loop-k-preserved
loop-k-preserved c =
    none-better-more c.args.legs.now c.loop-k.k (c.loop-k.k + 1) c.index-legs-k.result c.target.result
    c.args.arrival.now c.loop-k-test.true c.index-legs-k.is
    (c.target.ensures ∙ ap (λ (leg : Leg). target leg.hop) (sym c.index-legs-k.is)) refl
    (sym c.is_better-in-loop-k.ensures ∙ c.if-is_better-2.false)
    ∙ c.loop-k.invariant
