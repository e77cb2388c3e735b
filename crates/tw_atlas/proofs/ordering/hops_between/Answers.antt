use Rattle.std.proofs.Common.{◌∙◌, ◌++◌, List, ap, sym}
use Rattle.std.specs.Prelude.{map}
use Rattle.std.proofs.lemmas.List.{append-nil}
use Rattle.tw_base.specs.declared.history.thread.Key.{Key}
use Rattle.tw_atlas.specs.HopEnds.{hop_between}
use Rattle.tw_atlas.proofs.EndsLaws.{hops-between}
use Rattle.tw_atlas.proofs.ordering.hops_between.Goals as goal

pub returns : goal.returns
returns c given are =
    sym (append-nil c.loop-ends.hops.items)
    ∙ ap (λ (rest : List (Key × Key)). c.loop-ends.hops.items ++ map (λ (ends : Key × Key). hop_between ends.0 ends.1)
    rest) (sym c.in-None.ensures.steps.0)
    ∙ c.loop-ends.invariant
    ∙ ap (λ (es : List ((Key × Key) × Unit {0})). map (λ (ends : Key × Key). hop_between ends.0 ends.1)
    (map (λ (e : (Key × Key) × Unit {0}). e.0) es)) are
    ∙ hops-between given
