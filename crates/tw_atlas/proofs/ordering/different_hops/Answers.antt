use Rattle.std.proofs.Common.{◌∙◌, List, ap}
use Rattle.tw_base.specs.declared.history.report.Hop.{Hop}
use Rattle.tw_atlas.specs.HopEnds.{hop_entries}
use Rattle.tw_atlas.specs.Rounds.{ordered}
use Rattle.tw_atlas.proofs.ordering.different_hops.Goals as goal

pub returns : goal.returns
returns c =
    c.hops_between.ensures (ordered c.args.hops.now)
    (c.in_ok-all.ensures ∙ ap (λ (hs : List Hop). hop_entries (ordered hs)) c.as_slice.ensures)
