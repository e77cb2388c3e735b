use Rattle.std.proofs.Common.{rules}
use Rattle.std.specs.Ordering.{is_lt}
use Rattle.std.proofs.lemmas.List.Sorted.{IsPartitionPoint-from_clause}
use Rattle.tw_base.specs.history.Entries.{key_cmp}
use Rattle.tw_base.specs.declared.history.report.Hop.{Hop}
use Rattle.tw_atlas.specs.Reaching.{source}
use Rattle.tw_atlas.proofs.StopOrder.{partitioned}
use Rattle.tw_atlas.proofs.rounds.first_from.Goals as goal

pub returns-clause-split : goal.returns-clause-split
returns-clause-split c =
    IsPartitionPoint-from_clause (λ (hop : Hop). is_lt (key_cmp (source hop) c.args.stop.now)) c.args.hops.now
    c.partition_point.result c.partition_point.ensures.partitioned
    (partitioned c.args.hops.now c.args.stop.now c.requires) (λ a r f k. search rules)
