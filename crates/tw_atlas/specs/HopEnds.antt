-- A hop as the two steps of services that it joins, by which it is kept while hops are ordered.
use Rattle.std.specs.Prelude.{List, map}
use Rattle.tw_base.specs.declared.history.report.Hop.{Hop}
use Rattle.tw_base.specs.declared.history.thread.Key.{Key}
use Rattle.tw_atlas.specs.Reaching.{source, target}

abbrev pub ends_of : Hop → Key × Key
ends_of hop = (source hop, target hop)

abbrev pub hop_between : Key → Key → Hop
hop_between from to = record { from = from.from; step = from.step; by = to.from; archived = to.step }

-- the entries of a map that has the ends of these hops as its keys
abbrev pub hop_entries : List Hop → List ((Key × Key) × Unit {0})
hop_entries hops = map (λ hop. (ends_of hop, tt)) hops
