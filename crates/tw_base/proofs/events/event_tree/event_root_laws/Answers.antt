use Rattle.tw_base.proofs.lemmas.events.EventTrees.{event_root-more, event_root-none, event_root-one}
use Rattle.tw_base.proofs.lemmas.events.EventTrees.{largest_power_below-is, length-event_root}
use Rattle.tw_base.proofs.events.event_tree.event_root_laws.Goals as goal

pub returns : goal.returns
returns g c = record {
  none = event_root-none g.H.Hasher.dig;
  one = event_root-one g.H.Hasher.dig;
  more = event_root-more g.H.Hasher.dig;
  split = λ n more. let k = largest_power_below-is n more in (k.0, k.1, k.2.below, k.2.next);
  size = length-event_root g.H.Hasher.dig g.met.H.Hasher.size;
}
