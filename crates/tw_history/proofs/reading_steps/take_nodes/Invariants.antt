use Rattle.std.proofs.Common.{◌≡◌, ◌+◌, ◌-◌, ◌<◌, ◌≤◌, ◌^◌, ◌++◌, length, map}
use Rattle.tw_base.specs.history.HistoryCodec.{node_codec}
use Rattle.tw_base.specs.kinds.Lists.{Each}
use Rattle.tw_base.proofs.lemmas.format.TakeLaws.{ManyTaken}
use Rattle.tw_history.specs.Tables.{added_behind, node_of}
use Rattle.tw_history.proofs.reading_steps.take_nodes.Given as goal

abbrev pub invariant-loop-i : goal.invariant-loop-i
invariant-loop-i l = record {
  within : l.at ≤ length l.bytes;
  taken : ManyTaken node_codec l.bytes l.fn.at l.count (l.count - l._i)
      (map node_of (added_behind l.initial.nodes l.nodes)) l.at;
  kept : l.nodes ≡ l.initial.nodes ++ added_behind l.initial.nodes l.nodes;
  count : length l.nodes ≡ length l.initial.nodes + l._i;
  entries : Each (λ n. n.entry < 2 ^ 64) l.nodes;
}
