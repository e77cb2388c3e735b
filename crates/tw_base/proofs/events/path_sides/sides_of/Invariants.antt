use Rattle.std.proofs.Common.{◌≡◌, ◌+◌, ◌<◌, ◌≤◌, ◌++◌, length, reverse}
use Rattle.tw_base.specs.events.AuditPath.{path_length, path_sides}
use Rattle.tw_base.proofs.events.path_sides.sides_of.Given as goal

abbrev pub invariant-loop-count : goal.invariant-loop-count
invariant-loop-count l = record {
  inside : l.index < l.count;
  few : l.count ≤ 1024;
  room : length l.sides.items + path_length l.count l.index ≤ 10;
  same : path_sides l.count l.index ++ reverse l.sides.items ≡ path_sides l.fn.count l.fn.index;
}

abbrev pub decreases-loop-count : goal.decreases-loop-count
decreases-loop-count l = l.count
