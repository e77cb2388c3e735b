use Rattle.std.proofs.Common.{◌-◌, ◌≤◌, length, take}
use Rattle.tw_outside.specs.TakenBytes.{Appends}
use Rattle.tw_outside.proofs.writing.write_all.Given as goal

abbrev pub invariant-loop-written : goal.invariant-loop-written
invariant-loop-written g l = record {
  within : l.written ≤ length l.text;
  appends : Appends (g.S.Sink.taken l.fn.sink) (g.S.Sink.taken l.sink) (take l.written l.text);
  later : g.S.Sink.faults l.fn.sink ≤ g.S.Sink.faults l.sink;
}

abbrev pub decreases-loop-written : goal.decreases-loop-written
decreases-loop-written g l = length l.text - l.written
