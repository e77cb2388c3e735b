use Rattle.tw_outside.specs.TakenBytes.{IsUnchanged}
use Rattle.tw_hostio.proofs.host_sink.write_some.Given as goal

abbrev pub invariant-loop : goal.invariant-loop
invariant-loop g l = IsUnchanged (g.O.OutputStream.taken l.fn.output) (g.O.OutputStream.taken l.output)
