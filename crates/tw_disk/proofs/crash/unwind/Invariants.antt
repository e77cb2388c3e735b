use Rattle.std.proofs.Common.{◌≡◌, vec_len}
use Rattle.tw_disk.specs.KeptCalls.{AllFit, written_of}
use Rattle.tw_disk.proofs.crash.unwind.Given as goal

abbrev pub invariant-loop-call : goal.invariant-loop-call
invariant-loop-call l = record {
  fits : AllFit l.calls.items l.pages.items;
  settled : (written_of l.calls.items l.pages.items).settled
      ≡ (written_of l.initial.calls.items l.initial.pages.items).settled;
}

abbrev pub decreases-loop-call : goal.decreases-loop-call
decreases-loop-call l = vec_len l.calls
