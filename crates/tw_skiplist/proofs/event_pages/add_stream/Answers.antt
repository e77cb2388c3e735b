use Rattle.std.proofs.Common.{arith, refl}
use Rattle.tw_disk.proofs.ReadingLaws.{only_reads_itself}
use Rattle.tw_skiplist.proofs.PieceCounts.{pieces-begin}
use Rattle.tw_skiplist.proofs.event_pages.add_stream.Goals as goal

pub loop-number-init : goal.loop-number-init
loop-number-init g c = record {
  reads = record {
    on = λ ps told. pieces-begin ps c.args.at.now c.args.into.now;
    kept = only_reads_itself g.P.Pages.view g.P.Pages.same _ _ (g.met.P.Pages.same_itself _);
    later = omega arith;
  };
  page = omega (arith, c.page_range.ensures);
  last = refl;
  few = omega arith;
  grown = omega arith;
}
