use Rattle.std.proofs.Common.{◌-◌, arith}
use Rattle.tw_disk.proofs.KeptPages.{zeros_before}
use Rattle.tw_disk.proofs.kept_page.zeros_from.Goals as goal

pub loop-size-preserved : goal.loop-size-preserved
loop-size-preserved c = record {
  most = omega arith;
  rest = zeros_before c.args.page.now (c.loop-size.size - c.args.piece) c.loop-size.size (omega arith)
      (c.are_zeros.ensures.0 c.if-are_zeros.true) c.loop-size.invariant.rest c.loop-size.invariant.most (omega arith);
}
