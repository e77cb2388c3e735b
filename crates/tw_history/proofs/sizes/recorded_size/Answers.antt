use Rattle.std.proofs.Common.{arith}
use Rattle.tw_history.proofs.ByteCounts.{recorded-size}
use Rattle.tw_history.proofs.sizes.recorded_size.Goals as goal

pub returns-clause-size : goal.returns-clause-size
returns-clause-size c =
    omega (arith, recorded-size c.args.time c.args.content.now, c.time_size.ensures.size, c.content_size.ensures.size)
