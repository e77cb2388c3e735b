use Rattle.std.proofs.Common.{arith}
use Rattle.tw_skipproof.proofs.Greedy.{few_links}
use Rattle.tw_skiplist.proofs.reading.way_to.Goals as goal

pub returns-clause-bound : goal.returns-clause-bound
returns-clause-bound g c = λ digits under. few_links c.in_ok-way.way.links c.args.n c.args.i digits (omega arith) under
    c.in_ok-way.ensures.shape
