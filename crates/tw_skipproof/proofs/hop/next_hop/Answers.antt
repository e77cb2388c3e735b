use Rattle.std.proofs.Common.{arith}
use Rattle.tw_skipproof.proofs.Greedy.{few_links, hop_level-greedy}
use Rattle.tw_skipproof.proofs.hop.next_hop.Goals as goal

pub returns-clause-greedy : goal.returns-clause-greedy
returns-clause-greedy c = rw c.level_of_hop.ensures.level (hop_level-greedy c.args.from c.args.to c.requires.below
    (omega (arith, c.requires.step)))

pub returns-clause-few_links : goal.returns-clause-few_links
returns-clause-few_links c = λ links digits below shape. few_links links c.args.from c.args.to digits
    (omega (arith, c.requires.step)) below shape
