use Rattle.std.proofs.Common.{length}
use Rattle.tw_contradict.proofs.rules.+first_broken.Given as goal

abbrev pub decreases-first_broken : goal.decreases-first_broken
decreases-first_broken g l = length l.rules.now
