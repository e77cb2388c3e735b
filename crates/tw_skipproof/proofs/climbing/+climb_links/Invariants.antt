use Rattle.std.proofs.Common.{length}
use Rattle.tw_skipproof.proofs.climbing.+climb_links.Given as goal

abbrev pub decreases-climb_links : goal.decreases-climb_links
decreases-climb_links g l = length l.links.now
