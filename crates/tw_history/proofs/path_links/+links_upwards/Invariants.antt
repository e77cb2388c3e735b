use Rattle.std.proofs.Common.{◌-◌}
use Rattle.tw_history.proofs.path_links.+links_upwards.Given as goal

abbrev pub decreases-links_upwards : goal.decreases-links_upwards
decreases-links_upwards g l = l.from - l.to
