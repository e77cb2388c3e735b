use Rattle.tw_diskcmd.proofs.AtRest.{left_keeps}
use Rattle.tw_diskcmd.proofs.laws.idle_laws.Goals as goal

pub returns : goal.returns
returns g c = record { kept = left_keeps g.D.Disk.view }
