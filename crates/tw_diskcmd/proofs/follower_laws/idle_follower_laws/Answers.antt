use Rattle.sha2.specs.Sha256.{sha256}
use Rattle.tw_follow.specs.Stands.{root_kind}
use Rattle.tw_diskcmd.proofs.StoreAtRest.{left_keeps}
use Rattle.tw_diskcmd.specs.FollowerDisks.{IsImageOfHeads}
use Rattle.tw_diskcmd.proofs.follower_laws.idle_follower_laws.Goals as goal

pub returns : goal.returns
returns g c = record { kept = left_keeps (root_kind sha256) IsImageOfHeads g.D.Disk.view }
