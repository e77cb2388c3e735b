use Rattle.tw_follow.proofs.DiskRunning.{from_first}
use Rattle.tw_follow.proofs.disk_laws.disk_run_laws.Goals as goal

pub returns : goal.returns
returns g c =
    record {
      runs = λ disk first run like is leads. from_first g.H.Hasher.dig g.D.Disk.view g.met.D.Disk.only_now disk first
          run is leads;
    }
