use Rattle.tw_laws.proofs.FollowerTurnLaws.{lists_rise, moves_offered, no_head_lost, no_list_lost}
use Rattle.tw_laws.proofs.followed.followed_laws.Goals as goal

pub returns : goal.returns
returns g c =
    record {
      runs = λ disk first runs is leads. no_head_lost g.D.Disk.view g.met.D.Disk.only_now g.met.D.Disk.as_it_reads disk
          first runs is leads;
      rises = λ disk first runs is leads. lists_rise g.D.Disk.view g.met.D.Disk.only_now g.met.D.Disk.as_it_reads disk
          first runs is leads;
      lists = λ disk first runs is leads. no_list_lost g.D.Disk.view g.met.D.Disk.only_now g.met.D.Disk.as_it_reads disk
          first runs is leads;
      offered = λ disk first runs is leads. moves_offered g.D.Disk.view g.met.D.Disk.only_now g.met.D.Disk.as_it_reads
          disk first runs is leads;
    }
