use Rattle.tw_laws.proofs.TurnLaws.{acknowledged_stay, one_authenticator}
use Rattle.tw_laws.proofs.published.published_laws.Goals as goal

pub returns : goal.returns
returns g c =
    record {
      runs = λ disk first moves of starts turns. one_authenticator g.D.Disk.view g.met.D.Disk.only_now
          g.met.D.Disk.as_it_reads disk first moves starts turns;
      steps = λ disk first moves of starts turns. acknowledged_stay g.D.Disk.view g.met.D.Disk.only_now
          g.met.D.Disk.as_it_reads disk first moves starts turns;
    }
