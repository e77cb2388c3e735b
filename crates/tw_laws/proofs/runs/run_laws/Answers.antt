use Rattle.tw_laws.proofs.Wavering.{one_authenticator}
use Rattle.tw_laws.proofs.runs.run_laws.Goals as goal

pub returns : goal.returns
returns g c =
    record {
      runs = λ start name h run like is leads. one_authenticator g.H.Hasher.dig g.D.Disk.view name g.met.D.Disk.only_now
          start h run is leads;
    }
