use Rattle.tw_app.proofs.Completeness.{whole}
use Rattle.tw_app.proofs.complete.answered_laws.Goals as goal

pub returns : goal.returns
returns g c =
    record {
      whole = λ a status all run. whole g.D.Disk.view g.met.D.Disk.only_now g.met.D.Disk.as_it_reads a status all run;
    }
