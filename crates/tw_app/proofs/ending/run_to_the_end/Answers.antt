use Rattle.tw_app.proofs.Endings.{ends_by}
use Rattle.tw_app.proofs.ending.run_to_the_end.Goals as goal

pub returns : goal.returns
returns g c =
    let followed = c.work-outcome in
    ends_by g.D.Disk.view g.met.D.Disk.only_now g.met.D.Disk.as_it_reads _ c.tell-status.result
    followed.result.outcome followed.ensures.comes c.tell-status.ensures.ends
