use Rattle.std.proofs.Common.{subst, sym}
use Rattle.tw_disk.specs.Disk.{IsAtRest}
use Rattle.tw_pages.specs.Records.{IsWritten}
use Rattle.tw_pages.proofs.Written.{rest_for_good}
use Rattle.tw_pages.proofs.recorded.Recorded.close.Goals as goal

pub returns-clause-rests : goal.returns-clause-rests
returns-clause-rests g c = λ dig w rest.
    let d = g.D.Disk in
    subst (λ disk. IsAtRest (d.view disk) (IsWritten (g.R.Record.kind dig) w)) (sym c.close.ensures)
    (rest_for_good d.view (g.R.Record.kind dig) c.args.self.store w rest)
