use Rattle.std.proofs.Common.{subst, sym}
use Rattle.tw_disk.specs.Disk.{IsAtRest}
use Rattle.tw_pages.specs.Records.{written_record}
use Rattle.tw_service.specs.Stands.{StandsFor}
use Rattle.tw_service.proofs.Serving.{rest_for_good}
use Rattle.tw_service.proofs.service.Service.close.Goals as goal

pub returns-clause-stands : goal.returns-clause-stands
returns-clause-stands g c = λ h served.
    let d = g.D.Disk in
    let s = c.args.self.recorded.kept in
    subst (λ disk. IsAtRest (d.view disk) (λ i. StandsFor g.H.Hasher.dig i s.root.name h)) (sym c.close.ensures.disk)
    (rest_for_good d.view g.met.D.Disk.only_now g.H.Hasher.dig s.store s.root h served)

pub returns-clause-over : goal.returns-clause-over
returns-clause-over g c = λ ps over. c.close.ensures.rests g.H.Hasher.dig (written_record c.args.self.recorded.kept.root
    ps) over
