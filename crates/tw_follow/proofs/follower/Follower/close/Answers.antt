use Rattle.std.proofs.Common.{subst, sym}
use Rattle.tw_disk.specs.Disk.{IsAtRest}
use Rattle.tw_pages.specs.Records.{written_record}
use Rattle.tw_pages.proofs.States.{serves_for_good}
use Rattle.tw_follow.specs.Stands.{KeepsList, StandsFor, root_kind}
use Rattle.tw_follow.proofs.follower.Follower.close.Goals as goal

pub returns-clause-stands : goal.returns-clause-stands
returns-clause-stands g c = λ k serves.
    let d = g.D.Disk in
    let s = c.args.self in
    subst (λ disk. IsAtRest (d.view disk) (λ i. StandsFor g.H.Hasher.dig i k)) (sym c.close.ensures.disk)
    (serves_for_good (root_kind g.H.Hasher.dig) KeepsList d.view s.recorded.store s.recorded.root k serves)

pub returns-clause-over : goal.returns-clause-over
returns-clause-over g c = λ ps over. c.close.ensures.rests g.H.Hasher.dig (written_record c.args.self.recorded.root ps)
    over
