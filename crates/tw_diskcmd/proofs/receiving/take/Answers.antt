use Rattle.std.proofs.Common.{ℕ, subst}
use Rattle.std.specs.Prelude.{Option}
use Rattle.sha2.specs.Sha256.{sha256}
use Rattle.tw_service.specs.Adding.{Receives}
use Rattle.tw_diskcmd.proofs.receiving.take.Goals as goal

pub returns : goal.returns
returns g c =
    subst (λ (time : Option ℕ). Receives sha256 g.D.Disk.view c.args.message.now time c.args.service.now
    c.take.new.self c.take.result) c.seconds_of.ensures.value c.take.ensures
