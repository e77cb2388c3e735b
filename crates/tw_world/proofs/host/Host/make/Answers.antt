use Rattle.std.proofs.Common.{refl}
use Rattle.tw_service.specs.Stands.{no_history}
use Rattle.tw_world.proofs.Opened.{made-only}
use Rattle.tw_world.proofs.host.Host.make.Goals as goal

pub returns-clause-holds : goal.returns-clause-holds
returns-clause-holds c =
    let served = rw c.in_ok-service.ensures.service at c.init.ensures.served in
    let rests = c.closed-disk.ensures.rests (no_history c.args.name) (served _ refl) in
    record { named = refl; counted = rests.0; stands = rests.1 }

pub service_of-requires : goal.service_of-requires
service_of-requires c = made-only c.new.result c.new.ensures.pages c.init.result c.init.ensures.taken
    c.init.ensures.answers
