use Rattle.tw_generate.proofs.AskedCalls.{appended-by}
use Rattle.tw_generate.proofs.Unrefused.{appended-fails}
use Rattle.tw_generate.proofs.telling.append.Goals as goal

pub returns : goal.returns
returns g c = λ h plays. appended-by g.H.Hasher.dig g.D.Disk.view c.args.service.now c.append.new.self h plays
    c.args.events.now c.append.result c.in_ok-given.field-0 c.append.ensures c.in_ok-given.ensures.value

pub given-requires : goal.given-requires
given-requires g c =
    let t = c.requires in
    appended-fails g.H.Hasher.dig g.D.Disk.view c.args.service.now c.append.new.self t.0 t.1 c.args.events.now
    c.append.result t.2 c.append.ensures
