use Rattle.tw_generate.proofs.AskedCalls.{asked}
use Rattle.tw_generate.proofs.Results.{if-ok}
use Rattle.tw_generate.proofs.Unrefused.{asked-fails}
use Rattle.tw_generate.proofs.telling.answered.Goals as goal

pub returns-clause-asked : goal.returns-clause-asked
returns-clause-asked g c = λ h plays.
    if-ok c.given.result (λ bytes is. asked g.H.Hasher.dig g.D.Disk.view c.args.service.now c.ask.new.self h plays
    c.args.question.now c.ask.result bytes c.ask.ensures is) c.given.ensures.value

pub returns-clause-accepted : goal.returns-clause-accepted
returns-clause-accepted g c = λ h plays. if-ok c.given.result (λ bytes is. let accepted =
    rw is at c.ask.ensures.accepted in accepted h plays.0) c.given.ensures.value

pub given-requires : goal.given-requires
given-requires g c =
    let t = c.requires.takes in
    asked-fails g.H.Hasher.dig g.D.Disk.view c.args.service.now c.ask.new.self t.0 t.1 c.args.question.now c.ask.result
    t.2 c.ask.ensures
