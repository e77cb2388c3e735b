use Rattle.tw_generate.proofs.Results.{disk-only, if-ok}
use Rattle.tw_generate.proofs.telling.make.Goals as goal

pub returns : goal.returns
returns g c = λ image is. if-ok c.service_made.result (λ service made.
    let served = rw made at c.init.ensures.served in
    let thread = rw made at c.init.ensures.thread in
    (served image is, thread.2)) c.service_made.ensures.value

pub service_made-requires : goal.service_made-requires
service_made-requires g c =
    disk-only (g.D.Disk.view c.args.disk).content c.requires.0 c.init.result c.requires.1 c.requires.2
    c.init.ensures.taken c.init.ensures.answers
