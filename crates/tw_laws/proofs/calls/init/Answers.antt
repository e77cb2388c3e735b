use Rattle.tw_laws.proofs.AnsweredCalls.{spared}
use Rattle.tw_laws.proofs.calls.init.Goals as goal

pub returns-clause-held : goal.returns-clause-held
returns-clause-held g c = λ image of h told stands. spared g.H.Hasher.dig g.D.Disk.view c.args.disk _ image of h told
    stands (c.init.ensures.exact image told) (c.init.ensures.held image told)
