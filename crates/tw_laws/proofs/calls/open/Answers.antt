use Rattle.tw_laws.proofs.AnsweredCalls.{opened}
use Rattle.tw_laws.proofs.calls.open.Goals as goal

pub returns : goal.returns
returns g c = opened g.H.Hasher.dig g.D.Disk.view c.args.disk _ c.open.ensures.served c.open.ensures.unchanged
    c.open.ensures.any_moment c.open.ensures.any_moment_err
