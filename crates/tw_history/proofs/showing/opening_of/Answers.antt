use Rattle.std.proofs.Common.{◌≡◌, ◌-◌, ◌+◌, arith}
use Rattle.tw_history.proofs.Passes.{IsOfStep-count}
use Rattle.tw_history.proofs.showing.opening_of.Goals as goal

pub opening_with-requires : goal.opening_with-requires
opening_with-requires g c =
    let same : c.args.step - 1 + 1 ≡ c.args.step = omega (arith, c.requires.from_1) in
    let count = IsOfStep-count g.H.Hasher.dig c.args.history.now c.args.step (c.args.step - 1 + 1) c.in_ok-passed.passed
    same c.in_ok-passed.ensures.step in omega (arith, count)
