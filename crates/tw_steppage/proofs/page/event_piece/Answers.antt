use Rattle.std.proofs.Common.{◌≡◌, ◌+◌, ◌-◌, ℕ, ap, ◌∙◌, take, drop, arith}
use Rattle.tw_steppage.proofs.page.event_piece.Goals as goal

pub returns : goal.returns
returns c = ap (λ (n : ℕ). take n (drop 11 c.args.bytes.now)) (let e : 11 + c.args.count - 11 ≡ c.args.count =
    omega arith in e)
