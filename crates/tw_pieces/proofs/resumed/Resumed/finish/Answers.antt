use Rattle.std.proofs.Common.{arith}
use Rattle.tw_pieces.proofs.PieceLaws.{ends-between, ends-held}
use Rattle.tw_pieces.proofs.resumed.Resumed.finish.Goals as goal

pub returns-then-len-gt0 : goal.returns-then-len-gt0
returns-then-len-gt0 g c = λ whole pieces s.
    ends-held g.S.Segments.rest whole c.args.self pieces s _ (omega (arith, c.len.ensures))
    (omega (arith, c.len-2.ensures, c.if-len-gt0.true))

pub returns : goal.returns
returns g c = λ whole pieces s.
    ends-between g.S.Segments.rest whole c.args.self pieces s _ (omega (arith, c.len.ensures))
    (omega (arith, c.len-2.ensures, c.if-len-gt0.false)) c.in-None.ensures
