use Rattle.std.proofs.Common.{length, refl, ap, arith}
use Rattle.tw_base.proofs.lemmas.kinds.ByteLemmas.{AreBytes-from}
use Rattle.tw_pieces.proofs.PieceLaws.{so_far-waits}
use Rattle.tw_pieces.proofs.resumed.Resumed.feed.Goals as goal

pub returns-then-len-until : goal.returns-then-len-until
returns-then-len-until g c = λ whole pieces s.
    let e = c.in_ok-extend_from_slice.ensures.ok in
    so_far-waits g.S.Segments.rest whole c.args.self _ pieces c.args.piece.now refl e refl refl
    (AreBytes-from c.args.piece.now (λ i. omega (arith, c.type_inv.piece i)))
    (omega (arith, c.if-len-until.true, c.len.ensures, ap length e)) s
