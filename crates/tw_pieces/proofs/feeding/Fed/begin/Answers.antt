use Rattle.std.proofs.Common.{[]}
use Rattle.tw_pieces.proofs.PieceLaws.{so_far-front}
use Rattle.tw_pieces.proofs.feeding.Fed.begin.Goals as goal

pub returns-clause-fed : goal.returns-clause-fed
returns-clause-fed g c = λ stays.
    let s = c.begin.ensures stays in
    (s, so_far-front g.S.Segments.rest (g.S.Segments.rest c.args.state) c.begin.result [] s)
