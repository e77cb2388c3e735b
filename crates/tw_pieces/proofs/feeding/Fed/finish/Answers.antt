use Rattle.tw_pieces.proofs.PieceLaws.{broken-spells_nothing}
use Rattle.tw_pieces.proofs.feeding.Fed.finish.Goals as goal

pub returns-in-Broken-clause-whole : goal.returns-in-Broken-clause-whole
returns-in-Broken-clause-whole g c = λ whole pieces fed.
    let was = rw c.in-Broken.is at fed in
    (broken-spells_nothing whole pieces c.in-Broken.place was.1 was.0, was.1)
