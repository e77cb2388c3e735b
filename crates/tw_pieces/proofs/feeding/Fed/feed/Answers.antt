use Rattle.std.proofs.Common.{sym, arith}
use Rattle.std.proofs.lemmas.List.{length-append}
use Rattle.tw_pieces.proofs.PieceLaws.{broken-more}
use Rattle.tw_pieces.proofs.feeding.Fed.feed.Goals as goal

pub returns-in-Ok-clause-fed : goal.returns-in-Ok-clause-fed
returns-in-Ok-clause-fed g c = λ whole pieces fed.
    let was = rw (sym c.in-Reading.ensures.value) at fed in
    c.in-Ok.ensures whole pieces was.0

pub returns-in-Err-Malformed-clause-fed : goal.returns-in-Err-Malformed-clause-fed
returns-in-Err-Malformed-clause-fed g c = λ whole pieces fed.
    let was = rw (sym c.in-Reading.ensures.value) at fed in
    rw c.in-Err-Malformed.field-0-is at c.in-Err-Malformed.ensures whole pieces was.0

pub returns-in-Broken-clause-fed : goal.returns-in-Broken-clause-fed
returns-in-Broken-clause-fed g c = λ whole pieces fed.
    let was = rw (sym c.in-Broken.ensures.value) at fed in (
      omega (arith, was.0, length-append pieces c.args.piece.now),
      (broken-more whole pieces c.args.piece.now c.in-Broken.place was.1 was.0).1,
    )
