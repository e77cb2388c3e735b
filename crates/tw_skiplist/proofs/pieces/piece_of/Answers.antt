use Rattle.std.proofs.Common.{◌≡◌, ◌-◌, ◌*◌, ap, ◌∙◌, length, take, drop, arith, length-drop}
use Rattle.std.proofs.lemmas.List.{take_all}
use Rattle.tw_skiplist.proofs.Streams.{taken}
use Rattle.tw_skiplist.proofs.pieces.piece_of.Goals as goal
use Rattle.tw_steppage.specs.declared.limits.TheConstants.{MOST_PIECE_BYTES}

pub returns-clause-piece : goal.returns-clause-piece
returns-clause-piece c =
    let from = MOST_PIECE_BYTES * c.args.number in
    let rest = drop from c.args.stream.now in
    let size : length c.args.stream.now - from ≡ length rest = omega (arith, length-drop from c.args.stream.now) in
    let whole : take (length c.args.stream.now - from) rest ≡ rest = take_all (length c.args.stream.now - from) rest
    (omega (arith, size)) in
    (λ i. take (c.min.ensures i) (whole i)) ∙ taken rest (length (take (length c.args.stream.now - from) rest))
    (ap length whole)
