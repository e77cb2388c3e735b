use Rattle.std.proofs.Common.{◌≤◌, length, arith}
use Rattle.std.proofs.lemmas.Grind.{common_steps}
use Rattle.std.proofs.lemmas.List.{take-append-le}
use Rattle.tw_filecmd.proofs.FedPieces.{fed_more}
use Rattle.tw_filecmd.proofs.feeding.feed_piece.Goals as goal

pub returns-clause-fed : goal.returns-clause-fed
returns-clause-fed g c anchors strict =
    let fits : c.in_ok-came.came ≤ length c.read.new.into = omega (arith, c.in_ok-came.ensures.within) in
    fed_more (g.I.Inputs.told c.args.inputs.now) c.args.proof.now anchors strict c.args.verifier.now c.feed.new.self
    c.args.at c.in_ok-came.came
    _ c.read.new.into (λ pieces fed. c.in_ok-feed.ensures.fed anchors strict pieces fed) (c.in_ok-feed.ensures.unspent)
    fits
    (grind (arith, common_steps, take-append-le)) (λ bytes tells. c.in_ok-came.ensures.came bytes tells)
