use Rattle.tw_verifier.proofs.ChainSteps.{closed-ended}
use Rattle.tw_verifier.proofs.chain.Chain.close.Goals as goal

pub returns : goal.returns
returns g c = λ anchors.
    rw (c.with_first-found.ensures anchors, c.reverse.ensures, c.reverse-2.ensures, c.seen.ensures)
    (closed-ended g.H.Hasher.dig anchors c.args.self c.args.tail)
