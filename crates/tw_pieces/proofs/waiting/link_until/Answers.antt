use Rattle.std.proofs.Common.{arith}
use Rattle.tw_base.proofs.lemmas.kinds.ByteLemmas.{AreBytes-from}
use Rattle.tw_pieces.proofs.Waits.{link-waits}
use Rattle.tw_pieces.proofs.waiting.link_until.Goals as goal

pub returns : goal.returns
returns c = link-waits c.args.step c.args.held.now _ (omega (arith, c.top_level.ensures))
    (AreBytes-from c.args.held.now (λ i. omega (arith, c.type_inv.held i)))
