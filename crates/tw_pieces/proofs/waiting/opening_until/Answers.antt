use Rattle.std.proofs.Common.{arith}
use Rattle.tw_base.proofs.lemmas.kinds.ByteLemmas.{AreBytes-from}
use Rattle.tw_pieces.proofs.Waits.{opening-waits}
use Rattle.tw_pieces.proofs.waiting.opening_until.Goals as goal

pub returns-in-Ok : goal.returns-in-Ok
returns-in-Ok c =
    opening-waits c.args.least c.args.step c.args.held.now c.take_roots.new.at _ c.in-Ok.field-0 c.requires.least
    (AreBytes-from c.args.held.now (λ i. omega (arith, c.type_inv.held i)))
    c.in-Ok.ensures.0 (omega (arith, c.top_level.ensures))
