use Rattle.std.proofs.Common.{arith}
use Rattle.tw_base.proofs.lemmas.kinds.ByteLemmas.{AreBytes-from}
use Rattle.tw_steppage.proofs.page.event_page.Goals as goal

pub returns-clause-bytes : goal.returns-clause-bytes
returns-clause-bytes c = AreBytes-from c.args.piece.now (λ i. omega (arith, c.type_inv.piece i))
