use Rattle.std.proofs.Common.{arith}
use Rattle.tw_base.proofs.lemmas.kinds.ByteLemmas.{AreBytes-from}
use Rattle.tw_answers.proofs.limits.event_length.Goals as goal

pub returns-clause-bytes : goal.returns-clause-bytes
returns-clause-bytes c = AreBytes-from c.args.event.now (λ i. omega (arith, c.type_inv.event i))
