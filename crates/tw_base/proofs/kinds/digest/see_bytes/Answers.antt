use Rattle.std.proofs.Common.{arith}
use Rattle.tw_base.proofs.lemmas.kinds.ByteLemmas.{AreBytes-from}
use Rattle.tw_base.proofs.kinds.digest.see_bytes.Goals as goal

pub returns : goal.returns
returns c = AreBytes-from c.args.bytes.now (λ i. omega (arith, c.type_inv.bytes i))
