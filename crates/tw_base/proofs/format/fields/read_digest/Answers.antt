use Rattle.std.proofs.Common.{arith}
use Rattle.tw_base.proofs.lemmas.format.FieldLaws.{bytes-short}
use Rattle.tw_base.proofs.format.fields.read_digest.Goals as goal

pub returns-then-bytes-at-lt32-clause-read : goal.returns-then-bytes-at-lt32-clause-read
returns-then-bytes-at-lt32-clause-read c = bytes-short 32 c.args.bytes.now c.args.at (λ i. omega (arith, c.type_inv.bytes i))
    c.requires (omega arith)
