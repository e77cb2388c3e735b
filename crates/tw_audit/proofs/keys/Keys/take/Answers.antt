use Rattle.tw_audit.proofs.KeyLaws.{keys-known}
use Rattle.tw_audit.proofs.keys.Keys.take.Goals as goal

pub returns-then-knows : goal.returns-then-knows
returns-then-knows c = λ dig texts digest took unspent.
    keys-known dig texts c.args.self.now c.word-number.result c.args.text.now (took unspent)
    (c.knows.ensures c.if-knows.true)
