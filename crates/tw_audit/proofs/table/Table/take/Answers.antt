use Rattle.tw_audit.proofs.TableLaws.{taken-found}
use Rattle.tw_audit.proofs.table.Table.take.Goals as goal

pub returns-then-is_some : goal.returns-then-is_some
returns-then-is_some c = λ dig texts gives digest took unspent.
    taken-found dig texts c.args.self.now c.args.text.now (took unspent) (let some = c.if-is_some.true in let is =
    c.is_some.ensures in cc)
