use Rattle.std.proofs.Common.{arith}
use Rattle.tw_base.proofs.lemmas.format.FieldLaws.{text-differs, text-ends, text-goes, text-short}
use Rattle.tw_base.proofs.format.fields.check_text.Goals as goal
use Rattle.tw_base.proofs.format.fields.check_text.Goals.{then-i-rest-via-then-i-rest}
use Rattle.tw_base.proofs.format.fields.check_text.Goals.{then-i-rest-via-else-i-rest+then-rest-i}

pub returns-then-i-rest-clause-read : goal.returns-then-i-rest-clause-read
returns-then-i-rest-clause-read c =
    elim c.then-i-rest.branch [
      | then-i-rest-via-then-i-rest w ↦ text-short c.args.text.now c.args.rest.now c.args.at c.loop-i.i
          c.loop-i-test.true (omega arith) c.loop-i.invariant.1
      | then-i-rest-via-else-i-rest+then-rest-i w ↦ text-differs c.args.text.now c.args.rest.now c.args.at c.loop-i.i
          c.loop-i-test.true (omega arith) w.if-rest-i.true c.loop-i.invariant.1
    ]

pub loop-i-preserved : goal.loop-i-preserved
loop-i-preserved c = (
  omega arith,
  text-goes c.args.text.now c.args.rest.now c.args.at c.loop-i.i c.loop-i-test.true (omega arith) c.if-rest-i.false
      c.loop-i.invariant.1,
)

pub returns-clause-read : goal.returns-clause-read
returns-clause-read c = text-ends c.args.text.now c.args.rest.now c.args.at c.loop-i.i (omega arith)
    c.loop-i.invariant.1
