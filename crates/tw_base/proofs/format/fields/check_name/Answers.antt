use Rattle.std.proofs.Common.{◌≡◌, ℕ, sym, ◌∙◌, subst, arith}
use Rattle.tw_base.proofs.lemmas.format.FieldLaws.{NameReadTo, name-ends, name-fails, name-goes, name-short}
use Rattle.tw_base.proofs.lemmas.format.FieldLaws.{name-starts}
use Rattle.tw_base.proofs.format.fields.check_name.Goals as goal

pub loop-i-init : goal.loop-i-init
loop-i-init c = (omega arith, name-starts c.args.rest.now c.args.at)

pub returns-then-i-rest-clause-read : goal.returns-then-i-rest-clause-read
returns-then-i-rest-clause-read c =
    name-short c.loop-i.letters c.loop-i.zeros c.args.rest.now c.args.at c.loop-i.i c.loop-i-test.true (omega arith)
    c.loop-i.invariant.1

pub returns-then-not-may_stand-clause-read : goal.returns-then-not-may_stand-clause-read
returns-then-not-may_stand-clause-read c =
    name-fails c.loop-i.letters c.loop-i.zeros c.args.rest.now c.args.at c.loop-i.i c.loop-i-test.true (omega arith)
    (sym c.may_stand.ensures ∙ c.if-not-may_stand.true) c.loop-i.invariant.1

pub loop-i-preserved : goal.loop-i-preserved
loop-i-preserved c = (
  omega arith,
  name-goes c.loop-i.letters c.loop-i.zeros c.args.rest.now c.args.at c.loop-i.i c.loop-i-test.true (omega arith)
      (sym c.may_stand.ensures ∙ c.if-not-may_stand.false) c.loop-i.invariant.1,
)

pub returns-clause-read : goal.returns-clause-read
returns-clause-read c =
    let end : c.loop-i.i ≡ 16 = omega arith in
    name-ends c.loop-i.letters c.loop-i.zeros c.args.rest.now c.args.at (let P : ℕ → Type 0 =
    λ i. NameReadTo c.loop-i.letters c.loop-i.zeros c.args.rest.now c.args.at i in subst P end c.loop-i.invariant.1)
