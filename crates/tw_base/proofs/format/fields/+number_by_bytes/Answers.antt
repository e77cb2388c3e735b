use Rattle.std.proofs.Common.{◌≡◌, ◌+◌, ◌-◌, ◌*◌, ◌^◌, get_or, ◌∙◌, ap, arith, inl, inr}
use Rattle.tw_base.specs.format.Formats.Reading.{Took}
use Rattle.tw_base.proofs.lemmas.format.NumberLaws.{code-none, code-short, code-stops, code-more, shift-took}
use Rattle.tw_base.proofs.lemmas.format.NumberLaws.{shift-stopped, range_after, number-fits}
use Rattle.tw_base.proofs.format.fields.+number_by_bytes.Goals as goal
use Rattle.tw_base.proofs.format.fields.+number_by_bytes.Goals.{then-b-least-via-then-b-least}
use Rattle.tw_base.proofs.format.fields.+number_by_bytes.Goals.{then-b-least-via-else-b-least+then-most-unit}

pub returns-then-width-eq0-clause-read : goal.returns-then-width-eq0-clause-read
returns-then-width-eq0-clause-read t c = code-none c.args.width c.args.least c.args.most c.args.bytes.now c.args.at
    c.if-width-eq0.true

pub returns-then-width-eq0-clause-range : goal.returns-then-width-eq0-clause-range
returns-then-width-eq0-clause-range t c =
    let one : 256 ^ c.args.width ≡ 1 = ap (λ w. 256 ^ w) c.if-width-eq0.true in
    (omega arith, omega arith)

pub returns-then-at-bytes-clause-read : goal.returns-then-at-bytes-clause-read
returns-then-at-bytes-clause-read t c = code-short c.args.width c.args.least c.args.most c.args.bytes.now c.args.at
    c.if-width-eq0.false c.if-at-bytes.true

pub returns-then-b-least-clause-read : goal.returns-then-b-least-clause-read
returns-then-b-least-clause-read t c =
    code-stops c.args.width (c.args.width - 1) c.unit_of-unit.result c.args.least c.args.most c.args.bytes.now
    c.args.at (omega arith) c.unit_of-unit.ensures.value (omega arith)
    (elim c.then-b-least.branch [
      | then-b-least-via-then-b-least w ↦ inl w.if-b-least.true
      | then-b-least-via-else-b-least+then-most-unit w ↦ inr w.if-most-unit.true
    ])

pub number_by_bytes-requires : goal.number_by_bytes-requires
number_by_bytes-requires t c =
    let after = range_after c.unit_of-unit.result (get_or c.args.bytes.now c.args.at 0) c.args.least c.args.most
    c.unit_of-unit.ensures.some c.requires.range in (
      omega arith,
      (
        omega arith,
        (
          omega arith,
          (
            omega (arith, after.0, c.low_of-low.ensures, c.high_of-high.ensures),
            omega (arith, after.1, c.high_of-high.ensures, c.unit_of-unit.ensures.value),
          ),
        ),
      ),
    )

pub overflow_add-result : goal.overflow_add-result
overflow_add-result t c =
    let fits = number-fits c.unit_of-unit.result (get_or c.args.bytes.now c.args.at 0) c.args.least c.args.most
    c.low_of-low.result c.high_of-high.result c.in-Ok.rest
    c.unit_of-unit.ensures.some c.if-b-least.false c.if-most-unit.false c.low_of-low.ensures c.high_of-high.ensures
    c.in-Ok.ensures.range.0 c.in-Ok.ensures.range.1 in
    omega (arith, fits.1)

pub returns-in-Ok-clause-read : goal.returns-in-Ok-clause-read
returns-in-Ok-clause-read t c =
    code-more c.args.width (c.args.width - 1) c.unit_of-unit.result c.args.least c.args.most c.low_of-low.result
    c.high_of-high.result c.args.bytes.now c.args.at (omega arith) c.unit_of-unit.ensures.value (omega arith)
    c.if-b-least.false c.if-most-unit.false c.low_of-low.ensures c.high_of-high.ensures
    ∙ shift-took _ c.in-Ok.rest _ _ c.in-Ok.ensures.read
    ∙ ap (Took (get_or c.args.bytes.now c.args.at 0 * c.unit_of-unit.result + c.in-Ok.rest))
    (let e : c.args.at + 1 + (c.args.width - 1) ≡ c.args.at + c.args.width = omega arith in e)

pub returns-in-Ok-clause-range : goal.returns-in-Ok-clause-range
returns-in-Ok-clause-range t c =
    number-fits c.unit_of-unit.result (get_or c.args.bytes.now c.args.at 0) c.args.least c.args.most c.low_of-low.result
    c.high_of-high.result c.in-Ok.rest
    c.unit_of-unit.ensures.some c.if-b-least.false c.if-most-unit.false c.low_of-low.ensures c.high_of-high.ensures
    c.in-Ok.ensures.range.0 c.in-Ok.ensures.range.1

pub returns-in-Err-clause-read : goal.returns-in-Err-clause-read
returns-in-Err-clause-read t c =
    code-more c.args.width (c.args.width - 1) c.unit_of-unit.result c.args.least c.args.most c.low_of-low.result
    c.high_of-high.result c.args.bytes.now c.args.at (omega arith) c.unit_of-unit.ensures.value (omega arith)
    c.if-b-least.false c.if-most-unit.false c.low_of-low.ensures c.high_of-high.ensures
    ∙ shift-stopped _ c.in-Err.place _ c.in-Err.ensures.read
