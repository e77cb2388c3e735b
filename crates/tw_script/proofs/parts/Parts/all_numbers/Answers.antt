use Rattle.std.proofs.Common.{sym}
use Rattle.tw_script.specs.LineForms.{any_number_value}
use Rattle.tw_script.proofs.ValueLaws.{all-taken, more-taken, taken-stops}
use Rattle.tw_script.proofs.parts.Parts.all_numbers.Goals as goal

pub returns-in_default-number_within : goal.returns-in_default-number_within
returns-in_default-number_within c =
    taken-stops any_number_value c.loop-word.invariant c.in-Some.ensures (sym c.in_default-number_within.ensures.value)

pub loop-word-preserved : goal.loop-word-preserved
loop-word-preserved c =
    rw c.in_ok-push.ensures.ok
    (more-taken any_number_value c.loop-word.invariant c.in-Some.ensures c.in-Some-number_within.number
    (sym c.in-Some-number_within.ensures.value))

pub returns : goal.returns
returns c = all-taken any_number_value c.loop-word.invariant c.in_default.ensures
