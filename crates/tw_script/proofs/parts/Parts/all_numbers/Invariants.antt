use Rattle.std.proofs.Common.{length}
use Rattle.tw_script.specs.LineForms.{any_number_value}
use Rattle.tw_script.specs.Takings.{words_left}
use Rattle.tw_script.proofs.ValueLaws.{AreTaken}
use Rattle.tw_script.proofs.parts.Parts.all_numbers.Given as goal

abbrev pub invariant-loop-word : goal.invariant-loop-word
invariant-loop-word l = AreTaken any_number_value (words_left l.fn.self.more l.fn.self.text.now)
    (words_left l.self.more l.self.text.now) l.numbers

abbrev pub decreases-loop-word : goal.decreases-loop-word
decreases-loop-word l = length (words_left l.self.more l.self.text.now)
