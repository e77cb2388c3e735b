use Rattle.std.proofs.Common.{◌≤◌, length}
use Rattle.tw_base.proofs.lemmas.format.FieldLaws.{TextReadTo}
use Rattle.tw_base.proofs.format.fields.check_text.Given as goal

abbrev pub invariant-loop-i : goal.invariant-loop-i
invariant-loop-i l = (l.i ≤ length l.rest) × TextReadTo l.text l.rest l.at l.i
