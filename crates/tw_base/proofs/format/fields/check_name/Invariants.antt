use Rattle.std.proofs.Common.{◌≤◌, length}
use Rattle.tw_base.proofs.lemmas.format.FieldLaws.{NameReadTo}
use Rattle.tw_base.proofs.format.fields.check_name.Given as goal

abbrev pub invariant-loop-i : goal.invariant-loop-i
invariant-loop-i l = (l.i ≤ length l.rest) × NameReadTo l.letters l.zeros l.rest l.at l.i
