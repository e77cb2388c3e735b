use Rattle.std.proofs.Common.{◌≡◌, ◌+◌, length}
use Rattle.std.specs.Prelude.{IfSome, map, string_bytes}
use Rattle.timeweave.proofs.WordLaws.{AreFirstRead}
use Rattle.timeweave.proofs.words.read_arguments.Given as goal

-- each number below this one was read
abbrev pub invariant-loop-number : goal.invariant-loop-number
invariant-loop-number g l = record {
  count : length l.words.items + 1 ≡ l.number;
  read : IfSome (g.A.Arguments.told l.arguments) (λ words. AreFirstRead words (map string_bytes l.words.items));
}
