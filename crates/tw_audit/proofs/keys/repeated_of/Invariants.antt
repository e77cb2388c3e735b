use Rattle.std.proofs.Common.{◌≡◌, ℕ, ◌+◌, ◌<◌, [], get_or, true}
use Rattle.std.specs.BTreeSet.{contains}
use Rattle.std.specs.Cmp.Lexicographic.{slice_cmp}
use Rattle.std.specs.Ordering.{nat_cmp}
use Rattle.tw_audit.proofs.keys.repeated_of.Given as goal

abbrev pub invariant-loop-i : goal.invariant-loop-i
invariant-loop-i l =
    (k : ℕ) → k + 1 < l.i → get_or l.keys k [] ≡ get_or l.keys (k + 1) [] → contains (slice_cmp nat_cmp) l.repeated.keys
    (get_or l.keys (k + 1) []) ≡ true
