use Rattle.std.proofs.Common.{◌≡◌, ℕ, ◌+◌, ◌<◌, [], length, get_or, true, subst}
use Rattle.std.specs.BTreeSet.{contains}
use Rattle.std.specs.Cmp.Lexicographic.{slice_cmp}
use Rattle.std.specs.Ordering.{nat_cmp}
use Rattle.tw_audit.proofs.KeyLaws.{covers}
use Rattle.tw_audit.proofs.keys.Keys.into_repeated.Goals as goal

pub returns : goal.returns
returns c = λ dig texts took.
    covers dig texts c.args.self c.sort_unstable.new.self.items c.in_ok-repeated.repeated (took c.if-self.false)
    c.sort_unstable.ensures.permutation c.sort_unstable.ensures.sorted
    (subst (λ keys. (i : ℕ) → i + 1 < length keys → get_or keys i [] ≡ get_or keys (i + 1) []
    → contains (slice_cmp nat_cmp) c.in_ok-repeated.repeated.keys (get_or keys (i + 1) []) ≡ true)
    c.as_slice.ensures.value c.in_ok-repeated.ensures)
