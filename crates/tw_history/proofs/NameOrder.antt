-- The order of names, in which a map has them.
use Rattle.std.proofs.Common.{◌≡◌, ◌≢◌, ℕ, List, refl, sym, false}
use Rattle.std.specs.Ordering.{is_eq, nat_cmp}
use Rattle.std.specs.declared.cmp.Ordering.{Ordering}
use Rattle.std.specs.declared.cmp.Ordering.TheVariants.{Less, Equal, Greater}
use Rattle.std.specs.Cmp.Lexicographic.{slice_cmp}
use Rattle.std.proofs.lemmas.Map.Lookups.{exact_bytes}

unequal : (o : Ordering) → (o ≡ Equal → ⊥) → is_eq o ≡ false
unequal Less differ = refl
unequal Equal differ = absurd (differ refl)
unequal Greater differ = refl

-- two names that differ compare as such
pub apart : (one other : List ℕ) → other ≢ one → is_eq (slice_cmp nat_cmp one other) ≡ false
apart one other differ = unequal (slice_cmp nat_cmp one other) (λ e. differ (sym (exact_bytes one other e)))
