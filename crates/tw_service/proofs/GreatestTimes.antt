-- The greatest one of times, and the table's line on the clock.
use Rattle.std.proofs.Common.{◌≡◌, ℕ, ◌≤◌, List, [], ◌∷◌, ◌++◌, refl, ap, ◌∙◌, arith, Bool, true, false}
use Rattle.std.specs.Prelude.{Option, Some, None, IfSome, max, nat_lt, if◌then◌else◌}
use Rattle.std.specs.Option.{option_to_list}
use Rattle.std.proofs.lemmas.Bool.{ltb-false}
use Rattle.std.proofs.lemmas.List.{append-nil}
use Rattle.tw_base.specs.history.Limits.{IsTimeWithinLimits}
use Rattle.tw_base.specs.kinds.Lists.{Each}
use Rattle.tw_base.specs.declared.history.refusal.Refusal.TheVariants.{ClockBack}
use Rattle.tw_answers.specs.Limits.{clock_refusal}
use Rattle.tw_service.specs.Stands.{greater, greatest}

abbrev AtMost : ℕ → Option ℕ → Type 0
AtMost n o = IfSome o (λ m. m ≤ n)

-- ---- each time is at most the greatest one

of_both : (n t : ℕ) (o : Option ℕ) → AtMost n (greater o (Some t)) → (t ≤ n) × AtMost n o
of_both n t None l = (l, tt)
of_both n t (Some m) l = (omega (arith, l), omega (arith, l))

bounded : (ts : List ℕ) (n : ℕ) → AtMost n (greatest ts) → Each (λ t. t ≤ n) ts
bounded [] n l = tt
bounded (t ∷ ts) n l = let both = of_both n t (greatest ts) l in (both.0, bounded ts n both.1)

not_below : (last given : ℕ) (b : Bool) → nat_lt given last ≡ b → (if b then Some (ClockBack last given) else None)
    ≡ None → last ≤ given
not_below last given true is none = cc
not_below last given false is none = ltb-false given last is

clock_allows : (clock : Option ℕ) (given : ℕ) → clock_refusal clock (Some given) ≡ None → AtMost given clock
clock_allows None given none = tt
clock_allows (Some last) given none = not_below last given (nat_lt given last) refl none

-- a time that the table allows isn't below an earlier one
pub allowed : (ts : List ℕ) (time : Option ℕ) → clock_refusal (greatest ts) time ≡ None
    → IfSome time (λ t. Each (λ earlier. earlier ≤ t) ts)
allowed ts None none = tt
allowed ts (Some given) none = bounded ts given (clock_allows (greatest ts) given none)

-- ---- one time more

more : (ts : List ℕ) (given : ℕ) → greatest (ts ++ given ∷ []) ≡ greater (greatest ts) (Some given)
more [] given = refl
more (t ∷ ts) given = ap (λ (o : Option ℕ). greater o (Some t)) (more ts given) ∙ by (greatest ts)
  where
    by : (o : Option ℕ) → greater (greater o (Some given)) (Some t) ≡ greater (greater o (Some t)) (Some given)
    by None = ap (λ (n : ℕ). Some n) (let e : max given t ≡ max t given = omega arith in e)
    by (Some m) = ap (λ (n : ℕ). Some n) (let e : max (max m given) t ≡ max (max m t) given = omega arith in e)

pub greatest-more : (ts : List ℕ) (time : Option ℕ) → greatest (ts ++ option_to_list time) ≡ greater (greatest ts) time
greatest-more ts None = ap greatest (append-nil ts)
greatest-more ts (Some given) = more ts given

pub greater-within : (clock time : Option ℕ) → IsTimeWithinLimits clock → IsTimeWithinLimits time
    → IsTimeWithinLimits (greater clock time)
greater-within clock None one other = one
greater-within None (Some given) one other = other
greater-within (Some last) (Some given) one other = omega (arith, one, other)
