-- The levels of a step's links.
use Rattle.std.proofs.Common.{◌≡◌, ℕ, suc, zero, ◌+◌, ◌-◌, ◌*◌, ◌<◌, ◌≤◌, ◌^◌, ◌/◌, ◌%◌, lit<, arith, refl, sym, ap}
use Rattle.std.proofs.Common.{◌∙◌, inl, inr}
use Rattle.std.proofs.lemmas.Bool.{cases_lt}
use Rattle.std.proofs.lemmas.Nat.{div-add-mod', mod-pow-add, shr_split}
use Rattle.std.proofs.lemmas.Nat.Bits.{bit_at-trailing_zeros}
use Rattle.std.proofs.Math.Nat.{lt_of_lt_of_le, pow-le-pow_right, div-eq_of_lt, mod-one, zero-mod, mul-mod_left}
use Rattle.std.proofs.Math.Nat.{one-le-pow, mul-le-mul_right, mul_assoc, add-mul, pow-suc}
use Rattle.std.proofs.Math.Pow.{mod-mod-pow}
use Rattle.std.specs.Int.{bit_at, w64, trailing_zeros}
use Rattle.tw_base.specs.kinds.Levels.{top_level}

pub top_level-is : (s : ℕ) → 0 < s → top_level s ≡ trailing_zeros w64 s
unfolding top_level
top_level-is zero p = absurd (omega arith)
top_level-is (suc i) p = refl

pub top_level-zero : top_level 0 ≡ 0
unfolding top_level
top_level-zero = refl

-- a step below 2 ^ 40 has at most 40 links
pub top_level-below : (s : ℕ) → s < 2 ^ 40 → top_level s < 40
unfolding top_level
top_level-below zero q = omega arith
top_level-below (suc i) q =
    let bits = bit_at-trailing_zeros w64 (suc i) (omega arith) (omega arith) in
    elim (cases_lt (trailing_zeros w64 (suc i)) 40) [
      | inl less ↦ less
      | inr more ↦ (
          let small : suc i < 2 ^ trailing_zeros w64 (suc i) = lt_of_lt_of_le q (pow-le-pow_right (lit< tt) more) in
          let none : suc i / 2 ^ trailing_zeros w64 (suc i) ≡ 0 = div-eq_of_lt small in
          absurd (omega (arith, bits.1, none)))
    ]

-- ---- divisibility by powers of two

-- a number whose lowest k bits are zero is divided by 2 ^ k
low_bits : (n k : ℕ) → ((i : ℕ) → i < k → bit_at n i ≡ 0) → n % 2 ^ k ≡ 0
low_bits n zero none = mod-one n
low_bits n (suc k) none =
    let rest = low_bits n k (λ i l. none i (omega arith)) in
    let bit : n / 2 ^ k % 2 ^ 1 ≡ 0 = none k (omega arith) in
    ap (λ j. n % 2 ^ j) (let e : suc k ≡ 1 + k = omega arith in e) ∙ mod-pow-add n 1 k
    ∙ ap (λ b. b * 2 ^ k + n % 2 ^ k) bit ∙ omega (arith, rest)

-- what 2 ^ (j + k) divides, 2 ^ k divides
pub divides-less : (n j k : ℕ) → k ≤ j → n % 2 ^ j ≡ 0 → n % 2 ^ k ≡ 0
divides-less n j k l e =
    let same : (j - k) + k ≡ j = omega arith in
    sym (mod-mod-pow n (j - k) k) ∙ ap (λ i. n % 2 ^ i % 2 ^ k) same ∙ ap (λ r. r % 2 ^ k) e ∙ zero-mod (2 ^ k)

no_odd_part : (x p : ℕ) → 0 < p → x * p ≡ 0 → x ≡ 0
no_odd_part zero p l e = refl
no_odd_part (suc x) p l e = absurd (let more : 1 * p ≤ suc x * p =
    mul-le-mul_right p (let r : 1 ≤ suc x = omega arith in r) in omega (arith, more))

-- a number with bit k isn't divided by a greater power
bit-greatest : (n k m : ℕ) → bit_at n k ≡ 1 → n % 2 ^ m ≡ 0 → m ≤ k
bit-greatest n k m bit e =
    elim (cases_lt k m) [
      | inr more ↦ more
      | inl less ↦ (
          let j : ℕ = m - suc k in
          let same : m ≡ suc j + k = omega arith in
          let parts : (n / 2 ^ k % 2 ^ suc j) * 2 ^ k + n % 2 ^ k ≡ 0 =
          sym (mod-pow-add n (suc j) k) ∙ ap (λ i. n % 2 ^ i) (sym same) ∙ e in
          let product : (n / 2 ^ k % 2 ^ suc j) * 2 ^ k ≡ 0 = omega (arith, parts) in
          let field : n / 2 ^ k % 2 ^ suc j ≡ 0 = no_odd_part _ (2 ^ k) (one-le-pow k 2 (lit< tt)) product in
          let even : n / 2 ^ k % 2 ^ 1 ≡ 0 =
          divides-less (n / 2 ^ k) (suc j) 1 (omega arith) field in
          let odd : n / 2 ^ k % 2 ≡ 1 = bit in
          let both : n / 2 ^ k % 2 ≡ 0 = even in
          absurd (omega (arith, odd, both)))
    ]

pub top_level-divides : (s : ℕ) → 0 < s → s < 2 ^ 64 → s % 2 ^ top_level s ≡ 0
unfolding top_level
top_level-divides zero p q = absurd (omega arith)
top_level-divides (suc i) p q = low_bits (suc i) _ (bit_at-trailing_zeros w64 (suc i) p q).2

pub top_level-greatest : (s level : ℕ) → 0 < s → s < 2 ^ 64 → s % 2 ^ level ≡ 0 → level ≤ top_level s
unfolding top_level
top_level-greatest zero level p q e = absurd (omega arith)
top_level-greatest (suc i) level p q e = bit-greatest (suc i) _ level (bit_at-trailing_zeros w64 (suc i) p q).1 e

-- the bit at the top level is set
top_level-odd : (s : ℕ) → 0 < s → s < 2 ^ 64 → s / 2 ^ top_level s % 2 ≡ 1
unfolding top_level
top_level-odd zero p q = absurd (omega arith)
top_level-odd (suc i) p q = (bit_at-trailing_zeros w64 (suc i) p q).1

less_one : (q d : ℕ) → 0 < q → (q - 1) * d ≡ q * d - d
less_one zero d l = absurd (omega arith)
less_one (suc q) d l =
    let more : (q + 1) * d ≡ q * d + 1 * d = add-mul q 1 d in
    ap (λ x. x * d) (let e : suc q - 1 ≡ q = omega arith in e)
    ∙ (let e : q * d ≡ (q + 1) * d - d = omega (arith, more) in e)
    ∙ ap (λ x. x * d - d) (let e : q + 1 ≡ suc q = omega arith in e)

-- a number that 2 ^ k divides is still divided by it with 2 ^ k taken off
pub divides-minus : (s k : ℕ) → 2 ^ k ≤ s → s % 2 ^ k ≡ 0 → (s - 2 ^ k) % 2 ^ k ≡ 0
divides-minus s k l e =
    let split : s / 2 ^ k * 2 ^ k ≡ s = omega (arith, shr_split s k, e) in
    let some : 0 < s / 2 ^ k = positive (s / 2 ^ k) split in
    let q : s - 2 ^ k ≡ (s / 2 ^ k - 1) * 2 ^ k = sym (less_one (s / 2 ^ k) (2 ^ k) some ∙ ap (λ x. x - 2 ^ k) split) in
    ap (λ x. x % 2 ^ k) q ∙ mul-mod_left (s / 2 ^ k - 1) (2 ^ k)
  where
    positive : (x : ℕ) → x * 2 ^ k ≡ s → 0 < x
    positive zero h = absurd (let some : 1 ≤ 2 ^ k = one-le-pow k 2 (lit< tt) in let none : 0 * 2 ^ k ≡ 0 =
        omega arith in omega (arith, some, none, h))
    positive (suc x) h = omega arith

-- and with its lowest bit taken off, the next greater power divides it
pub divides-next : (s : ℕ) → 0 < s → s < 2 ^ 64 → (s - 2 ^ top_level s) % 2 ^ suc (top_level s) ≡ 0
divides-next s p q = next (top_level s) (top_level-divides s p q) (top_level-odd s p q)
  where
    regroup : (x d n : ℕ) → (x * 2 + 1) * d ≡ n → n - d ≡ x * (2 * d)
    regroup x d n h = omega (arith, add-mul (x * 2) 1 d, mul_assoc x 2 d, h)

    next : (k : ℕ) → s % 2 ^ k ≡ 0 → s / 2 ^ k % 2 ≡ 1 → (s - 2 ^ k) % 2 ^ suc k ≡ 0
    next k e odd =
        let split : s / 2 ^ k * 2 ^ k ≡ s = omega (arith, shr_split s k, e) in
        let halves : s / 2 ^ k / 2 * 2 + 1 ≡ s / 2 ^ k = omega (arith, div-add-mod' (s / 2 ^ k) 2, odd) in
        let pair : (s / 2 ^ k / 2 * 2 + 1) * 2 ^ k ≡ s = ap (λ x. x * 2 ^ k) halves ∙ split in
        let made : s - 2 ^ k ≡ s / 2 ^ k / 2 * 2 ^ suc k = regroup (s / 2 ^ k / 2) (2 ^ k) s pair
        ∙ ap (λ d. s / 2 ^ k / 2 * d) (let e : 2 * 2 ^ k ≡ 2 ^ suc k = omega (arith, pow-suc 2 k) in e) in
        ap (λ x. x % 2 ^ suc k) made ∙ mul-mod_left (s / 2 ^ k / 2) (2 ^ suc k)

pub ruleset top_levels = (top_level-is, top_level-zero, top_level-below, top_level-divides, top_level-greatest)
