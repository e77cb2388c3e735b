-- Laws of number fields.
use Rattle.std.proofs.Common.{◌≡◌, ℕ, suc, zero, ◌+◌, ◌-◌, ◌*◌, ◌/◌, ◌%◌, ◌^◌, ◌<◌, ◌≤◌, List, [], ◌∷◌, ◌++◌, length}
use Rattle.std.proofs.Common.{get_or, drop, take, Bool, true, false, refl, ap, sym, ◌∙◌, subst, arith, lit<, inl, inr}
use Rattle.std.proofs.Common.{◌⊎◌}
use Rattle.std.specs.Prelude.{if◌then◌else◌, ◌&&◌, nat_le}
use Rattle.std.specs.Int.{byte_at, bytes_high_first, to_be_bytes, w32, w64}
use Rattle.std.proofs.Math.Nat.{mul-le-mul_right, one-le-pow, le_trans, div-mul-le_self, div-add-mod', mod-lt}
use Rattle.std.proofs.Math.Nat.{mul-add-div_right, mul-add-mod_self_right, mul_assoc, pow-succ', mod-eq_of_lt}
use Rattle.std.proofs.lemmas.Nat.{le-div, div_below, div-mul-add}
use Rattle.std.proofs.lemmas.List.{append-nil, drop_all, drop_more, take_rest}
use Rattle.std.proofs.lemmas.Bool.{and_parts, leb-true, le-leb, lt-leb, eq-eqb, ne_eqb, cases_eq}
use Rattle.tw_base.specs.format.Formats.{Format, Reading, GoesOn, Spells, front, goes_on, then_by}
use Rattle.tw_base.specs.format.Formats.Reading.{Took, Stopped}
use Rattle.tw_base.specs.format.Formats.Format.{Done}
use Rattle.tw_base.specs.format.Fields.{high_after, low_after, number, number_bytes}
use Rattle.tw_base.proofs.lemmas.format.FormatLaws.{goes_on-then, front-byte, front-stops, front-then, spells_then}
use Rattle.tw_base.proofs.lemmas.format.FormatLaws.{then_spells}

low_same : (unit b least : ℕ) → b ≡ least / unit → low_after unit b least ≡ least % unit
unfolding low_after
low_same unit b least e = ap (λ t. if t then least % unit else 0) (eq-eqb b (least / unit) e)

low_other : (unit b least : ℕ) → (b ≡ least / unit → ⊥) → low_after unit b least ≡ 0
unfolding low_after
low_other unit b least e = ap (λ t. if t then least % unit else 0) (ne_eqb b (least / unit) e)

high_same : (unit b most : ℕ) → b ≡ most / unit → high_after unit b most ≡ most % unit
unfolding high_after
high_same unit b most e = ap (λ t. if t then most % unit else unit - 1) (eq-eqb b (most / unit) e)

high_other : (unit b most : ℕ) → (b ≡ most / unit → ⊥) → high_after unit b most ≡ unit - 1
unfolding high_after
high_other unit b most e = ap (λ t. if t then most % unit else unit - 1) (ne_eqb b (most / unit) e)

-- the range after a byte is a range again
pub range_after : (unit b least most : ℕ) → 0 < unit → least ≤ most → (low_after unit b least ≤ high_after unit b most)
    × (high_after unit b most < unit)
range_after unit b least most u r =
    let below : least % unit < unit = mod-lt least u in
    let above : most % unit < unit = mod-lt most u in
    elim (cases_eq b (least / unit)) [
      | inl e ↦ elim (cases_eq b (most / unit)) [
        | inl f ↦ (
            let same : least / unit * unit ≡ most / unit * unit = ap (λ q. q * unit) (sym e ∙ f) in (
              omega (
                arith,
                low_same unit b least e,
                high_same unit b most f,
                div-add-mod' least unit,
                div-add-mod' most unit,
                same,
              ),
              omega (arith, high_same unit b most f),
            ))
        | inr f ↦
            (omega (arith, low_same unit b least e, high_other unit b most f), omega (arith, high_other unit b most f))
      ]
      | inr e ↦ elim (cases_eq b (most / unit)) [
        | inl f ↦
            (omega (arith, low_other unit b least e, high_same unit b most f), omega (arith, high_same unit b most f))
        | inr f ↦
            (omega (arith, low_other unit b least e, high_other unit b most f), omega (arith, high_other unit b most f))
      ]
    ]

both : (p q : Bool) → p ≡ true → q ≡ true → (p && q) ≡ true
both p q e f = ap (λ t. t && q) e ∙ f

pub goes_on-number : (width least most : ℕ) → least ≤ most → GoesOn (number width least most)
unfolding number low_after high_after
goes_on-number zero least most r = tt
goes_on-number (suc width) least most r =
    let unit : 0 < 256 ^ width = one-le-pow width 256 (lit< tt) in (
      (
        least / 256 ^ width,
        both _ _ (le-leb (least / 256 ^ width) (least / 256 ^ width) (omega arith)) (le-leb (least / 256 ^ width)
            (most / 256 ^ width) (le-div (least / 256 ^ width) most (256 ^ width) unit
            (le_trans (div-mul-le_self least (256 ^ width)) r))),
      ),
      λ b yes. goes_on-then (number width _ _) _
          (goes_on-number width _ _ (range_after (256 ^ width) b least most unit r).0) (λ n. tt),
    )

pub shift : ℕ → Reading ℕ → Reading ℕ
shift c (Took n after) = Took (c + n) after
shift c (Stopped place) = Stopped place

-- one byte of a number, and the rest
pub number-more : (width least most b : ℕ) (bs : List ℕ) (at : ℕ) → least / 256 ^ width ≤ b → b ≤ most / 256 ^ width
    → front (number (suc width) least most) (b ∷ bs) at ≡ shift (b * 256 ^ width)
    (front (number width (low_after (256 ^ width) b least) (high_after (256 ^ width) b most)) bs (at + 1))
unfolding number front shift low_after high_after
number-more width least most b bs at l h =
    let rest : Format ℕ = number width (low_after (256 ^ width) b least) (high_after (256 ^ width) b most) in
    front-byte (λ x. nat_le (least / 256 ^ width) x && nat_le x (most / 256 ^ width))
    (λ x. then_by (number width (low_after (256 ^ width) x least) (high_after (256 ^ width) x most))
    (λ n. Done (x * 256 ^ width + n))) b bs at (both _ _ (le-leb (least / 256 ^ width) b l)
    (le-leb b (most / 256 ^ width) h))
    ∙ front-then rest (λ n. Done (b * 256 ^ width + n)) bs (at + 1)
    ∙ done (front rest bs (at + 1))
  where
    done : (r : Reading ℕ) → goes_on (λ n. front (Done (b * 256 ^ width + n))) bs (at + 1) r ≡ shift (b * 256 ^ width) r
    done (Took n after) = refl
    done (Stopped place) = refl

either_false : (p q : Bool) → (p ≡ false) ⊎ (q ≡ false) → (p && q) ≡ false
either_false true q (inl e) = cc
either_false false q (inl e) = refl
either_false true q (inr e) = e
either_false false q (inr e) = refl

-- a byte that no number in the range has there
pub number-stops : (width least most b : ℕ) (bs : List ℕ) (at : ℕ) → (b < least / 256 ^ width)
    ⊎ (most / 256 ^ width < b)
    → front (number (suc width) least most) (b ∷ bs) at ≡ Stopped at
unfolding number front
number-stops width least most b bs at out =
    front-stops (λ x. nat_le (least / 256 ^ width) x && nat_le x (most / 256 ^ width))
    (λ x. then_by (number width (low_after (256 ^ width) x least) (high_after (256 ^ width) x most))
    (λ n. Done (x * 256 ^ width + n))) b bs at (either_false _ _ (cases out))
  where
    cases : (b < least / 256 ^ width) ⊎ (most / 256 ^ width < b) → (nat_le (least / 256 ^ width) b ≡ false)
        ⊎ (nat_le b (most / 256 ^ width) ≡ false)
    cases (inl h) = inl (lt-leb (least / 256 ^ width) b h)
    cases (inr h) = inr (lt-leb b (most / 256 ^ width) h)

pub number-short : (width least most : ℕ) (at : ℕ) → front (number (suc width) least most) [] at ≡ Stopped at
unfolding number front
number-short width least most at = refl

pub number-none : (least most : ℕ) (bs : List ℕ) (at : ℕ) → front (number 0 least most) bs at ≡ Took 0 at
unfolding number front
number-none least most bs at = refl

-- ---- as the code has them: the width below, its unit, and the bytes from a place on

pub code-none : (width least most : ℕ) (bytes : List ℕ) (at : ℕ) → width ≡ 0 → front (number width least most)
    (drop at bytes) at ≡ Took 0 (at + width)
code-none width least most bytes at e =
    ap (λ w. front (number w least most) (drop at bytes) at) e ∙ number-none least most (drop at bytes) at ∙ ap (Took 0)
    (let r : at ≡ at + width = omega arith in r)

pub code-short : (width least most : ℕ) (bytes : List ℕ) (at : ℕ) → (width ≡ 0 → ⊥) → at ≡ length bytes
    → front (number width least most) (drop at bytes) at ≡ Stopped at
code-short zero least most bytes at n e = absurd (n refl)
code-short (suc width) least most bytes at n e =
    ap (λ bs. front (number (suc width) least most) bs at) (drop_all at bytes (omega arith)) ∙ number-short width least
    most at

pub code-stops : (width below unit least most : ℕ) (bytes : List ℕ) (at : ℕ) → width ≡ below + 1 → unit ≡ 256 ^ below
    → at < length bytes → (get_or bytes at 0 < least / unit) ⊎ (most / unit < get_or bytes at 0)
    → front (number width least most) (drop at bytes) at ≡ Stopped at
code-stops width below unit least most bytes at e u l out =
    ap (λ w. front (number w least most) (drop at bytes) at) (let r : width ≡ suc below = omega arith in r)
    ∙ ap (λ bs. front (number (suc below) least most) bs at) (drop_more bytes at 0 l)
    ∙ number-stops below least most (get_or bytes at 0) (drop (at + 1) bytes) at
    (subst (λ v. (get_or bytes at 0 < least / v) ⊎ (most / v < get_or bytes at 0)) u out)

pub code-more : (width below unit least most low high : ℕ) (bytes : List ℕ) (at : ℕ) → width ≡ below + 1
    → unit ≡ 256 ^ below → at < length bytes
    → least / unit ≤ get_or bytes at 0 → get_or bytes at 0 ≤ most / unit
    → low ≡ low_after unit (get_or bytes at 0) least → high ≡ high_after unit (get_or bytes at 0) most
    → front (number width least most) (drop at bytes) at ≡ shift (get_or bytes at 0 * unit)
    (front (number below low high) (drop (at + 1) bytes) (at + 1))
code-more width below unit least most low high bytes at e u l over under low_is high_is =
    let b : ℕ = get_or bytes at 0 in
    ap (λ w. front (number w least most) (drop at bytes) at) (let r : width ≡ suc below = omega arith in r)
    ∙ ap (λ bs. front (number (suc below) least most) bs at) (drop_more bytes at 0 l)
    ∙ number-more below least most b (drop (at + 1) bytes) at (subst (λ v. least / v ≤ b) u over)
    (subst (λ v. b ≤ most / v) u under)
    ∙ ap (λ v. shift (b * v) (front (number below (low_after v b least) (high_after v b most)) (drop (at + 1) bytes)
    (at + 1))) (sym u)
    ∙ ap (λ x. shift (b * unit) (front (number below x (high_after unit b most)) (drop (at + 1) bytes) (at + 1)))
    (sym low_is)
    ∙ ap (λ x. shift (b * unit) (front (number below low x) (drop (at + 1) bytes) (at + 1))) (sym high_is)

pub shift-took : (c n after : ℕ) (r : Reading ℕ) → r ≡ Took n after → shift c r ≡ Took (c + n) after
unfolding shift
shift-took c n after r e = ap (shift c) e

pub shift-stopped : (c place : ℕ) (r : Reading ℕ) → r ≡ Stopped place → shift c r ≡ Stopped place
unfolding shift
shift-stopped c place r e = ap (shift c) e

-- the number that a byte and the rest make is within the range
pub number-fits : (unit b least most low high n : ℕ) → 0 < unit → least / unit ≤ b → b ≤ most / unit
    → low ≡ low_after unit b least → high ≡ high_after unit b most
    → low ≤ n → n ≤ high → (least ≤ b * unit + n) × (b * unit + n ≤ most)
number-fits unit b least most low high n u over under low_is high_is l h = (lower, upper)
  where
    lower : least ≤ b * unit + n
    lower = elim (cases_eq b (least / unit)) [
      | inl e ↦ omega (arith, low_same unit b least e, div-add-mod' least unit, ap (λ q. q * unit) e)
      | inr e ↦ (
          let more : (least / unit + 1) * unit ≤ b * unit = mul-le-mul_right unit (let r : least / unit + 1 ≤ b =
          omega arith in r) in
          omega (arith, mod-lt least u, div-add-mod' least unit, more))
    ]

    upper : b * unit + n ≤ most
    upper = elim (cases_eq b (most / unit)) [
      | inl e ↦ omega (arith, high_same unit b most e, div-add-mod' most unit, ap (λ q. q * unit) e)
      | inr e ↦ (
          let more : (b + 1) * unit ≤ most / unit * unit = mul-le-mul_right unit (let r : b + 1 ≤ most / unit =
          omega arith in r) in
          omega (arith, high_other unit b most e, div-add-mod' most unit, more))
    ]

-- ---- the one spelling of a number

-- the lowest bytes of a number are those of what is left when a multiple of their unit is taken away
pub low_bytes : (k c r : ℕ) → bytes_high_first k (c * 256 ^ k + r) ≡ bytes_high_first k r
low_bytes zero c r = refl
low_bytes (suc k) c r =
    let same : c * 256 ^ suc k + r ≡ c * 256 * 256 ^ k + r = ap (λ p. c * p + r) (pow-succ' 256 k) ∙ ap (λ p. p + r)
    (sym (mul_assoc c 256 (256 ^ k))) in
    ap (λ b. b ∷ bytes_high_first k (c * 256 ^ suc k + r)) (ap (byte_at k) same ∙ lowest k c r)
    ∙ ap (λ bs. byte_at k r ∷ bs) (ap (bytes_high_first k) same ∙ low_bytes k (c * 256) r)
  where
    lowest : (k c r : ℕ) → byte_at k (c * 256 * 256 ^ k + r) ≡ byte_at k r
    lowest zero c r = ap (λ n. (n + r) % 256) (let one : c * 256 * 1 ≡ c * 256 = omega arith in one)
        ∙ mul-add-mod_self_right c 256 r
    lowest (suc k) c r =
        ap (λ n. n % 256) (mul-add-div_right (one-le-pow (suc k) 256 (lit< tt)) (c * 256) r) ∙ mul-add-mod_self_right c
        256 (r / 256 ^ suc k)

-- the spelling of a number by its first byte
pub number_bytes-more : (width b rest : ℕ) → b < 256 → rest < 256 ^ width → number_bytes (suc width)
    (b * 256 ^ width + rest) ≡ b ∷ number_bytes width rest
unfolding number_bytes
number_bytes-more width b rest l below =
    ap (λ x. x ∷ bytes_high_first width (b * 256 ^ width + rest)) (first width b rest l below) ∙ ap (λ bs. b ∷ bs)
    (low_bytes width b rest)
  where
    first : (width b rest : ℕ) → b < 256 → rest < 256 ^ width → byte_at width (b * 256 ^ width + rest) ≡ b
    first zero b rest l below = ap (λ n. n % 256) (let n : b * 1 + rest ≡ b = omega arith in n) ∙ mod-eq_of_lt l
    first (suc width) b rest l below = ap (λ n. n % 256) (div-mul-add b (256 ^ suc width) rest below) ∙ mod-eq_of_lt l

pub length-number_bytes : (width n : ℕ) → length (number_bytes width n) ≡ width
unfolding number_bytes
length-number_bytes zero n = refl
length-number_bytes (suc width) n = ap suc (length-number_bytes width n)

-- a word of a range spells a number within it, in its one spelling
pub number_spelled : (width least most : ℕ) → least ≤ most → most < 256 ^ width → (word : List ℕ) (n : ℕ)
    → Spells (number width least most) word n
    → (least ≤ n) × (n ≤ most) × (word ≡ number_bytes width n)
unfolding number number_bytes
number_spelled zero least most r fits [] n s = (omega arith, omega arith, refl)
number_spelled zero least most r fits (b ∷ bs) n s = absurd s
number_spelled (suc width) least most r fits [] n s = absurd s
number_spelled (suc width) least most r fits (b ∷ bs) n s =
    let unit : ℕ = 256 ^ width in
    let some : 0 < unit = one-le-pow width 256 (lit< tt) in
    let low : ℕ = low_after unit b least in
    let high : ℕ = high_after unit b most in
    let parts : (nat_le (least / unit) b ≡ true) × (nat_le b (most / unit) ≡ true) = and_parts (nat_le (least / unit) b)
    (nat_le b (most / unit)) s.0 in
    let over : least / unit ≤ b = leb-true (least / unit) b parts.0 in
    let under : b ≤ most / unit = leb-true b (most / unit) parts.1 in
    let small : most / unit < 256 = div_below most unit 256 some (let h : most < 256 * unit =
    omega (arith, pow-succ' 256 width) in h) in
    let after : (low ≤ high) × (high < unit) = range_after unit b least most some r in
    let split = then_spells (number width low high) (λ rest. Done (b * unit + rest)) bs n s.1 in
    let inner = number_spelled width low high after.0 after.1 split.0 split.2 split.4 in
    let fits_rest = number-fits unit b least most low high split.2 some over under refl refl inner.0 inner.1 in
    let end = done_spelled (b * unit + split.2) split.1 n split.5 in
    let value : b * unit + split.2 ≡ n = end.1 in (
      omega (arith, fits_rest.0),
      omega (arith, fits_rest.1),
      (let bytes : bs ≡ number_bytes width split.2 = split.3 ∙ ap (λ rest. split.0 ++ rest) end.0 ∙ append-nil split.0
          ∙ inner.2 in
          ap (λ rest. b ∷ rest) bytes ∙ sym (number_bytes-more width b split.2 (omega arith)
          (omega (arith, inner.1, after.1))) ∙ ap (number_bytes (suc width)) value),
    )
  where
    done_spelled : (x : ℕ) (word : List ℕ) (y : ℕ) → Spells (Done x) word y → (word ≡ []) × (x ≡ y)
    done_spelled x [] y s = (refl, s)
    done_spelled x (c ∷ cs) y s = absurd s

-- each number of the range is spelled so
pub number_spells : (width least most n : ℕ) → most < 256 ^ width → least ≤ n → n ≤ most
    → Spells (number width least most) (number_bytes width n) n
unfolding number number_bytes
number_spells zero least most n fits l h = omega arith
number_spells (suc width) least most n fits l h =
    let unit : ℕ = 256 ^ width in
    let some : 0 < unit = one-le-pow width 256 (lit< tt) in
    let b : ℕ = n / unit in
    let rest : ℕ = n % unit in
    let value : b * unit + rest ≡ n = div-add-mod' n unit in
    let below : rest < unit = mod-lt n some in
    let over : least / unit ≤ b = le-div (least / unit) n unit some (le_trans (div-mul-le_self least unit) l) in
    let under : b ≤ most / unit = le-div b most unit some (le_trans (div-mul-le_self n unit) h) in
    let small : most / unit < 256 = div_below most unit 256 some (let f : most < 256 * unit =
    omega (arith, pow-succ' 256 width) in f) in
    let low : low_after unit b least ≤ rest = elim (cases_eq b (least / unit)) [
      | inl e ↦ omega (arith, low_same unit b least e, div-add-mod' least unit, ap (λ q. q * unit) e)
      | inr e ↦ omega (arith, low_other unit b least e)
    ] in
    let high : rest ≤ high_after unit b most = elim (cases_eq b (most / unit)) [
      | inl e ↦ omega (arith, high_same unit b most e, div-add-mod' most unit, ap (λ q. q * unit) e)
      | inr e ↦ omega (arith, high_other unit b most e)
    ] in
    let high_below : high_after unit b most < unit = elim (cases_eq b (most / unit)) [
      | inl e ↦ omega (arith, high_same unit b most e, mod-lt most some)
      | inr e ↦ omega (arith, high_other unit b most e)
    ] in
    let inner = number_spells width (low_after unit b least) (high_after unit b most) rest high_below low high in
    let both_parts = spells_then (number width (low_after unit b least) (high_after unit b most))
    (λ r. Done (b * unit + r)) (number_bytes width rest) [] rest n inner value in
    let tail : number_bytes width rest ++ [] ≡ number_bytes width rest = append-nil (number_bytes width rest) in
    let word : b ∷ number_bytes width rest ≡ number_bytes (suc width) n =
    sym (number_bytes-more width b rest (omega arith) below) ∙ ap (number_bytes (suc width)) value in
    let P : List ℕ → Type 0 = λ w. Spells (number (suc width) least most) w n in
    let Q : List ℕ → Type 0 = λ w. Spells (then_by (number width (low_after unit b least) (high_after unit b most))
    (λ r. Done (b * unit + r))) w n in
    subst P word (both _ _ (le-leb (least / unit) b over) (le-leb b (most / unit) under), subst Q tail both_parts)

-- the code takes them from the eight bytes of the number
last_bytes : (k n v : ℕ) → k ≤ n → drop k (bytes_high_first n v) ≡ bytes_high_first (n - k) v
last_bytes zero n v l = ap (λ m. bytes_high_first m v) (let r : n ≡ n - 0 = omega arith in r)
last_bytes (suc k) zero v l = absurd (omega arith)
last_bytes (suc k) (suc n) v l = last_bytes k n v (omega arith) ∙ ap (λ m. bytes_high_first m v)
    (let r : n - k ≡ suc n - suc k = omega arith in r)

pub number_bytes-last : (width n : ℕ) → width ≤ 8 → take (8 - (8 - width)) (drop (8 - width) (to_be_bytes w64 n))
    ≡ number_bytes width n
unfolding number_bytes
number_bytes-last width n l =
    take_rest (to_be_bytes w64 n) (8 - width) ∙ last_bytes (8 - width) 8 n (omega arith)
    ∙ ap (λ w. bytes_high_first w n) (let r : 8 - (8 - width) ≡ width = omega arith in r)

-- a number of eight bytes as the hashed texts have it
pub number_bytes-eight : (n : ℕ) → number_bytes 8 n ≡ to_be_bytes w64 n
unfolding number_bytes
number_bytes-eight n = refl

pub number_bytes-four : (n : ℕ) → number_bytes 4 n ≡ to_be_bytes w32 n
unfolding number_bytes
number_bytes-four n = refl
