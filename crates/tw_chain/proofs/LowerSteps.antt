-- The lower of three reasons.
use Rattle.std.proofs.Common.{◌≡◌, ℕ, ◌<◌, refl, sym, ap, ◌∙◌, arith}
use Rattle.std.specs.Prelude.{Option, Some, None, Bool, true, false, nat_lt, ◌==◌, ◌&&◌, if◌then◌else◌}
use Rattle.tw_base.specs.declared.history.report.Reason.{Reason}
use Rattle.tw_base.specs.history.Reasons.{reason_number, reason_place}
use Rattle.tw_chain.specs.Finding.{is_lower, lower_of}

abbrev below : (n p m q : ℕ) → Bool
below n p m q = if nat_lt n m then true else (n == m && nat_lt p q)

below-trans : (n p m q k r : ℕ) → below n p m q ≡ true → below m q k r ≡ true → below n p k r ≡ true
below-trans n p m q k r one two = grind arith

below-not : (n p m q k r : ℕ) → below m q k r ≡ false → below n p m q ≡ false → below n p k r ≡ false
below-not n p m q k r one two = grind arith

module _ (a b c : Reason) where
  by : (ba cb ca : Bool) → (ba ≡ true → cb ≡ true → ca ≡ true) → (ba ≡ false → cb ≡ false → ca ≡ false)
      → (if ba then (if cb then Some c else Some b) else (if ca then Some c else Some a))
      ≡ (if cb then (if ca then Some c else Some a) else (if ba then Some b else Some a))
  by true true true up down = refl
  by true true false up down = absurd (let no : false ≡ true = up refl refl in cc)
  by true false ca up down = refl
  by false true ca up down = refl
  by false false true up down = absurd (let no : true ≡ false = down refl refl in cc)
  by false false false up down = refl

  first : (t : Bool) → lower_of (if t then Some b else Some a) (Some c)
      ≡ (if t then (if is_lower c b then Some c else Some b) else (if is_lower c a then Some c else Some a))
  first true = refl
  first false = refl

  second : (t : Bool) → lower_of (Some a) (if t then Some c else Some b)
      ≡ (if t then (if is_lower c a then Some c else Some a) else (if is_lower b a then Some b else Some a))
  second true = refl
  second false = refl

  three : lower_of (lower_of (Some a) (Some b)) (Some c) ≡ lower_of (Some a) (lower_of (Some b) (Some c))
  three =
      first (is_lower b a)
      ∙ by (is_lower b a) (is_lower c b) (is_lower c a)
      (λ one two. below-trans (reason_number c) (reason_place c) (reason_number b) (reason_place b) (reason_number a)
      (reason_place a) two one)
      (λ one two. below-not (reason_number c) (reason_place c) (reason_number b) (reason_place b) (reason_number a)
      (reason_place a) one two)
      ∙ sym (second (is_lower c b))

pub lower-assoc : (a b c : Option Reason) → lower_of (lower_of a b) c ≡ lower_of a (lower_of b c)
lower-assoc None b c = refl
lower-assoc (Some a) None c = refl
lower-assoc (Some a) (Some b) None = last (is_lower b a)
  where
    last : (t : Bool) → lower_of (if t then Some b else Some a) None ≡ (if t then Some b else Some a)
    last true = refl
    last false = refl
lower-assoc (Some a) (Some b) (Some c) = three a b c
