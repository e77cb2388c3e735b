-- Words that were read one after another are those of the program.
use Rattle.std.proofs.Common.{◌≡◌, ◌⊎◌, ℕ, zero, suc, ◌+◌, ◌<◌, ◌≤◌, ◌^◌, List, [], ◌∷◌, ◌++◌, length, refl, sym, subst, inl, inr, arith}
use Rattle.std.specs.Prelude.{IfSome, Option, Some, None, slice_get}
use Rattle.std.proofs.lemmas.Option.{slice_get_past}
use Rattle.timeweave.specs.Arguments.{AreWordsRead, IsWordRead}

-- each of those that were read so far
abbrev pub AreFirstRead : (words : List (List ℕ)) → (read : List (List ℕ)) → Type 0
AreFirstRead words read = (i : ℕ) → i < length read → IsWordRead words (suc i) (slice_get read i)

pub none-read : (told : Option (List (List ℕ))) → IfSome told (λ words. AreFirstRead words [])
none-read None = tt
none-read (Some words) = λ i within. absurd (omega (arith, within))

-- one item more is found at its place, and the others at theirs
pushed-at : (read : List (List ℕ)) (word : List ℕ) (i : ℕ) → i < length (read ++ word ∷ [])
    → ((i < length read) × (slice_get (read ++ word ∷ []) i ≡ slice_get read i))
    ⊎ ((i ≡ length read) × (slice_get (read ++ word ∷ []) i ≡ Some word))
pushed-at [] word zero within = inr (refl, refl)
pushed-at [] word (suc i) within = absurd (omega (arith, within))
pushed-at (x ∷ read) word zero within = inl (omega arith, refl)
pushed-at (x ∷ read) word (suc i) within =
    elim (pushed-at read word i (omega (arith, within))) [
      | inl before ↦ (let less = before.0 in inl (omega (arith, less), before.1))
      | inr last ↦ (let at = last.0 in inr (omega (arith, at), last.1))
    ]

pub one-more : (told : Option (List (List ℕ))) (read : List (List ℕ)) (number : ℕ) (word : List ℕ)
    → length read + 1 ≡ number → IfSome told (λ words. AreFirstRead words read)
    → IfSome told (λ words. IsWordRead words number (Some word))
    → IfSome told (λ words. AreFirstRead words (read ++ word ∷ []))
one-more None read number word count first is = tt
one-more (Some words) read number word count first is = λ i within.
    elim (pushed-at read word i within) [
      | inl before ↦ subst (IsWordRead words (suc i)) (sym before.1) (first i before.0)
      | inr last ↦
          let at : suc i ≡ number = (let here = last.0 in omega (arith, here, count)) in
          subst (IsWordRead words (suc i)) (sym last.1) (subst (λ n. IsWordRead words n (Some word)) (sym at) is)
    ]

within-or-none : (read : List (List ℕ)) (i : ℕ) → (i < length read) ⊎ (slice_get read i ≡ None) × (length read ≤ i)
within-or-none [] i = inr (refl, omega arith)
within-or-none (x ∷ read) zero = inl (omega arith)
within-or-none (x ∷ read) (suc i) =
    elim (within-or-none read i) [
      | inl within ↦ inl (omega (arith, within))
      | inr gone ↦ (let behind = gone.1 in inr (gone.0, omega (arith, behind)))
    ]

-- where there is no word of the next number, they are all
pub past : (words : List (List ℕ)) (read : List (List ℕ)) → AreFirstRead words read → length words ≤ length read + 1
    → AreWordsRead words read
past words read first few i = by (within-or-none read i)
  where
    by : ((i < length read) ⊎ (slice_get read i ≡ None) × (length read ≤ i)) → IsWordRead words (suc i) (slice_get read i)
    by (inl within) = first i within
    by (inr gone) =
        let behind = gone.1 in
        subst (IsWordRead words (suc i)) (sym gone.0) (slice_get_past words (suc i) (omega (arith, behind, few)))

none-there : {X : Type 0} (xs : List X) (i : ℕ) → slice_get xs i ≡ None → length xs ≤ i
none-there [] i none = omega arith
none-there (x ∷ xs) zero none = absurd (let no : Some x ≡ None = none in cc)
none-there (x ∷ xs) (suc i) none = let rest = none-there xs i none in omega (arith, rest)

pub all-read : (told : Option (List (List ℕ))) (read : List (List ℕ)) (number : ℕ)
    → length read + 1 ≡ number → IfSome told (λ words. AreFirstRead words read)
    → IfSome told (λ words. IsWordRead words number None)
    → IfSome told (λ words. length words < 2 ^ 64 → AreWordsRead words read)
all-read None read number count first none = tt
all-read (Some words) read number count first none = λ few.
    past words read first (let end = none-there words number none in omega (arith, end, count))

-- there are no more words than numbers
pub none-left : (told : Option (List (List ℕ))) (read : List (List ℕ)) (number : ℕ)
    → length read + 1 ≡ number → 2 ^ 64 ≤ number + 1 → IfSome told (λ words. AreFirstRead words read)
    → IfSome told (λ words. length words < 2 ^ 64 → AreWordsRead words read)
none-left None read number count most first = tt
none-left (Some words) read number count most first = λ few. past words read first (omega (arith, few, most, count))
