-- What `parse` makes of a number.
use Rattle.std.proofs.Common.{◌≡◌, ℕ, ◌<◌, ◌^◌, ◌↔◌, length, List, true, IsTrue, IsSome, Some, None, Result, Ok, Err}
use Rattle.std.proofs.Common.{MatchResult, rules, arith, subst}
use Rattle.std.specs.Char.{is_ascii_digit}
use Rattle.std.specs.List.{list_all}
use Rattle.std.specs.Result.{result_ok, OkIff}
use Rattle.std.specs.Str.{IsUtf8}
use Rattle.std.specs.Str.Parse.{digits_value, ParsesUnsigned}
use Rattle.std.proofs.lemmas.Fmt.{IsAscii-from_digits}
use Rattle.std.proofs.lemmas.Str.{IsUtf8-from_ascii}
use Rattle.std.proofs.lemmas.Str.Parse.{IsNumeralModel, IsDigitsTest, numerals_by_value, parse_digits}
use Rattle.tw_text.specs.Words.{is_number, word_number}

all_digits : IsDigitsTest (λ ds. list_all is_ascii_digit ds ≡ true)
all_digits = search rules

numerals : IsNumeralModel (λ ds. list_all is_ascii_digit ds ≡ true) (digits_value 10)
numerals = numerals_by_value _ all_digits

digits-is_number : (word : List ℕ) → IsTrue (is_number word) → list_all is_ascii_digit word ≡ true
digits-is_number word number = grind arith

pub IsUtf8-is_number : (word : List ℕ) → IsTrue (is_number word) → IsUtf8 word
IsUtf8-is_number word number =
    IsUtf8-from_ascii word (IsAscii-from_digits word (numerals.to word (digits-is_number word number)))

-- a number that `parse` takes has no more than 64 bits
parsed : {E : Type 0} (word : List ℕ) (r : Result ℕ E) → IsTrue (is_number word)
    → OkIff r ((0 < length word) × (word_number word < 2 ^ 64)) (word_number word) →
    IsSome (result_ok r) ↔ (IsTrue (is_number word) × (word_number word < 2 ^ 64))
parsed word (Ok n) number digits = grind arith
parsed word (Err e) number digits = grind arith

-- `parse` gives the number where it has no more than 64 bits
pub parse-is_number : {E : Type 0} (word : List ℕ) (r : Result ℕ E) → IsTrue (is_number word) → ParsesUnsigned 64 10
    word r →
    IsSome (result_ok r) ↔ (IsTrue (is_number word) × (word_number word < 2 ^ 64))
parse-is_number word r number parses =
    parsed word r number (parse_digits numerals 64 word r parses (digits-is_number word number))

-- what a result that is not Ok tells
pub err_part : {S E : Type 0} (r : Result S E) (U : Type 0) (P : S → Type 0) (Q : E → Type 0) →
    MatchResult r P (λ e. (U → ⊥) × Q e) → result_ok r ≡ None → U → ⊥
err_part (Ok s) U P Q both none holds = cc
err_part (Err e) U P Q both none holds = both.0 holds

-- what a result that is Ok tells
pub ok_part : {S E : Type 0} (r : Result S E) (s : S) (P : S → Type 0) (Q : E → Type 0) →
    MatchResult r P Q → result_ok r ≡ Some s → P s
ok_part (Ok t) s P Q holds some = let same : t ≡ s = cc in subst P same holds
ok_part (Err e) s P Q holds some = absurd (cc)
