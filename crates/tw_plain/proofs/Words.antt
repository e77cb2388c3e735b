-- What a field tells: its text is a word, and of no other value.
use Rattle.std.proofs.Common.{◌≡◌, ℕ, suc, zero, ◌<◌, ◌^◌, ◌/◌, ◌%◌, List, [], ◌∷◌, length, refl, ap, sym, ◌∙◌, arith, lit<, true}
use Rattle.std.specs.Prelude.{decimal, slice_index, Some, Ok, ◌&&◌, nat_le}
use Rattle.std.specs.List.{list_all}
use Rattle.std.proofs.lemmas.Bool.{and_parts}
use Rattle.std.specs.Char.{digit_value}
use Rattle.std.specs.Str.Parse.{AllDigits}
use Rattle.std.proofs.lemmas.Fmt.{decimal_injective, decimal_is_IsNumeral}
use Rattle.hex.specs.Hex.{IsBytes, decode_of, encode_with, hex_digit_value, lower_digits}
use Rattle.hex.proofs.HexLemmas.{IsDigits-lower_digits, decode_of-encode_lower}
use Rattle.tw_base.specs.kinds.Bytes.{AreBytes}
use Rattle.tw_base.specs.kinds.Names.{IsName, is_name_byte, name_text, padded_name}
use Rattle.tw_base.proofs.lemmas.format.FieldLaws.{name_text-is}
use Rattle.tw_text.specs.Lines.{hex_text}
use Rattle.tw_plain.proofs.Cutting.{IsWord}

-- ---- names

letter-word : (b : ℕ) → is_name_byte b ≡ true → 32 < b
letter-word b is = grind arith

pub letters-word : (bs : List ℕ) → list_all is_name_byte bs ≡ true → IsWord bs
letters-word [] all = tt
letters-word (b ∷ bs) all =
    let parts = and_parts (is_name_byte b) (list_all is_name_byte bs) all in
    (letter-word b parts.0, letters-word bs parts.1)

pub name-word : (name : List ℕ) → IsName name → IsWord (name_text name)
name-word name is =
    let text : List ℕ = name_text name in
    letters-word text (and_parts (nat_le 1 (length text) && nat_le (length text) 16) (list_all is_name_byte text) (name_text-is name is).0).1

pub name-once : (one other : List ℕ) → IsName one → IsName other → name_text one ≡ name_text other → one ≡ other
name-once one other is are same =
    sym (name_text-is one is).1 ∙ ap padded_name same ∙ (name_text-is other are).1

-- ---- bytes

digit-word : (c d : ℕ) → hex_digit_value c ≡ Some d → 32 < c
digit-word c d is = grind arith

hex-words : (bs : List ℕ) → AreBytes bs → IsWord (encode_with lower_digits bs)
unfolding encode_with
hex-words [] are = tt
hex-words (b ∷ bs) are =
    let small : b < 256 = are.0 in
    let high : b / 16 < 16 = omega arith in
    let low : b % 16 < 16 = omega arith in (
      digit-word (slice_index lower_digits (b / 16)) (b / 16) (IsDigits-lower_digits (b / 16) high),
      (digit-word (slice_index lower_digits (b % 16)) (b % 16) (IsDigits-lower_digits (b % 16) low), hex-words bs are.1),
    )

pub hex-word : (bs : List ℕ) → AreBytes bs → IsWord (hex_text bs)
hex-word [] are = (lit< tt, tt)
hex-word (b ∷ bs) are = hex-words (b ∷ bs) are

are-bytes : (bs : List ℕ) → AreBytes bs → IsBytes bs
are-bytes [] are i = lit< tt
are-bytes (b ∷ bs) are zero = are.0
are-bytes (b ∷ bs) are (suc i) = are-bytes bs are.1 i

-- `-` is no digits of a byte or more
two_digits : (b : ℕ) (bs : List ℕ) → 45 ∷ [] ≡ encode_with lower_digits (b ∷ bs) → ⊥
unfolding encode_with
two_digits b bs same = cc

pub hex-once : (one other : List ℕ) → AreBytes one → AreBytes other → hex_text one ≡ hex_text other → one ≡ other
hex-once [] [] is are same = refl
hex-once [] (b ∷ bs) is are same = absurd (two_digits b bs same)
hex-once (b ∷ bs) [] is are same = absurd (two_digits b bs (sym same))
hex-once (b ∷ bs) (c ∷ cs) is are same =
    let decoded : Ok (b ∷ bs) ≡ Ok (c ∷ cs) = sym (decode_of-encode_lower (b ∷ bs) (are-bytes (b ∷ bs) is))
    ∙ ap decode_of same ∙ decode_of-encode_lower (c ∷ cs) (are-bytes (c ∷ cs) are) in
    cc

-- ---- numbers

digit-high : (c : ℕ) → digit_value c < 10 → 32 < c
digit-high c is = grind arith

digits-word : (bs : List ℕ) → AllDigits 10 bs → IsWord bs
digits-word [] all = tt
digits-word (b ∷ bs) all = (digit-high b all.0, digits-word bs all.1)

pub number-word : (n : ℕ) → n < 2 ^ 64 → IsWord (decimal n)
number-word n small = digits-word (decimal n) (decimal_is_IsNumeral n small).0.1

pub number-once : (m n : ℕ) → m < 2 ^ 64 → n < 2 ^ 64 → decimal m ≡ decimal n → m ≡ n
number-once = decimal_injective
