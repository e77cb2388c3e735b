-- A name's letters are UTF-8.
use Rattle.std.proofs.Common.{◌≡◌, ℕ, ◌<◌, List, [], ◌∷◌, length, true, ◌&&◌, nat_le, IsTrue, arith}
use Rattle.std.specs.List.{list_all}
use Rattle.std.specs.Str.{IsAscii, IsUtf8}
use Rattle.std.proofs.lemmas.Bool.{and_parts}
use Rattle.std.proofs.lemmas.Str.{IsUtf8-from_ascii}
use Rattle.std.proofs.lemmas.Str.Ascii.{IsAscii-cons, IsAscii-nil}
use Rattle.tw_base.specs.kinds.Names.{is_name_byte, is_name_text}

letter-small : (b : ℕ) → is_name_byte b ≡ true → b < 128
letter-small b is = grind arith

letters-ascii : (bs : List ℕ) → list_all is_name_byte bs ≡ true → IsAscii bs
letters-ascii [] all = IsAscii-nil
letters-ascii (b ∷ bs) all = let parts = and_parts (is_name_byte b) (list_all is_name_byte bs) all in
    IsAscii-cons b bs (letter-small b parts.0) (letters-ascii bs parts.1)

pub letters-utf8 : (text : List ℕ) → IsTrue (is_name_text text) → IsUtf8 text
letters-utf8 text is =
    IsUtf8-from_ascii text (letters-ascii text
    (and_parts (nat_le 1 (length text) && nat_le (length text) 16) (list_all is_name_byte text) is).1)
