-- Names have 16 bytes.
use Rattle.std.proofs.Common.{◌≡◌, ℕ, suc, zero, ◌-◌, ◌<◌, ◌≤◌, List, [], ◌∷◌, length, replicate, ap, sym, ◌∙◌, subst}
use Rattle.std.proofs.Common.{arith, lit<, Bool, true, false, refl}
use Rattle.std.specs.Prelude.{IsTrue, ◌&&◌, ◌||◌, ◌==◌, nat_le}
use Rattle.std.specs.List.{list_all}
use Rattle.std.proofs.lemmas.Bool.{and_parts, leb-true}
use Rattle.std.proofs.lemmas.List.{length-append, length-replicate}
use Rattle.tw_base.specs.kinds.Bytes.{AreBytes, HasBytes}
use Rattle.tw_base.specs.kinds.Names.{IsName, is_name_byte, is_name_text}
use Rattle.tw_base.proofs.lemmas.kinds.ByteLemmas.{AreBytes-append}

pub name_text-size : (text : List ℕ) → IsTrue (is_name_text text) → (1 ≤ length text) × (length text ≤ 16)
name_text-size text is =
    let outer = and_parts (nat_le 1 (length text) && nat_le (length text) 16) (list_all is_name_byte text) is in
    let inner = and_parts (nat_le 1 (length text)) (nat_le (length text) 16) outer.0 in
    (leb-true 1 (length text) inner.0, leb-true (length text) 16 inner.1)

pub IsName-size : (bytes : List ℕ) → IsName bytes → length bytes ≡ 16
IsName-size bytes n =
    let small = name_text-size n.0 n.1 in
    ap length n.2 ∙ length-append n.0 (replicate (16 - length n.0) 0)
    ∙ omega (arith, small.1, length-replicate {A = ℕ} (16 - length n.0) 0)

name_byte-below : (b : ℕ) → is_name_byte b ≡ true → b < 256
name_byte-below b is = by (nat_le 97 b) (nat_le b 122) (nat_le 48 b) (nat_le b 57) refl refl is
  where
    same : b == 45 ≡ true → b < 256
    same e = let at : b ≡ 45 = grind (arith, e) in omega (arith, at)

    by : (a c d e : Bool) → nat_le b 122 ≡ c → nat_le b 57 ≡ e → ((a && c) || (d && e) || b == 45) ≡ true → b < 256
    by true true d e small few is = let low = leb-true b 122 small in omega (arith, low)
    by true false true true small few is = let low = leb-true b 57 few in omega (arith, low)
    by true false true false small few is = same is
    by true false false e small few is = same is
    by false c true true small few is = let low = leb-true b 57 few in omega (arith, low)
    by false c true false small few is = same is
    by false c false e small few is = same is

letters-bytes : (text : List ℕ) → list_all is_name_byte text ≡ true → AreBytes text
letters-bytes [] all = tt
letters-bytes (b ∷ bs) all =
    let parts = and_parts (is_name_byte b) (list_all is_name_byte bs) all in
    (name_byte-below b parts.0, letters-bytes bs parts.1)

zeros-bytes : (n : ℕ) → AreBytes (replicate n 0)
zeros-bytes zero = tt
zeros-bytes (suc n) = (lit< tt, zeros-bytes n)

pub IsName-bytes : (bytes : List ℕ) → IsName bytes → HasBytes 16 bytes
IsName-bytes bytes n =
    let outer = and_parts (nat_le 1 (length n.0) && nat_le (length n.0) 16) (list_all is_name_byte n.0) n.1 in (
      IsName-size bytes n,
      subst AreBytes (sym n.2) (AreBytes-append n.0 (replicate (16 - length n.0) 0) (letters-bytes n.0 outer.1)
          (zeros-bytes (16 - length n.0))),
    )
