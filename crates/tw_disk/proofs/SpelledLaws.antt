-- What the bytes of a page spell.
use Rattle.std.proofs.Common.{◌≡◌, ℕ, suc, zero, ◌+◌, ◌-◌, List, [], ◌∷◌, ◌++◌, length, replicate, drop, refl, ap, sym}
use Rattle.std.proofs.Common.{◌∙◌, arith, subst, Result, Ok, Err, Bool, true, false}
use Rattle.std.specs.Prelude.{◌==◌}
use Rattle.std.proofs.lemmas.Bool.{and_parts, eqb-true}
use Rattle.std.proofs.lemmas.List.{drop_at}
use Rattle.tw_base.specs.format.Codecs.{Codec}
use Rattle.tw_base.specs.format.Formats.{Placed}
use Rattle.tw_base.specs.format.PageBytes.{IsPageOf}
use Rattle.tw_base.proofs.lemmas.format.CodecLaws.{Lawful}
use Rattle.tw_base.proofs.lemmas.format.FormatLaws.{read_at-spells, read_at-word}
use Rattle.tw_disk.specs.Found.{Found, is_zeros, or_bad, spelled, when}
use Rattle.tw_disk.specs.Found.Found.{Is, Bad}
use Rattle.tw_disk.proofs.FoundLaws.{same_found}

zeros-true : (count : ℕ) (bytes : List ℕ) → bytes ≡ replicate count 0 → is_zeros count bytes ≡ true
zeros-true count bytes is = ap (is_zeros count) is ∙ own count
  where
    own : (n : ℕ) → is_zeros n (replicate n 0) ≡ true
    own zero = refl
    own (suc n) = own n

true-zeros : (count : ℕ) (bytes : List ℕ) → is_zeros count bytes ≡ true → bytes ≡ replicate count 0
true-zeros zero [] e = refl
true-zeros zero (b ∷ bytes) e = cc
true-zeros (suc count) [] e = cc
true-zeros (suc count) (b ∷ bytes) e =
    let parts = and_parts (b == 0) (is_zeros count bytes) e in
    (λ j. eqb-true b 0 parts.0 j ∷ true-zeros count bytes parts.1 j)

-- the bytes are the spelling of this value, and zeros up to the size
pub record Spelt {X : Type 0} (size : ℕ) (c : Codec X) (bytes : List ℕ) (x : X) : Type 0 where
  pub bytes_are : bytes ≡ c.write x ++ replicate (size - length (c.write x)) 0
  pub fits : c.Fits x

module _ {X : Type 0} (page size : ℕ) (c : Codec X) (l : Lawful c) (bytes : List ℕ) where
  pub spelled-is : (x : X) → Spelt size c bytes x → spelled page size c bytes ≡ Is x
  unfolding spelled
  spelled-is x is =
      let word : List ℕ = c.write x in
      let zeros : List ℕ = replicate (size - length word) 0 in
      let rest : drop (0 + length word) bytes ≡ replicate (size - (0 + length word)) 0 =
      ap (drop (0 + length word)) is.bytes_are ∙ drop_at word zeros (0 + length word) (omega arith)
      ∙ ap (λ (n : ℕ). replicate (size - n) 0) (omega arith) in
      ap (or_bad page size bytes) (sym (l.reads bytes 0) ∙ read_at-word c.format bytes word zeros 0 x
      (l.spells x is.fits) is.bytes_are)
      ∙ ap (λ (b : Bool). when b page x) (zeros-true (size - (0 + length word)) (drop (0 + length word) bytes) rest)

  -- what is read in front of zeros is spelled
  spelt : (read : Placed X) → c.read bytes 0 ≡ Ok read → is_zeros (size - read.after) (drop read.after bytes) ≡ true
      → Spelt size c bytes read.value
  spelt read e is =
      let got = read_at-spells c.format bytes 0 read.after read.value (l.reads bytes 0 ∙ e) in
      let words = l.words got.0 read.value got.4 in
      let after : length got.0 ≡ read.after = omega (arith, got.3) in
      let rest : got.1 ≡ replicate (size - read.after) 0 = sym (drop_at got.0 got.1 read.after after)
      ∙ ap (drop read.after) (sym got.2) ∙ true-zeros (size - read.after) (drop read.after bytes) is in
      let counts : read.after ≡ length (c.write read.value) = sym after ∙ ap (λ (t : List ℕ). length t) words.0 in
      record {
        bytes_are = got.2 ∙ (λ j. words.0 j ++ rest j) ∙ ap (λ (n : ℕ). c.write read.value ++ replicate (size - n) 0)
            counts;
        fits = words.1;
      }

  module _ (x : X) where
    was_zeros : (read : Placed X) → c.read bytes 0 ≡ Ok read → (b : Bool) → is_zeros (size - read.after)
        (drop read.after bytes) ≡ b → when b page read.value ≡ Is x → Spelt size c bytes x
    was_zeros read e false is found = cc
    was_zeros read e true is found = subst (Spelt size c bytes) (same_found read.value x found) (spelt read e is)

    was_word : (r : Result (Placed X) ℕ) → c.read bytes 0 ≡ r → or_bad page size bytes r ≡ Is x → Spelt size c bytes x
    was_word (Err place) e found = cc
    was_word (Ok read) e found = was_zeros read e (is_zeros (size - read.after) (drop read.after bytes)) refl found

    -- and only then
    pub is-spelled : spelled page size c bytes ≡ Is x → Spelt size c bytes x
    unfolding spelled
    is-spelled found = was_word (c.read bytes 0) refl found

  -- the page that is told is this one
  bad_test : (b : Bool) (x : X) (p : ℕ) → when b page x ≡ Bad p → ◌≡◌ {A = Found X} (Bad p) (Bad page)
  bad_test true x p e = cc
  bad_test false x p e = sym e

  bad_word : (r : Result (Placed X) ℕ) (p : ℕ) → or_bad page size bytes r ≡ Bad p → ◌≡◌ {A = Found X} (Bad p) (Bad page)
  bad_word (Err place) p e = sym e
  bad_word (Ok read) p e = bad_test (is_zeros (size - read.after) (drop read.after bytes)) read.value p e

  pub spelled-bad : (p : ℕ) → spelled page size c bytes ≡ Bad p → spelled page size c bytes ≡ Bad page
  unfolding spelled
  spelled-bad p e = e ∙ bad_word (c.read bytes 0) p e

  module _ (none : (x : X) → Spelt size c bytes x → ⊥) where
    no_zeros : (read : Placed X) → c.read bytes 0 ≡ Ok read → (b : Bool) → is_zeros (size - read.after)
        (drop read.after bytes) ≡ b → when b page read.value ≡ Bad page
    no_zeros read e false is = refl
    no_zeros read e true is = absurd (none read.value (spelt read e is))

    no_word : (r : Result (Placed X) ℕ) → c.read bytes 0 ≡ r → or_bad page size bytes r ≡ Bad page
    no_word (Err place) e = refl
    no_word (Ok read) e = no_zeros read e (is_zeros (size - read.after) (drop read.after bytes)) refl

    pub spelled-none : spelled page size c bytes ≡ Bad page
    unfolding spelled
    spelled-none = no_word (c.read bytes 0) refl

-- the same of a page
module _ {X : Type 0} (page : ℕ) (c : Codec X) (l : Lawful c) (bytes : List ℕ) where
  pub page-is : (x : X) → IsPageOf c bytes x → spelled page 4096 c bytes ≡ Is x
  page-is x is = spelled-is page 4096 c l bytes x (record { bytes_are = is.bytes; fits = is.fits })

  pub page-none : ((x : X) → IsPageOf c bytes x → ⊥) → spelled page 4096 c bytes ≡ Bad page
  page-none none = spelled-none page 4096 c l bytes (λ x is. none x (record { bytes = is.bytes_are; fits = is.fits }))
