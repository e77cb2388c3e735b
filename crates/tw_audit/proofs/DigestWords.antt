-- The four numbers of a digest tell it.
use Rattle.std.proofs.Common.{◌≡◌, ◌≢◌, ℕ, suc, zero, ◌-◌, ◌<◌, List, [], ◌∷◌, ◌++◌, length, get_or, take, drop, refl}
use Rattle.std.proofs.Common.{ap, sym, ◌∙◌, subst, arith, false}
use Rattle.std.specs.Prelude.{slice_range}
use Rattle.std.specs.Ordering.{is_eq, nat_cmp}
use Rattle.std.specs.declared.cmp.Ordering.{Ordering}
use Rattle.std.specs.declared.cmp.Ordering.TheVariants.{Less, Equal, Greater}
use Rattle.std.specs.Cmp.Lexicographic.{slice_cmp}
use Rattle.std.specs.Int.{from_be_bytes, to_be_bytes, w64}
use Rattle.std.proofs.lemmas.List.{drop-drop, length-drop, length-take-le, take-append-drop, take_all}
use Rattle.std.proofs.lemmas.Map.Lookups.{exact_bytes}
use Rattle.std.proofs.lemmas.Nat.{be_bytes_8}
use Rattle.tw_base.specs.kinds.Bytes.{AreBytes, HasBytes}
use Rattle.tw_base.proofs.lemmas.kinds.ListLemmas.{Each-parts}
use Rattle.tw_audit.specs.Tables.{words_of}

below : (bytes : List ℕ) → AreBytes bytes → (i : ℕ) → get_or bytes i 0 < 256
below [] are i = omega arith
below (b ∷ bytes) are zero = are.0
below (b ∷ bytes) are (suc i) = below bytes are.1 i

eight : (bytes : List ℕ) → length bytes ≡ 8 → AreBytes bytes → to_be_bytes w64 (from_be_bytes w64 bytes) ≡ bytes
eight bytes size are = be_bytes_8 bytes (from_be_bytes w64 bytes) size (below bytes are) refl

-- a digest of its four parts
record Parts (d : List ℕ) : Type 0 where
  whole : d ≡ slice_range d 0 8 ++ (slice_range d 8 16 ++ (slice_range d 16 24 ++ slice_range d 24 32))
  first : length (slice_range d 0 8) ≡ 8
  second : length (slice_range d 8 16) ≡ 8
  third : length (slice_range d 16 24) ≡ 8
  last : length (slice_range d 24 32) ≡ 8

parts : (d : List ℕ) → length d ≡ 32 → Parts d
parts d size =
    let from_8 : length (drop 8 d) ≡ 24 = length-drop 8 d ∙ ap (λ n. n - 8) size in
    let from_16 : length (drop 16 d) ≡ 16 = length-drop 16 d ∙ ap (λ n. n - 16) size in
    let from_24 : length (drop 24 d) ≡ 8 = length-drop 24 d ∙ ap (λ n. n - 24) size in
    let behind_8 : drop 8 (drop 8 d) ≡ drop 16 d = drop-drop 8 8 d in
    let behind_16 : drop 8 (drop 16 d) ≡ drop 24 d = drop-drop 8 16 d in
    record {
      whole =
          sym (take-append-drop 8 d)
          ∙ ap (λ x. take 8 d ++ x) (sym (take-append-drop 8 (drop 8 d))
          ∙ ap (λ x. take 8 (drop 8 d) ++ x) (behind_8 ∙ sym (take-append-drop 8 (drop 16 d))
          ∙ ap (λ x. take 8 (drop 16 d) ++ x) (behind_16 ∙ sym (take_all 8 (drop 24 d) (omega (arith, from_24))))));
      first = length-take-le 8 d (omega (arith, size));
      second = length-take-le 8 (drop 8 d) (omega (arith, from_8));
      third = length-take-le 8 (drop 16 d) (omega (arith, from_16));
      last = length-take-le 8 (drop 24 d) (omega (arith, from_24));
    }

-- the digest that has these words
of_words : List ℕ → List ℕ
of_words words =
    to_be_bytes w64 (get_or words 0 0) ++ (to_be_bytes w64 (get_or words 1 0)
    ++ (to_be_bytes w64 (get_or words 2 0) ++ to_be_bytes w64 (get_or words 3 0)))

of_words-is : (d : List ℕ) → HasBytes 32 d → of_words (words_of d) ≡ d
unfolding of_words
of_words-is d is =
    let p = parts d is.0 in
    let are_all : AreBytes (slice_range d 0 8 ++ (slice_range d 8 16 ++ (slice_range d 16 24 ++ slice_range d 24 32))) =
    subst AreBytes p.whole is.1 in
    let one = Each-parts (λ b. b < 256) (slice_range d 0 8)
    (slice_range d 8 16 ++ (slice_range d 16 24 ++ slice_range d 24 32)) are_all in
    let two = Each-parts (λ b. b < 256) (slice_range d 8 16) (slice_range d 16 24 ++ slice_range d 24 32) one.1 in
    let three = Each-parts (λ b. b < 256) (slice_range d 16 24) (slice_range d 24 32) two.1 in
    (λ k. eight (slice_range d 0 8) p.first one.0 k ++ (eight (slice_range d 8 16) p.second two.0 k
    ++ (eight (slice_range d 16 24) p.third three.0 k ++ eight (slice_range d 24 32) p.last three.1 k)))
    ∙ sym p.whole

pub words-tell : (d e : List ℕ) → HasBytes 32 d → HasBytes 32 e → words_of d ≡ words_of e → d ≡ e
words-tell d e is also same = sym (of_words-is d is) ∙ ap of_words same ∙ of_words-is e also

unequal : (o : Ordering) → (o ≡ Equal → ⊥) → is_eq o ≡ false
unequal Less differ = refl
unequal Equal differ = absurd (differ refl)
unequal Greater differ = refl

-- the words of two digests that differ compare as such
pub words-apart : (d e : List ℕ) → HasBytes 32 d → HasBytes 32 e → e ≢ d
    → is_eq (slice_cmp nat_cmp (words_of d) (words_of e)) ≡ false
words-apart d e is also differ =
    unequal (slice_cmp nat_cmp (words_of d) (words_of e))
    (λ same. differ (sym (words-tell d e is also (exact_bytes (words_of d) (words_of e) same))))
