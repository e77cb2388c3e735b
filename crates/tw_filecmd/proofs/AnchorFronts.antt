-- No good line of an anchors file is long, and there are few: so the first bad line of the bytes up to a limit is that
-- of all.
use Rattle.std.proofs.Common.{◌≡◌, ℕ, zero, suc, ◌+◌, ◌*◌, ◌^◌, ◌<◌, ◌≤◌, List, [], ◌∷◌, ◌++◌, length, take, drop, map}
use Rattle.std.proofs.Common.{Bool, true, false, not, ◌&&◌, leb, leb-true, eqb, refl, ap, sym, ◌∙◌, subst, arith, inl}
use Rattle.std.proofs.Common.{inr, ◌⊎◌, length-append, pow_mono, pow-suc}
use Rattle.std.specs.Prelude.{Result, Err, is_ok, nat_le, if◌then◌else◌, ◌%◌, ◌/◌}
use Rattle.std.specs.Char.{digit_value}
use Rattle.std.specs.List.{after_first, before_first, list_all, list_any, position_or_len}
use Rattle.std.specs.Str.Parse.{digits_value_after}
use Rattle.std.proofs.lemmas.Bool.{cases_lt}
use Rattle.std.proofs.lemmas.List.{length-drop, length-map, length-take, length-take-le, take-append-drop, take_all}
use Rattle.std.proofs.lemmas.List.{take-take, get_or-take, take-append-le, drop-append-le}
use Rattle.std.proofs.lemmas.List.Folds.{prefix_len-append}
use Rattle.std.proofs.lemmas.List.Sums.{prefix_len-le-length}
use Rattle.std.proofs.lemmas.Bool.Decides.{nat_tests}
use Rattle.tw_base.specs.declared.history.thread.Thread.{Thread}
use Rattle.tw_base.specs.kinds.Names.{is_name_text, is_name_byte}
use Rattle.tw_text.specs.Words.{is_digest, is_number, word_number}
use Rattle.tw_msg.specs.AnchorsFile.{AllGood, IsFirstBadLine, anchor_on, digest_word, is_anchor, is_blank, is_good}
use Rattle.tw_msg.specs.AnchorsFile.{is_line_feed, is_of, line_at, lines, line_may_follow, name_word, step_word}
use Rattle.tw_msg.proofs.LineLaws.{lines-first}
use Rattle.tw_msg.proofs.Reading.{anchor-words, both, not_true, number-pos}

-- of a proof or an anchors file so many bytes are read
abbrev pub file_limit : ℕ
file_limit = 5242880

-- ---- a good line is short

-- each further digit at least doubles the value
doubled : (n : ℕ) (ds : List ℕ) → n * 2 ^ length ds ≤ digits_value_after 10 n ds
doubled n [] = omega arith
doubled n (d ∷ ds) =
    let power : 2 ^ suc (length ds) ≡ 2 ^ length ds * 2 = pow-suc 2 (length ds) in
    let twice : n * 2 ^ suc (length ds) ≡ n * (2 ^ length ds * 2) = ap (λ q. n * q) power in
    omega (arith, twice, doubled (n * 10 + digit_value d) ds)

digit-some : (d : ℕ) → (d ≡ 48 → ⊥) → 1 ≤ digit_value d
digit-some d other = elim (cases_lt d 48) [
  | inl below ↦ grind (arith, nat_tests)
  | inr above ↦ grind (arith, nat_tests)
]

le-mul_some : (a b : ℕ) → 1 ≤ a → b ≤ a * b
le-mul_some zero b some = absurd (omega arith)
le-mul_some (suc a) b some = omega arith

-- a number of two digits or more has no leading zero
first_digit : (d e : ℕ) (ds : List ℕ) → is_number (d ∷ e ∷ ds) ≡ true → d ≡ 48 → ⊥
first_digit d e ds number zeroth = grind (arith, nat_tests)

number-short : (word : List ℕ) → is_number word ≡ true → word_number word ≤ 0xff_ffff_ffff → length word ≤ 41
number-short [] number low = omega arith
number-short (d ∷ []) number low = omega arith
number-short (d ∷ e ∷ ds) number low =
    let some : 1 ≤ digit_value d = digit-some d (first_digit d e ds number) in
    let first_value : ℕ = 0 * 10 + digit_value d in
    let most : first_value * 2 ^ length (e ∷ ds) ≤ word_number (d ∷ e ∷ ds) = doubled first_value (e ∷ ds) in
    let least : 2 ^ length (e ∷ ds) ≤ first_value * 2 ^ length (e ∷ ds) = le-mul_some first_value (2 ^ length (e ∷ ds))
    (omega (arith, some)) in
    elim (cases_lt 40 (length (e ∷ ds))) [
      | inl more ↦
          let power : 2 ^ 40 ≤ 2 ^ length (e ∷ ds) = pow_mono {i = 40} {j = length (e ∷ ds)} (omega (arith, more)) in
          absurd (omega (arith, power, least, most, low))
      | inr few ↦ omega (arith, few)
    ]

name-short : (word : List ℕ) → is_name_text word ≡ true → length word ≤ 16
name-short word name =
    leb-true (length word) 16
    (both (nat_le 1 (length word)) (nat_le (length word) 16) (both (nat_le 1 (length word) && nat_le (length word) 16)
    (list_all is_name_byte word) name).0).1

two_tests : {E : Type 0} (odd sized : Bool) (e f : E) (r : Result (List ℕ) E)
    → is_ok (if odd then Err e else (if sized then r else Err f)) ≡ true
    → (odd ≡ false) × (sized ≡ true)
two_tests true sized e f r ok = absurd (cc)
two_tests false true e f r ok = (refl, refl)
two_tests false false e f r ok = absurd (cc)

digest-short : (word : List ℕ) → is_digest word ≡ true → length word ≤ 64
digest-short word digest =
    let tests = two_tests (eqb (length word % 2) 1) (eqb (length word / 2) 32) _ _ _ digest in
    grind (arith, nat_tests)

parts-length : (p : ℕ → Bool) (xs : List ℕ) → length xs ≤ length (before_first p xs) + 1 + length (after_first p xs)
parts-length p xs =
    let place = position_or_len p xs in
    omega (arith, length-take place xs, length-drop (place + 1) xs, prefix_len-le-length (λ b. not (p b)) xs)

anchor-short : (line : List ℕ) → is_anchor line ≡ true → length line ≤ 127
anchor-short line holds =
    let words = anchor-words line holds in
    let number = number-pos (step_word line) words.1 in
    omega (
      arith,
      parts-length is_blank line,
      parts-length is_blank (after_first is_blank line),
      name-short (name_word line) words.0,
      number-short (step_word line) number.0 number.2,
      digest-short (digest_word line) words.2,
    )

-- ---- good lines are few and short

is_anchor-line_may_follow : (anchors : List Thread) (line : List ℕ) → line_may_follow anchors line ≡ true
    → is_anchor line ≡ true
is_anchor-line_may_follow anchors line follows =
    (both (leb (suc (length anchors)) 64) (is_anchor line) (both (leb (suc (length anchors)) 64 && is_anchor line)
    (not (list_any (is_of (anchor_on line).from) anchors)) follows).0).1

few-line_may_follow : (anchors : List Thread) (line : List ℕ) → line_may_follow anchors line ≡ true
    → length anchors < 64
few-line_may_follow anchors line follows =
    leb-true (suc (length anchors)) 64
    (both (leb (suc (length anchors)) 64) (is_anchor line) (both (leb (suc (length anchors)) 64 && is_anchor line)
    (not (list_any (is_of (anchor_on line).from) anchors)) follows).0).0

good-short : (all : List (List ℕ)) (i : ℕ) → is_good all i ≡ true → length (line_at all i) ≤ 127
good-short all i good = anchor-short (line_at all i) (is_anchor-line_may_follow (map anchor_on (take i all))
    (line_at all i) good)

good-few : (all : List (List ℕ)) (i : ℕ) → i < length all → is_good all i ≡ true → i < 64
good-few all i inside good =
    omega (
      arith,
      few-line_may_follow (map anchor_on (take i all)) (line_at all i) good,
      length-map (take i all) anchor_on,
      length-take-le i all (omega (arith, inside)),
    )

long-bad : (anchors : List Thread) (line : List ℕ) → 127 < length line → line_may_follow anchors line ≡ false
long-bad anchors line long =
    not_true (line_may_follow anchors line)
    (λ follows. omega (arith, long, anchor-short line (is_anchor-line_may_follow anchors line follows)))

-- ---- the lines of a front

abbrev first : List ℕ → List ℕ
first bytes = before_first is_line_feed bytes

abbrev rest : List ℕ → List ℕ
rest bytes = after_first is_line_feed bytes

position-append : (xs ys : List ℕ) → position_or_len is_line_feed xs < length xs
    → position_or_len is_line_feed (xs ++ ys) ≡ position_or_len is_line_feed xs
position-append xs ys inside = let joined = prefix_len-append (λ b. not (is_line_feed b)) xs ys in
    grind (arith, nat_tests)

position-past : (xs ys : List ℕ) → length xs ≤ position_or_len is_line_feed xs → length xs ≤ position_or_len
    is_line_feed (xs ++ ys)
position-past xs ys none =
    let joined = prefix_len-append (λ b. not (is_line_feed b)) xs ys in
    let within = prefix_len-le-length (λ b. not (is_line_feed b)) xs in
    grind (arith, nat_tests)

-- a front with a line feed has the same first line, and the rest goes on behind its own rest
first-append : (xs ys : List ℕ) → position_or_len is_line_feed xs < length xs → (first (xs ++ ys) ≡ first xs)
    × (rest (xs ++ ys) ≡ rest xs ++ ys)
first-append xs ys inside =
    let place : ℕ = position_or_len is_line_feed xs in
    let same : position_or_len is_line_feed (xs ++ ys) ≡ place = position-append xs ys inside in (
      ap (λ n. take n (xs ++ ys)) same ∙ take-append-le place xs ys (omega (arith, inside)),
      ap (λ n. drop (n + 1) (xs ++ ys)) same ∙ drop-append-le (place + 1) xs ys (omega (arith, inside)),
    )

-- without one, the first line is the front, or the front and more
first-long : (xs ys : List ℕ) → length xs ≤ position_or_len is_line_feed xs → (length (first xs) ≡ length xs)
    × (length xs ≤ length (first (xs ++ ys)))
first-long xs ys none =
    let within = prefix_len-le-length (λ b. not (is_line_feed b)) (xs ++ ys) in (
      omega (arith, length-take (position_or_len is_line_feed xs) xs, none),
      omega (
        arith,
        length-take (position_or_len is_line_feed (xs ++ ys)) (xs ++ ys),
        length-append xs ys,
        position-past xs ys none,
        within,
      ),
    )

-- a line of the one is that of the other, or it is long in both
abbrev pub IsHere : (all front : List (List ℕ)) → ℕ → Type 0
IsHere all front k = (line_at all k ≡ line_at front k)
    ⊎ ((127 < length (line_at front k)) × (127 < length (line_at all k)))

first_here : (xs ys : List ℕ) → 127 < length xs → IsHere (first (xs ++ ys) ∷ lines (rest (xs ++ ys)))
    (first xs ∷ lines (rest xs)) zero
first_here xs ys big = elim (cases_lt (position_or_len is_line_feed xs) (length xs)) [
  | inl found ↦ inl (first-append xs ys found).0
  | inr none ↦ let long = first-long xs ys none in inr (omega (arith, long.0, big), omega (arith, long.1, big))
]

-- the first k lines of the front, all short, are those of the whole; the next line is there, and is the same or is long
-- in both
pub record SameLines (xs ys : List ℕ) (k : ℕ) : Type 0 where
  taken : take k (lines (xs ++ ys)) ≡ take k (lines xs)
  here : IsHere (lines (xs ++ ys)) (lines xs) k
  inside : k < length (lines xs)
  inside_all : k < length (lines (xs ++ ys))

same_lines : (k : ℕ) (xs ys : List ℕ) → 128 * (k + 1) ≤ length xs
    → ((i : ℕ) → i < k → length (line_at (lines xs) i) ≤ 127) → SameLines xs ys k
same_lines zero xs ys big short =
    let of_front = lines-first xs (omega (arith, big)) in
    let of_all = lines-first (xs ++ ys) (omega (arith, big, length-append xs ys)) in
    record {
      taken = refl;
      here = subst (λ ls. IsHere ls (lines xs) zero) (sym of_all)
          (subst (λ ls. IsHere (first (xs ++ ys) ∷ lines (rest (xs ++ ys))) ls zero) (sym of_front)
          (first_here xs ys (omega (arith, big))));
      inside = subst (λ ls. 0 < length ls) (sym of_front) (omega arith);
      inside_all = subst (λ ls. 0 < length ls) (sym of_all) (omega arith);
    }
same_lines (suc k) xs ys big short =
    by (same_lines k (rest xs) ys rest_big rest_short) (cases_lt (position_or_len is_line_feed xs) (length xs))
  where
    of_front : lines xs ≡ first xs ∷ lines (rest xs)
    of_front = lines-first xs (omega (arith, big))

    first_short : length (first xs) ≤ 127
    first_short = subst (λ ls. length (line_at ls 0) ≤ 127) of_front (short 0 (omega arith))

    rest_big : 128 * (k + 1) ≤ length (rest xs)
    rest_big = let size : length xs ≤ length (first xs) + 1 + length (rest xs) = parts-length is_line_feed xs in
        omega (arith, size, first_short, big)

    rest_short : (i : ℕ) → i < k → length (line_at (lines (rest xs)) i) ≤ 127
    rest_short i below = subst (λ ls. length (line_at ls (suc i)) ≤ 127) of_front (short (suc i) (omega (arith, below)))

    by : SameLines (rest xs) ys k → (position_or_len is_line_feed xs < length xs)
        ⊎ (length xs ≤ position_or_len is_line_feed xs) → SameLines xs ys (suc k)
    by next (inr none) = absurd (omega (arith, (first-long xs ys none).0, first_short, big))
    by next (inl found) =
        let parts = first-append xs ys found in
        let of_all : lines (xs ++ ys) ≡ first xs ∷ lines (rest xs ++ ys) =
        lines-first (xs ++ ys) (omega (arith, big, length-append xs ys)) ∙ (λ i. parts.0 i ∷ lines (parts.1 i)) in
        record {
          taken = ap (take (suc k)) of_all ∙ ap (λ ls. first xs ∷ ls) next.taken ∙ sym (ap (take (suc k)) of_front);
          here = subst (λ ls. IsHere ls (lines xs) (suc k)) (sym of_all)
              (subst (λ ls. IsHere (first xs ∷ lines (rest xs ++ ys)) ls (suc k)) (sym of_front) next.here);
          inside = subst (λ ls. suc k < length ls) (sym of_front) (omega (arith, next.inside));
          inside_all = subst (λ ls. suc k < length ls) (sym of_all) (omega (arith, next.inside_all));
        }

-- ---- what was read of a file

good_part : (xs ys : List ℕ) (k i : ℕ) → SameLines xs ys k → i < k → is_good (lines xs) i ≡ is_good (lines (xs ++ ys)) i
good_part xs ys k i same below =
    let whole : List (List ℕ) = lines (xs ++ ys) in
    let front : List (List ℕ) = lines xs in
    let taken : take i whole ≡ take i front = sym (take-take i k whole (omega (arith, below))) ∙ ap (take i) same.taken
    ∙ take-take i k front (omega (arith, below)) in
    let line : line_at whole i ≡ line_at front i = sym (get_or-take k whole i [] below) ∙ ap (λ ls. line_at ls i)
    same.taken ∙ get_or-take k front i [] below in
    sym (λ j. line_may_follow (map anchor_on (taken j)) (line j))

bad_part : (xs ys : List ℕ) (k : ℕ) → SameLines xs ys k → is_good (lines xs) k ≡ false → is_good (lines (xs ++ ys)) k
    ≡ false
bad_part xs ys k same bad = by same.here
  where
    by : IsHere (lines (xs ++ ys)) (lines xs) k → is_good (lines (xs ++ ys)) k ≡ false
    by (inl line) = (λ j. line_may_follow (map anchor_on (same.taken j)) (line j)) ∙ bad
    by (inr long) = long-bad (map anchor_on (take k (lines (xs ++ ys)))) (line_at (lines (xs ++ ys)) k) long.1

-- the bytes up to the limit, and the others
front_size : (bytes : List ℕ) → file_limit < length bytes → length (take file_limit bytes) ≡ file_limit
front_size bytes longer = length-take-le file_limit bytes (omega (arith, longer))

-- each of the first lines is there
inside_by : (all : List ℕ) → 8320 ≤ length all → AllGood (lines all) → (n : ℕ) → n ≤ 64 → (i : ℕ) → i < n
    → i < length (lines all)
inside_by all big good zero few i below = absurd (omega (arith, below))
inside_by all big good (suc n) few i below =
    let before = inside_by all big good n (omega (arith, few)) in
    let there : n < length (lines all) =
    (same_lines n all [] (omega (arith, few, big))
    (λ j under. good-short (lines all) j (good j (before j under)))).inside in
    omega (arith, there, below)

-- so many bytes have more than 64 lines, or a long one
too_many : (all : List ℕ) → 8320 ≤ length all → AllGood (lines all) → ⊥
too_many all big good =
    let sized : (n : ℕ) → n ≤ 64 → ((i : ℕ) → i < n → i < length (lines all)) → SameLines all [] n =
    λ n few inside. same_lines n all [] (omega (arith, few, big))
    (λ i below. good-short (lines all) i (good i (inside i below))) in
    let full = good-few (lines all) 64 (sized 64 (omega arith) (inside_by all big good 64 (omega arith))).inside
    (good 64 (sized 64 (omega arith) (inside_by all big good 64 (omega arith))).inside) in
    omega (arith, full)

pub good_is_whole : (all bytes : List ℕ) → all ≡ take file_limit bytes → AllGood (lines all) → all ≡ bytes
good_is_whole all bytes is good = elim (cases_lt file_limit (length bytes)) [
  | inl longer ↦
      let size : length all ≡ file_limit = ap length is ∙ front_size bytes longer in
      absurd (too_many all (omega (arith, size)) good)
  | inr fits ↦ is ∙ take_all file_limit bytes fits
]

few_before : (front : List ℕ) (n : ℕ) → n < length (lines front) → ((i : ℕ) → i < n → is_good (lines front) i ≡ true)
    → n < 65
few_before front n within before = elim (cases_lt 64 n) [
  | inl more ↦ let full = good-few (lines front) 64 (omega (arith, within, more)) (before 64 more) in
      absurd (omega (arith, full))
  | inr few ↦ omega (arith, few)
]

pub first_bad_of_front : (bytes : List ℕ) (number : ℕ) → IsFirstBadLine (lines (take file_limit bytes)) number
    → IsFirstBadLine (lines bytes) number
first_bad_of_front bytes number bad = elim (cases_lt file_limit (length bytes)) [
  | inl longer ↦
      let front : List ℕ = take file_limit bytes in
      let others : List ℕ = drop file_limit bytes in
      let few : bad.index < 65 = few_before front bad.index bad.within bad.before in
      let same : SameLines front others bad.index = same_lines bad.index front others
      (omega (arith, few, front_size bytes longer)) (λ i below. good-short (lines front) i (bad.before i below)) in
      let is_all : front ++ others ≡ bytes = take-append-drop file_limit bytes in
      subst (λ b. IsFirstBadLine (lines b) number) is_all (record {
        index = bad.index;
        counted = bad.counted;
        within = same.inside_all;
        bad = bad_part front others bad.index same bad.bad;
        before = λ i below. sym (good_part front others bad.index i same below) ∙ bad.before i below;
      })
  | inr fits ↦ subst (λ b. IsFirstBadLine (lines b) number) (take_all file_limit bytes fits) bad
]
