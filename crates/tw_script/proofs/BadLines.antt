-- A bad line that is told is the first one.
use Rattle.std.proofs.Common.{◌≡◌, ℕ, suc, ◌+◌, List, [], ◌∷◌, ◌++◌, length, take, Bool, true, false, nat_lt, Option}
use Rattle.std.proofs.Common.{Some, None, Result, Ok, Err, if◌then◌else◌, ap, sym, ◌∙◌, refl, arith}
use Rattle.tw_script.specs.Allowed.{made_by, nothing_made}
use Rattle.tw_script.specs.ScriptLines.{IsBadLine, IsFirstBad}
use Rattle.tw_script.specs.Scripts.{allowed_line, in_front, is_skipped, line_number_at, line_texts, read_lines}
use Rattle.tw_script.specs.Scripts.{script_of, told}
use Rattle.tw_script.specs.declared.limits.TheConstants.{MOST_SCRIPT_BYTES}
use Rattle.tw_script.specs.declared.line.Line.{Line}
use Rattle.tw_script.specs.declared.made.Made.{Made}
use Rattle.tw_script.specs.declared.script.NumberedLine.{NumberedLine}
use Rattle.tw_script.specs.declared.script.ScriptFault.TheVariants.{BadLine, TooLong}
use Rattle.tw_script.proofs.ReadingSteps.{numbered, read-line, read-none, read-skipped, read-stops}

module _ (made : Made) (number : ℕ) (text : List ℕ) (texts : List (List ℕ)) (bad : ℕ) where
  bad-skipped : is_skipped text ≡ true → IsFirstBad (suc number) texts made bad → IsFirstBad number (text ∷ texts) made
      bad
  bad-skipped skipped inner = record {
    index = suc inner.index;
    counted = omega (arith, inner.counted);
    text = inner.text;
    stands = inner.stands;
    unskipped = inner.unskipped;
    before = inner.before;
    good = read-skipped made number text (take inner.index texts) skipped ∙ inner.good;
    none = inner.none;
    first = λ more. read-skipped made number text (take (suc inner.index) texts ++ more) skipped ∙ inner.first more;
  }

  bad-here : is_skipped text ≡ false → allowed_line made text ≡ None → number ≡ bad → IsFirstBad number (text ∷ texts)
      made bad
  bad-here told none same = record {
    index = 0;
    counted = omega (arith, same);
    text = text;
    stands = refl;
    unskipped = told;
    before = [];
    good = read-none made number;
    none = none;
    first = λ more. read-stops made number text more told none ∙ ap (λ (n : ℕ). Err n) same;
  }

  bad-behind : (line : Line) → is_skipped text ≡ false → allowed_line made text ≡ Some line → IsFirstBad (suc number)
      texts (made_by made line) bad
      → IsFirstBad number (text ∷ texts) made bad
  bad-behind line told is inner = record {
    index = suc inner.index;
    counted = omega (arith, inner.counted);
    text = inner.text;
    stands = inner.stands;
    unskipped = inner.unskipped;
    before = numbered number line ∷ inner.before;
    good = read-line made number text (take inner.index texts) line told is ∙ ap (in_front (numbered number line))
        inner.good;
    none = inner.none;
    first = λ more.
        read-line made number text (take (suc inner.index) texts ++ more) line told is
        ∙ ap (in_front (numbered number line)) (inner.first more);
  }

  bad-front : (line : Line) → is_skipped text ≡ false → allowed_line made text ≡ Some line
      → (r : Result (List NumberedLine) ℕ)
      → read_lines (made_by made line) (suc number) texts ≡ r → in_front (numbered number line) r ≡ Err bad
      → (read_lines (made_by made line) (suc number) texts ≡ Err bad → IsFirstBad (suc number) texts (made_by made line)
      bad)
      → IsFirstBad number (text ∷ texts) made bad
  bad-front line told allowed (Ok more) is err rest = absurd (cc)
  bad-front line told allowed (Err n) is err rest = bad-behind line told allowed (rest (is ∙ err))

  bad-by : read_lines made number (text ∷ texts) ≡ Err bad
      → ((next : Made) → read_lines next (suc number) texts ≡ Err bad → IsFirstBad (suc number) texts next bad)
      → (b : Bool) → is_skipped text ≡ b → (o : Option Line) → allowed_line made text ≡ o
      → IsFirstBad number (text ∷ texts) made bad
  bad-by err rest true skipped o is =
      bad-skipped skipped (rest made (sym (read-skipped made number text texts skipped) ∙ err))
  bad-by err rest false told None is = bad-here told is (same-number number bad (read_lines made number (text ∷ texts))
      (read-stops made number text texts told is) err)
    where
      same-number : (one other : ℕ) (r : Result (List NumberedLine) ℕ) → r ≡ Err one → r ≡ Err other → one ≡ other
      same-number one other r is also = cc
  bad-by err rest false told (Some line) is =
      bad-front line told is (read_lines (made_by made line) (suc number) texts) refl
      (sym (read-line made number text texts line told is) ∙ err) (rest (made_by made line))

pub bad-read : (texts : List (List ℕ)) (made : Made) (number bad : ℕ) → read_lines made number texts ≡ Err bad
    → IsFirstBad number texts made bad
bad-read [] made number bad err = absurd (let both : Ok [] ≡ Err bad = sym (read-none made number) ∙ err in cc)
bad-read (text ∷ texts) made number bad err =
    bad-by made number text texts bad err (λ next more. bad-read texts next (suc number) bad more) (is_skipped text)
    refl (allowed_line made text) refl

pub bad-lines : (bytes : List ℕ) (line : ℕ) → script_of bytes ≡ Err (BadLine line) → read_lines nothing_made 1
    (line_texts bytes) ≡ Err line
unfolding script_of
bad-lines bytes line err = by (nat_lt MOST_SCRIPT_BYTES (length bytes)) (read_lines nothing_made 1 (line_texts bytes))
    refl err
  where
    by : (b : Bool) (r : Result (List NumberedLine) ℕ) → read_lines nothing_made 1 (line_texts bytes) ≡ r
        → (if b then Err (TooLong (line_number_at MOST_SCRIPT_BYTES bytes)) else told r) ≡ Err (BadLine line)
        → read_lines nothing_made 1 (line_texts bytes) ≡ Err line
    by true r is err = absurd (cc)
    by false (Ok lines) is err = absurd (cc)
    by false (Err n) is err =
        let same : n ≡ line = cc in
        is ∙ ap (λ (l : ℕ). Err l) same

pub is-bad-line : (bytes : List ℕ) (line : ℕ) → script_of bytes ≡ Err (BadLine line) → IsBadLine bytes line
is-bad-line bytes line err = bad-read (line_texts bytes) nothing_made 1 line (bad-lines bytes line err)
