-- The lines that are read are those of the texts, with their numbers.
use Rattle.std.proofs.Common.{◌≡◌, ℕ, zero, suc, ◌+◌, List, [], ◌∷◌, length, slice_get, Bool, true, false, nat_lt}
use Rattle.std.proofs.Common.{Option, Some, None, Result, Ok, Err, if◌then◌else◌, ap, subst, sym, ◌∙◌, refl, inl, inr}
use Rattle.std.proofs.Common.{arith}
use Rattle.std.specs.Option.{option_and_then}
use Rattle.tw_base.specs.kinds.Lists.{Each, In}
use Rattle.tw_script.specs.AskedWords.{AsksWell}
use Rattle.tw_script.specs.Allowed.{made_by, may_follow, nothing_made}
use Rattle.tw_script.specs.LineTable.{line_of}
use Rattle.tw_script.specs.ScriptLines.{AreLines, IsLineOf, IsScript, RiseFrom}
use Rattle.tw_script.specs.Scripts.{allowed_line, in_front, is_skipped, line_number_at, line_texts, read_lines}
use Rattle.tw_script.specs.Scripts.{script_of, told}
use Rattle.tw_script.specs.declared.limits.TheConstants.{MOST_SCRIPT_BYTES}
use Rattle.tw_script.specs.declared.line.Line.{Line}
use Rattle.tw_script.specs.declared.made.Made.{Made}
use Rattle.tw_script.specs.declared.script.NumberedLine.{NumberedLine}
use Rattle.tw_script.specs.declared.script.ScriptFault.TheVariants.{TooLong}
use Rattle.tw_script.proofs.LineValues.{line-asks}
use Rattle.tw_script.proofs.ReadingSteps.{numbered, read-line, read-none, read-skipped, read-stops}

-- a text's line is its form's, and may follow
pub record IsAllowed (made : Made) (text : List ℕ) (line : Line) : Type 0 where
  pub is : line_of text ≡ Some line
  pub may : may_follow made line ≡ true

pub allowed-line : (made : Made) (text : List ℕ) (line : Line) → allowed_line made text ≡ Some line
    → IsAllowed made text line
unfolding allowed_line
allowed-line made text line some = by (line_of text) refl some
  where
    may : (other : Line) → line_of text ≡ Some other → (b : Bool) → may_follow made other ≡ b
        → (if b then Some other else None) ≡ Some line → IsAllowed made text line
    may other is true follows some =
        let same : other ≡ line = cc in
        subst (λ (l : Line). IsAllowed made text l) same (record { is = is; may = follows })
    may other is false follows some = absurd (cc)

    by : (o : Option Line) → line_of text ≡ o → option_and_then (λ (l : Line). if may_follow made l then Some l
        else None) o ≡ Some line → IsAllowed made text line
    by None is some = absurd (cc)
    by (Some other) is some = may other is (may_follow made other) refl some

-- ---- one text more in front

module _ (number : ℕ) (text : List ℕ) (texts : List (List ℕ)) where
  line-behind : (l : NumberedLine) → IsLineOf (suc number) texts l → IsLineOf number (text ∷ texts) l
  line-behind l of = record {
    index = suc of.index;
    counted = omega (arith, of.counted);
    text = of.text;
    stands = of.stands;
    unskipped = of.unskipped;
    line_is = of.line_is;
  }

  lines-behind : (ls : List NumberedLine) → Each (IsLineOf (suc number) texts) ls
      → Each (IsLineOf number (text ∷ texts)) ls
  lines-behind [] each = tt
  lines-behind (l ∷ ls) each = (line-behind l each.0, lines-behind ls each.1)

rise-lower : (number : ℕ) (ls : List NumberedLine) → RiseFrom (suc number) ls → RiseFrom number ls
rise-lower number [] rise = tt
rise-lower number (l ∷ ls) rise = (omega (arith, rise.0), rise.1)

differ : (text other : List ℕ) → Some text ≡ Some other → is_skipped text ≡ true → is_skipped other ≡ false → ⊥
differ text other at skipped told =
    let same : text ≡ other = cc in
    let both : true ≡ false = sym skipped ∙ ap (λ (t : List ℕ). is_skipped t) same ∙ told in cc

module _ (made : Made) (number : ℕ) (text : List ℕ) (texts : List (List ℕ)) where
  lines-skipped : (lines : List NumberedLine) → is_skipped text ≡ true → AreLines (suc number) texts made lines
      → AreLines number (text ∷ texts) made lines
  lines-skipped lines skipped inner = record {
    of_texts = lines-behind number text texts lines inner.of_texts;
    rise = rise-lower number lines inner.rise;
    all = all;
    allowed = inner.allowed;
  }
    where
      all : (index : ℕ) (other : List ℕ) → slice_get (text ∷ texts) index ≡ Some other → is_skipped other ≡ false
          → (l : NumberedLine) × (l.number ≡ number + index) × In l lines
      all zero other at told = absurd (differ text other at skipped told)
      all (suc index) other at told =
          let found = inner.all index other at told in
          (found.0, omega (arith, found.1), found.2)

  lines-more : (line : Line) (lines : List NumberedLine) → is_skipped text ≡ false → IsAllowed made text line
      → AreLines (suc number) texts (made_by made line) lines → AreLines number (text ∷ texts) made
      (numbered number line ∷ lines)
  lines-more line lines told allowed inner = record {
    of_texts = (
      record { index = 0; counted = omega arith; text = text; stands = refl; unskipped = told; line_is = allowed.is },
      lines-behind number text texts lines inner.of_texts,
    );
    rise = (omega arith, inner.rise);
    all = all;
    allowed = (allowed.may, inner.allowed);
  }
    where
      all : (index : ℕ) (other : List ℕ) → slice_get (text ∷ texts) index ≡ Some other → is_skipped other ≡ false
          → (l : NumberedLine) × (l.number ≡ number + index) × In l (numbered number line ∷ lines)
      all zero other at told = (numbered number line, omega arith, inl refl)
      all (suc index) other at told =
          let found = inner.all index other at told in
          (found.0, omega (arith, found.1), inr found.2)

  -- what the rest is read as
  lines-front : (line : Line) (lines : List NumberedLine) → is_skipped text ≡ false → IsAllowed made text line
      → (r : Result (List NumberedLine) ℕ)
      → read_lines (made_by made line) (suc number) texts ≡ r → in_front (numbered number line) r ≡ Ok lines
      → ((more : List NumberedLine) → read_lines (made_by made line) (suc number) texts ≡ Ok more
      → AreLines (suc number) texts (made_by made line) more)
      → AreLines number (text ∷ texts) made lines
  lines-front line lines told allowed (Ok more) is ok rest =
      let same : numbered number line ∷ more ≡ lines = cc in
      subst (λ (ls : List NumberedLine). AreLines number (text ∷ texts) made ls) same
      (lines-more line more told allowed (rest more is))
  lines-front line lines told allowed (Err bad) is ok rest = absurd (cc)

  lines-by : (lines : List NumberedLine) → read_lines made number (text ∷ texts) ≡ Ok lines
      → ((next : Made) (more : List NumberedLine) → read_lines next (suc number) texts ≡ Ok more → AreLines (suc number)
      texts next more)
      → (b : Bool) → is_skipped text ≡ b → (o : Option Line) → allowed_line made text ≡ o
      → AreLines number (text ∷ texts) made lines
  lines-by lines ok rest true skipped o is =
      lines-skipped lines skipped (rest made lines (sym (read-skipped made number text texts skipped) ∙ ok))
  lines-by lines ok rest false told None is =
      absurd (let stopped : Err number ≡ Ok lines = sym (read-stops made number text texts told is) ∙ ok in cc)
  lines-by lines ok rest false told (Some line) is =
      lines-front line lines told (allowed-line made text line is) (read_lines (made_by made line) (suc number) texts)
      refl
      (sym (read-line made number text texts line told is) ∙ ok) (rest (made_by made line))

same-lines : (one other : List NumberedLine) (r : Result (List NumberedLine) ℕ) → r ≡ Ok one → r ≡ Ok other
    → one ≡ other
same-lines one other r is also = cc

pub lines-read : (texts : List (List ℕ)) (made : Made) (number : ℕ) (lines : List NumberedLine) → read_lines made number
    texts ≡ Ok lines → AreLines number texts made lines
lines-read [] made number lines ok =
    let none : [] ≡ lines = same-lines [] lines (read_lines made number []) (read-none made number) ok in
    subst (λ (ls : List NumberedLine). AreLines number [] made ls) none
    (record { of_texts = tt; rise = tt; all = λ index other at told. absurd (cc); allowed = tt })
lines-read (text ∷ texts) made number lines ok =
    lines-by made number text texts lines ok (λ next more. lines-read texts next (suc number) more) (is_skipped text)
    refl (allowed_line made text) refl

-- ---- a file

pub script-lines : (bytes : List ℕ) (script : List NumberedLine) → script_of bytes ≡ Ok script → read_lines nothing_made
    1 (line_texts bytes) ≡ Ok script
unfolding script_of
script-lines bytes script ok = by (nat_lt MOST_SCRIPT_BYTES (length bytes))
    (read_lines nothing_made 1 (line_texts bytes)) refl ok
  where
    by : (b : Bool) (r : Result (List NumberedLine) ℕ) → read_lines nothing_made 1 (line_texts bytes) ≡ r
        → (if b then Err (TooLong (line_number_at MOST_SCRIPT_BYTES bytes)) else told r) ≡ Ok script
        → read_lines nothing_made 1 (line_texts bytes) ≡ Ok script
    by true r is ok = absurd (cc)
    by false (Ok lines) is ok =
        let same : lines ≡ script = cc in
        is ∙ ap (λ (ls : List NumberedLine). Ok ls) same
    by false (Err line) is ok = absurd (cc)

pub is-script : (bytes : List ℕ) (script : List NumberedLine) → script_of bytes ≡ Ok script → IsScript bytes script
is-script bytes script ok = lines-read (line_texts bytes) nothing_made 1 script (script-lines bytes script ok)

-- its lines are asked what a service may be asked
lines-ask : (number : ℕ) (texts : List (List ℕ)) (lines : List NumberedLine) → Each (IsLineOf number texts) lines
    → Each (λ (l : NumberedLine). AsksWell l.line) lines
lines-ask number texts [] are = tt
lines-ask number texts (l ∷ lines) are = (line-asks are.0.text l.line are.0.line_is, lines-ask number texts lines are.1)

pub script-asks : (bytes : List ℕ) (script : List NumberedLine) → script_of bytes ≡ Ok script
    → Each (λ (l : NumberedLine). AsksWell l.line) script
script-asks bytes script ok = lines-ask 1 (line_texts bytes) script (is-script bytes script ok).of_texts
