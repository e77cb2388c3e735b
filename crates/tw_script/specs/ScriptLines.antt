-- What a script that is read says of the texts of its lines, and what the number of a bad line says.
use Rattle.std.specs.Prelude.{◌≡◌, ℕ, suc, ◌+◌, ◌≤◌, List, [], ◌∷◌, ◌++◌, slice_get, take, true, false, Some, None, Ok, Err}
use Rattle.tw_base.specs.kinds.Lists.{Each, In}
use Rattle.tw_script.specs.Allowed.{made_by, may_follow, nothing_made}
use Rattle.tw_script.specs.LineTable.{line_of}
use Rattle.tw_script.specs.Scripts.{allowed_line, is_skipped, line_texts, read_lines}
use Rattle.tw_script.specs.declared.made.Made.{Made}
use Rattle.tw_script.specs.declared.script.NumberedLine.{NumberedLine}

-- what lines made, one after another
abbrev pub made_by_all : Made → List NumberedLine → Made
made_by_all made [] = made
made_by_all made (first ∷ rest) = made_by_all (made_by made first.line) rest

-- each line may follow those before it
abbrev pub AreAllowed : Made → List NumberedLine → Type 0
AreAllowed made [] = Unit {0}
AreAllowed made (first ∷ rest) = (may_follow made first.line ≡ true) × AreAllowed (made_by made first.line) rest

-- the lines' numbers rise, from this one on
abbrev pub RiseFrom : (least : ℕ) → List NumberedLine → Type 0
RiseFrom least [] = Unit {0}
RiseFrom least (first ∷ rest) = (least ≤ first.number) × RiseFrom (suc first.number) rest

module _ (number : ℕ) (texts : List (List ℕ)) where
  -- the text with the line's number, where the first text has this one, isn't skipped, and is the line
  pub record IsLineOf (numbered : NumberedLine) : Type 0 where
    pub index : ℕ
    pub counted : numbered.number ≡ number + index
    pub text : List ℕ
    pub stands : slice_get texts index ≡ Some text
    pub unskipped : is_skipped text ≡ false
    pub line_is : line_of text ≡ Some numbered.line

  -- the lines are those of the texts that aren't skipped, each with its number, in their order; and each may follow those before it
  pub record AreLines (made : Made) (lines : List NumberedLine) : Type 0 where
    pub of_texts : Each IsLineOf lines
    pub rise : RiseFrom number lines
    pub all : (index : ℕ) (text : List ℕ) → slice_get texts index ≡ Some text → is_skipped text ≡ false
        → (numbered : NumberedLine) × (numbered.number ≡ number + index) × In numbered lines
    pub allowed : AreAllowed made lines

  -- the text with this number is bad: the texts before it are lines, but it is none that may follow them; so, whatever texts come
  -- behind it, reading them tells this number
  pub record IsFirstBad (made : Made) (bad : ℕ) : Type 0 where
    pub index : ℕ
    pub counted : bad ≡ number + index
    pub text : List ℕ
    pub stands : slice_get texts index ≡ Some text
    pub unskipped : is_skipped text ≡ false
    pub before : List NumberedLine
    pub good : read_lines made number (take index texts) ≡ Ok before
    pub none : allowed_line (made_by_all made before) text ≡ None
    pub first : (more : List (List ℕ)) → read_lines made number (take (suc index) texts ++ more) ≡ Err bad

-- the lines of a file
abbrev pub IsScript : (bytes : List ℕ) → List NumberedLine → Type 0
IsScript bytes script = AreLines 1 (line_texts bytes) nothing_made script

abbrev pub IsBadLine : (bytes : List ℕ) → (line : ℕ) → Type 0
IsBadLine bytes line = IsFirstBad 1 (line_texts bytes) nothing_made line
