-- Texts are read one after another.
use Rattle.std.proofs.Common.{◌≡◌, ℕ, suc, ◌+◌, ◌≤◌, List, [], ◌∷◌, ◌++◌, length, Bool, true, false, Some, None, Result}
use Rattle.std.proofs.Common.{Ok, Err, ap, subst, sym, ◌∙◌, refl, arith, append-nil, append_assoc}
use Rattle.tw_msg.specs.AnchorsFile.{is_line_feed}
use Rattle.tw_script.specs.Allowed.{made_by, nothing_made}
use Rattle.tw_script.specs.LineTakings.{TakesText}
use Rattle.tw_script.specs.ScriptSteps.{ReadsLines, ahead, fault_at}
use Rattle.tw_script.specs.Takings.{parts_left}
use Rattle.tw_script.specs.Scripts.{allowed_line, in_front, is_skipped, line_texts, read_lines}
use Rattle.tw_script.specs.declared.limits.TheConstants.{MOST_SCRIPT_BYTES}
use Rattle.tw_script.specs.declared.line.Line.{Line}
use Rattle.tw_script.specs.declared.line.Line.TheVariants.{Service, Hostile, Append, Send, Inject, Deliver, Lose, Crash}
use Rattle.tw_script.specs.declared.line.Line.TheVariants.{Prove, Join, Anchor, Verify}
use Rattle.tw_script.specs.declared.made.Made.{Made}
use Rattle.tw_script.specs.declared.script.NumberedLine.{NumberedLine}
use Rattle.tw_script.specs.declared.stop.Stop.{Stop}
use Rattle.tw_script.specs.declared.stop.Stop.TheVariants.{NotAllowed, NoMemory}
use Rattle.tw_script.proofs.PartLaws.{few-parts}

abbrev pub numbered : ℕ → Line → NumberedLine
numbered number line = record { number = number; line = line }

-- ---- one text

pub read-none : (made : Made) (number : ℕ) → read_lines made number [] ≡ Ok []
unfolding read_lines
read-none made number = refl

module _ (made : Made) (number : ℕ) (text : List ℕ) (texts : List (List ℕ)) where
  pub read-skipped : is_skipped text ≡ true → read_lines made number (text ∷ texts) ≡ read_lines made (suc number) texts
  unfolding read_lines
  read-skipped skipped = rw skipped refl

  pub read-line : (line : Line) → is_skipped text ≡ false → allowed_line made text ≡ Some line
      → read_lines made number (text ∷ texts) ≡ in_front (numbered number line)
      (read_lines (made_by made line) (suc number) texts)
  unfolding read_lines
  read-line line told is = rw (told, is) refl

  pub read-stops : is_skipped text ≡ false → allowed_line made text ≡ None → read_lines made number (text ∷ texts) ≡ Err
      number
  unfolding read_lines
  read-stops told none = rw (told, none) refl

-- ---- the texts so far

-- a line makes one file at most
files-made : (made : Made) (line : Line) → (made_by made line).files ≤ made.files + 1
unfolding made_by
files-made made (Service name) = omega arith
files-made made (Hostile name) = omega arith
files-made made (Append service events) = omega arith
files-made made (Send service since) = omega arith
files-made made (Inject name bytes) = omega arith
files-made made (Deliver message service) = omega arith
files-made made (Lose message) = omega arith
files-made made (Crash service call choice) = omega arith
files-made made (Prove service asked) = omega arith
files-made made (Join files) = omega arith
files-made made (Anchor service step) = omega arith
files-made made (Verify file) = omega arith

ahead-none : (r : Result (List NumberedLine) ℕ) → ahead [] r ≡ r
ahead-none (Ok more) = refl
ahead-none (Err number) = refl

ahead-one : (script : List NumberedLine) (line : NumberedLine) (r : Result (List NumberedLine) ℕ)
    → ahead script (in_front line r) ≡ ahead (script ++ line ∷ []) r
ahead-one script line (Ok more) = ap (λ (lines : List NumberedLine). Ok lines)
    (sym (append_assoc script (line ∷ []) more))
ahead-one script line (Err number) = refl

-- so many texts are read, as these lines, and these are left
pub record AreRead (bytes : List ℕ) (made : Made) (script : List NumberedLine) (number : ℕ)
    (left : List (List ℕ)) : Type 0 where
  pub read : read_lines nothing_made 1 (line_texts bytes) ≡ ahead script (read_lines made (suc number) left)
  pub few : number + length left ≤ MOST_SCRIPT_BYTES + 1
  pub files : made.files ≤ number

pub none-read : (bytes : List ℕ) → length bytes ≤ MOST_SCRIPT_BYTES → AreRead bytes nothing_made [] 0 (line_texts bytes)
none-read bytes within = record {
  read = sym (ahead-none (read_lines nothing_made 1 (line_texts bytes)));
  few = omega (arith, within, few-parts is_line_feed bytes);
  files = omega arith;
}

pub begun : (bytes : List ℕ) (made : Made) (script : List NumberedLine) (more : Bool) (text : List ℕ)
    → made ≡ nothing_made → script ≡ [] → more ≡ true → text ≡ bytes
    → length bytes ≤ MOST_SCRIPT_BYTES → AreRead bytes made script 0 (parts_left is_line_feed more text)
begun bytes made script true text none empty left whole within =
    subst (λ (m : Made). AreRead bytes m script 0 (line_texts text)) (sym none)
    (subst (λ (ls : List NumberedLine). AreRead bytes nothing_made ls 0 (line_texts text)) (sym empty)
    (subst (λ (t : List ℕ). AreRead bytes nothing_made [] 0 (line_texts t)) (sym whole) (none-read bytes within)))
begun bytes made script false text none empty left whole within = absurd (cc)

-- where a text is the first of those that are left
module _ {bytes : List ℕ} {made : Made} {script : List NumberedLine} {number : ℕ} {text : List ℕ}
    {texts left : List (List ℕ)} (so_far : AreRead bytes made script number texts) (is : texts ≡ text ∷ left) where
  before : AreRead bytes made script number (text ∷ left)
  before = subst (λ (ts : List (List ℕ)). AreRead bytes made script number ts) is so_far

  -- the next number
  up : suc number ≡ number + 1
  up = omega arith

  pub next-skipped : is_skipped text ≡ true → AreRead bytes made script (number + 1) left
  next-skipped skipped = record {
    read =
        before.read ∙ ap (ahead script) (read-skipped made (suc number) text left skipped
        ∙ ap (λ (n : ℕ). read_lines made (suc n) left) up);
    few = omega (arith, before.few);
    files = omega (arith, before.files);
  }

  pub next-line : (line : Line) → is_skipped text ≡ false → allowed_line made text ≡ Some line
      → AreRead bytes (made_by made line) (script ++ numbered (number + 1) line ∷ []) (number + 1) left
  next-line line told is = record {
    read =
        before.read ∙ ap (ahead script) (read-line made (suc number) text left line told is)
        ∙ ahead-one script (numbered (suc number) line) (read_lines (made_by made line) (suc (suc number)) left)
        ∙ ap (λ (n : ℕ). ahead (script ++ numbered n line ∷ []) (read_lines (made_by made line) (suc n) left)) up;
    few = omega (arith, before.few);
    files = omega (arith, before.files, files-made made line);
  }

  pub next-stops : is_skipped text ≡ false → allowed_line made text ≡ None → read_lines nothing_made 1
      (line_texts bytes) ≡ Err (number + 1)
  next-stops told none =
      before.read ∙ ap (ahead script) (read-stops made (suc number) text left told none) ∙ ap (λ (n : ℕ). Err n) up

  pub stops-at : (stop : Stop) (after : Made) → is_skipped text ≡ false → TakesText made text after (Err stop)
      → ReadsLines bytes (Err (fault_at (number + 1) stop))
  stops-at NotAllowed after told none = next-stops told none
  stops-at NoMemory after told free = tt

-- all are read
pub all-read : {bytes : List ℕ} {made : Made} {script : List NumberedLine} {number : ℕ} {texts : List (List ℕ)}
    → AreRead bytes made script number texts → texts ≡ [] → read_lines nothing_made 1 (line_texts bytes) ≡ Ok script
all-read {made = made} {script = script} {number = number} so_far none =
    so_far.read ∙ ap (λ (ts : List (List ℕ)). ahead script (read_lines made (suc number) ts)) none
    ∙ ap (ahead script) (read-none made (suc number)) ∙ ap (λ (lines : List NumberedLine). Ok lines)
    (append-nil script)
