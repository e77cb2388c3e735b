-- Anchors files: one anchor a line, `NAME STEP HEX`.
use Rattle.std.specs.Prelude.{◌≡◌, ℕ, ◌+◌, ◌<◌, List, [], ◌∷◌, length, take, map, Bool, true, false, not, ◌&&◌, ◌==◌, nat_lt}
use Rattle.std.specs.List.{slice_split, before_first, after_first, list_any, slice_index_or}
use Rattle.std.specs.Str.{bytes_eq}
use Rattle.tw_base.specs.declared.kinds.limits.TheConstants.{LAST_STEP, MOST_ANCHORS}
use Rattle.tw_base.specs.kinds.Names.{is_name_text, padded_name}
use Rattle.tw_base.specs.declared.history.thread.Thread.{Thread}
use Rattle.tw_text.specs.declared.fault.CommandFault.{CommandFault}
use Rattle.tw_text.specs.declared.fault.CommandFault.TheVariants.{NoMemory, Unreadable}
use Rattle.tw_text.specs.declared.refusal.BadInput.TheVariants.{BadLine}
use Rattle.tw_text.specs.Words.{is_number_within, word_number, is_digest, word_digest}

-- ---- lines

abbrev pub is_line_feed : ℕ → Bool
is_line_feed b = b == 10

-- what follows the last line feed is a line only if it has bytes
abbrev pub last_line : List ℕ → List (List ℕ)
last_line [] = []
last_line (b ∷ bs) = (b ∷ bs) ∷ []

-- the lines in the parts between line feeds
abbrev pub lines_of_parts : List (List ℕ) → List (List ℕ)
lines_of_parts [] = []
lines_of_parts (last ∷ []) = last_line last
lines_of_parts (line ∷ next ∷ more) = line ∷ lines_of_parts (next ∷ more)

-- the lines of a file: each is ended by one line feed, which the last may lack
abbrev pub lines : List ℕ → List (List ℕ)
lines bytes = lines_of_parts (slice_split is_line_feed bytes)

-- ---- one line

abbrev pub is_blank : ℕ → Bool
is_blank b = b == 32

-- the three words of a line, with one blank between
abbrev pub name_word : List ℕ → List ℕ
name_word line = before_first is_blank line

abbrev pub step_word : List ℕ → List ℕ
step_word line = before_first is_blank (after_first is_blank line)

abbrev pub digest_word : List ℕ → List ℕ
digest_word line = after_first is_blank (after_first is_blank line)

-- a service's name, the number of a step from 1 on, and a digest in hexadecimal digits of either case
abbrev pub is_anchor : List ℕ → Bool
is_anchor line = is_name_text (name_word line) && is_number_within 1 LAST_STEP (step_word line) && is_digest (digest_word line)

abbrev pub anchor_on : List ℕ → Thread
anchor_on line = record {
  from = padded_name (name_word line);
  step = word_number (step_word line);
  auth = word_digest (digest_word line);
}

-- ---- a file

abbrev pub is_of : (service : List ℕ) → Thread → Bool
is_of service thread = bytes_eq thread.from service

-- the line may follow those of these anchors: it is an anchor of another service, and one of at most 64
abbrev pub line_may_follow : List Thread → (line : List ℕ) → Bool
line_may_follow anchors line = nat_lt (length anchors) MOST_ANCHORS && is_anchor line && not (list_any (is_of (anchor_on line).from) anchors)

abbrev pub line_at : List (List ℕ) → ℕ → List ℕ
line_at lines i = slice_index_or lines i []

-- the line with this index may follow the lines before it
abbrev pub is_good : List (List ℕ) → ℕ → Bool
is_good lines i = line_may_follow (map anchor_on (take i lines)) (line_at lines i)

abbrev pub AllGood : List (List ℕ) → Type 0
AllGood lines = (i : ℕ) → i < length lines → is_good lines i ≡ true

-- the number of the first line, counted from 1, that may not follow those before it
pub record IsFirstBadLine (lines : List (List ℕ)) (number : ℕ) : Type 0 where
  pub index : ℕ
  pub counted : number ≡ index + 1
  pub within : index < length lines
  pub bad : is_good lines index ≡ false
  pub before : (i : ℕ) → i < index → is_good lines i ≡ true

-- why the bytes of a file of this name hold no anchors: the first bad line, which the fault names with the file. Want of memory is free
abbrev pub IsNoAnchors : (file bytes : List ℕ) → CommandFault → Type 0
IsNoAnchors file bytes (Unreadable (BadLine named number)) = (named ≡ file) × IsFirstBadLine (lines bytes) number
IsNoAnchors file bytes NoMemory = Unit {0}
IsNoAnchors file bytes _ = ⊥
