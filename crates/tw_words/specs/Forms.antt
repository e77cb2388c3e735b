-- Forms of words: what a form makes of words, put together from parts that have one word each.
use Rattle.std.specs.Prelude.{ℕ, suc, ◌-◌, List, [], ◌∷◌, length, min, Option, Some, None, Result, Ok, Err, ◌==◌, nat_le, if◌then◌else◌}
use Rattle.std.specs.Option.{option_map_or}
use Rattle.std.specs.Str.{bytes_eq}
use Rattle.tw_base.specs.kinds.Names.{is_name_text, padded_name}
use Rattle.tw_text.specs.Words.{is_number_within, word_number, is_digest, word_digest}
use Rattle.tw_words.specs.declared.command.Command.{Command}

-- what is made of words; or how many of them are left, from the first one on at which it goes no further
abbrev pub WordsReading : Type 0 → Type 0
WordsReading X = Result X ℕ

-- a form: what it makes of words, its command where they are words of this form
abbrev pub Form : Type 0
Form = List (List ℕ) → WordsReading Command

-- ---- reading words

module _ {V : Type 0} where
  -- the value of the first word, and the words behind it
  unfoldable pub next : (part : List ℕ → Option V) → List (List ℕ) → WordsReading (V × List (List ℕ))
  next part [] = Err 0
  next part (word ∷ words) = option_map_or (λ value. Ok (value, words)) (part word) (Err (suc (length words)))

module _ {V X : Type 0} where
  -- what is made of a value that was read
  abbrev pub give : (V → X) → WordsReading V → WordsReading X
  give made (Ok value) = Ok (made value)
  give made (Err left) = Err left

  -- what goes on from a value that was read, with the words behind it
  abbrev pub go_on : WordsReading (V × List (List ℕ)) → (V → List (List ℕ) → WordsReading X) → WordsReading X
  go_on (Ok taken) behind = behind taken.0 taken.1
  go_on (Err left) behind = Err left

-- ---- one word, and then the form for its value

module _ {V : Type 0} where
  abbrev pub then_form : (part : List ℕ → Option V) → (V → Form) → Form
  then_form part form words = go_on (next part words) form

-- a path: any word of at least one byte
abbrev pub path_value : List ℕ → Option (List ℕ)
path_value word = if nat_le 1 (length word) then Some word else None

abbrev pub path : (List ℕ → Form) → Form
path = then_form path_value

-- the name of a service
abbrev pub name_value : List ℕ → Option (List ℕ)
name_value word = if is_name_text word then Some (padded_name word) else None

abbrev pub name_form : (List ℕ → Form) → Form
name_form = then_form name_value

-- a number within a range
abbrev pub number_value : (least most : ℕ) → List ℕ → Option ℕ
number_value least most word = if is_number_within least most word then Some (word_number word) else None

abbrev pub number_form : (least most : ℕ) → (ℕ → Form) → Form
number_form least most = then_form (number_value least most)

-- a digest in hexadecimal digits of either case
abbrev pub digest_value : List ℕ → Option (List ℕ)
digest_value word = if is_digest word then Some (word_digest word) else None

abbrev pub digest_form : (List ℕ → Form) → Form
digest_form = then_form digest_value

-- a word of a table, which names the form
abbrev pub form_named : List (List ℕ × Form) → List ℕ → Option Form
form_named [] word = None
form_named (row ∷ rows) word = if bytes_eq word row.0 then Some row.1 else form_named rows word

abbrev pub choose_form : List (List ℕ × Form) → Form
choose_form rows = then_form (form_named rows) (λ form. form)

-- ---- the end of the words

-- there are no more words
unfoldable pub no_words : List (List ℕ) → WordsReading (Unit {0})
no_words [] = Ok tt
no_words (word ∷ words) = Err (suc (length words))

abbrev pub end : Command → Form
end command words = give (λ done. command) (no_words words)

-- there is one more word, a number up to the greatest one, or none
unfoldable pub maybe_number : (most : ℕ) → List (List ℕ) → WordsReading (Option ℕ)
maybe_number most [] = Ok None
maybe_number most (word ∷ words) =
    go_on (next (number_value 0 most) (word ∷ words)) (λ number behind. give (λ done. Some number) (no_words behind))

abbrev pub maybe_up_to : (most : ℕ) → (Option ℕ → Command) → Form
maybe_up_to most command words = give command (maybe_number most words)

-- the same of any number of 64 bits
abbrev pub maybe : (Option ℕ → Command) → Form
maybe = maybe_up_to 0xffff_ffff_ffff_ffff

-- how many words, from the first on, are paths
abbrev pub count_paths : List (List ℕ) → ℕ
count_paths [] = 0
count_paths (word ∷ words) = if nat_le 1 (length word) then suc (count_paths words) else 0

-- the words are paths, and at most so many
unfoldable pub paths : (most : ℕ) → List (List ℕ) → WordsReading (List (List ℕ))
paths most words = let taken = min most (count_paths words) in if taken == length words then Ok words else Err (length words - taken)

abbrev pub at_most_paths : (most : ℕ) → (List (List ℕ) → Command) → Form
at_most_paths most command words = give command (paths most words)

abbrev pub any_paths : (List (List ℕ) → Command) → Form
any_paths command words = at_most_paths (length words) command words

-- ---- two forms

-- the command of the first that the words have; where they have none, as few words are left as one of the two leaves
abbrev pub either_reading : (one other : WordsReading Command) → WordsReading Command
either_reading (Ok command) other = Ok command
either_reading (Err left) (Ok command) = Ok command
either_reading (Err left) (Err other) = Err (min left other)

abbrev pub either : (one other : Form) → Form
either one other words = either_reading (one words) (other words)
