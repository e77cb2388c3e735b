-- Forms of words: what a form makes of the words of a line, put together from parts that have one word each.
use Rattle.std.specs.Prelude.{ℕ, List, [], ◌∷◌, Option, Some, None, option_map, if◌then◌else◌}
use Rattle.std.specs.Option.{option_and_then}
use Rattle.std.specs.Str.{bytes_eq}
use Rattle.tw_words.specs.Forms.{name_value, number_value}

-- what is made of words; none where they haven't that form
abbrev pub Form : Type 0 → Type 0
Form X = List (List ℕ) → Option X

-- ---- reading words

module _ {V : Type 0} where
  -- the value of the first word, and the words behind it
  unfoldable pub next : (part : List ℕ → Option V) → List (List ℕ) → Option (V × List (List ℕ))
  next part [] = None
  next part (word ∷ words) = option_map (λ value. (value, words)) (part word)

  -- the values of all the words
  unfoldable pub all_values : (part : List ℕ → Option V) → List (List ℕ) → Option (List V)
  all_values part [] = Some []
  all_values part (word ∷ words) = option_and_then (λ value. option_map (λ values. value ∷ values) (all_values part words)) (part word)

-- there are no more words
unfoldable pub no_words : List (List ℕ) → Option (Unit {0})
no_words [] = Some tt
no_words (word ∷ words) = None

-- any number of 64 bits
abbrev pub any_number_value : List ℕ → Option ℕ
any_number_value = number_value 0 0xffff_ffff_ffff_ffff

-- there is one more word, any number of 64 bits, or none
unfoldable pub maybe_number : List (List ℕ) → Option (Option ℕ)
maybe_number [] = Some None
maybe_number (word ∷ words) = option_and_then (λ taken. option_map (λ done. Some taken.0) (no_words taken.1)) (next any_number_value (word ∷ words))

-- ---- forms

module _ {V X : Type 0} where
  -- one word, and then the form for its value
  abbrev pub then_form : (part : List ℕ → Option V) → (V → Form X) → Form X
  then_form part form words = option_and_then (λ taken. form taken.0 taken.1) (next part words)

module _ {X : Type 0} where
  -- a name, and a number within a range, as the command line has them
  abbrev pub name_form : (List ℕ → Form X) → Form X
  name_form = then_form name_value

  abbrev pub number_form : (least most : ℕ) → (ℕ → Form X) → Form X
  number_form least most = then_form (number_value least most)

  abbrev pub any_number : (ℕ → Form X) → Form X
  any_number = then_form any_number_value

  abbrev pub end : X → Form X
  end made words = option_map (λ done. made) (no_words words)

  abbrev pub maybe : (Option ℕ → X) → Form X
  maybe made words = option_map made (maybe_number words)

  -- a word of a table, which names the form
  abbrev pub form_named : List (List ℕ × Form X) → List ℕ → Option (Form X)
  form_named [] word = None
  form_named (row ∷ rows) word = if bytes_eq word row.0 then Some row.1 else form_named rows word

  abbrev pub choose_form : List (List ℕ × Form X) → Form X
  choose_form rows = then_form (form_named rows) (λ form. form)
