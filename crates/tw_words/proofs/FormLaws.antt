-- Words that are none of a table's, and paths counted word by word.
use Rattle.std.proofs.Common.{◌≡◌, ℕ, ◌+◌, ◌<◌, List, ◌∷◌, length, drop, map, suc, get_or, if◌then◌else◌, ap, ◌∙◌, sym}
use Rattle.std.proofs.Common.{add-one, Bool, true, false, refl, subst, nat_le, Option, None, Some, Result, Ok, Err, [], ◌++◌}
use Rattle.std.proofs.Math.Seq.{drop-cons}
use Rattle.std.proofs.lemmas.List.{length-map}
use Rattle.std.specs.Bool.{Decides}
use Rattle.std.specs.Option.{option_map_or}
use Rattle.std.specs.Str.{bytes_eq}
use Rattle.std.proofs.lemmas.Slice.Eq.{bytes_eq-Decides}
use Rattle.tw_words.specs.Forms.{Form, choose_form, count_paths, form_named, go_on, next}
use Rattle.tw_words.specs.Takings.{MakesCommand, MakesNamed}
use Rattle.tw_words.specs.declared.command.Command.{Command}
use Rattle.tw_words.specs.declared.cursor.Stop.{Stop}

-- the word names no form of the table
abbrev pub IsOther : List (List ℕ × Form) → List ℕ → Type 0
IsOther [] word = Unit {0}
IsOther (row ∷ rows) word = (word ≡ row.0 → ⊥) × IsOther rows word

none_named : (rows : List (List ℕ × Form)) (word : List ℕ) → IsOther rows word → form_named rows word ≡ None
none_named [] word other = refl
none_named (row ∷ rows) word other = by (bytes_eq word row.0) (bytes_eq-Decides word row.0)
    (none_named rows word other.1)
  where
    by : (b : Bool) → Decides b (word ≡ row.0) → form_named rows word ≡ None
        → (if b then Some row.1 else form_named rows word) ≡ None
    by true decides none = absurd (other.0 (decides.0 refl))
    by false decides none = none

module _ (word : List ℕ) (behind : List (List ℕ)) where
  -- what is made of a form of the first of two tables is made of both
  first_table : (one other : List (List ℕ × Form)) (made : Result Command Stop)
      → MakesNamed (form_named one word) behind (Some made) → MakesNamed (form_named (one ++ other) word) behind (Some made)
  first_table [] other made makes = absurd makes
  first_table (row ∷ one) other made makes = by (bytes_eq word row.0) (first_table one other made) makes
    where
      by : (b : Bool) → (MakesNamed (form_named one word) behind (Some made)
          → MakesNamed (form_named (one ++ other) word) behind (Some made))
          → MakesNamed (if b then Some row.1 else form_named one word) behind (Some made)
          → MakesNamed (if b then Some row.1 else form_named (one ++ other) word) behind (Some made)
      by true further makes = makes
      by false further makes = further makes

  -- where the first names none, of the second
  second_table : (one other : List (List ℕ × Form)) (made : Option (Result Command Stop))
      → MakesNamed (form_named one word) behind None → MakesNamed (form_named other word) behind made
      → MakesNamed (form_named (one ++ other) word) behind made
  second_table [] other made none makes = makes
  second_table (row ∷ one) other made none makes = by (bytes_eq word row.0)
      (λ none. second_table one other made none makes) none
    where
      by : (b : Bool) → (MakesNamed (form_named one word) behind None
          → MakesNamed (form_named (one ++ other) word) behind made)
          → MakesNamed (if b then Some row.1 else form_named one word) behind None
          → MakesNamed (if b then Some row.1 else form_named (one ++ other) word) behind made
      by true further none = absurd none
      by false further none = further none

-- of words that are seen through a view, the first of which is this word
module _ {S : Type 0} (text : S → List ℕ) {words rest : List S} {first : S} {word : List ℕ} (split : words ≡ first ∷ rest)
    (is : word ≡ text first) where
  abbrev behind : List (List ℕ)
  behind = map text rest

  viewed : word ∷ behind ≡ map text words
  viewed = ap (λ w. w ∷ behind) is ∙ ap (λ ws. map text ws) (sym split)

  -- where it names no form of the table, none goes on at it
  stops : (rows : List (List ℕ × Form)) → form_named rows word ≡ None
      → choose_form rows (map text words) ≡ Err (length words)
  unfolding next
  stops rows none = subst (λ ws. choose_form rows ws ≡ Err (length ws)) viewed (rw none refl)
      ∙ ap (λ (n : ℕ). Err n) (length-map words text)

  pub none_goes_on : (rows : List (List ℕ × Form)) → IsOther rows word
      → choose_form rows (map text words) ≡ Err (length words)
  none_goes_on rows other = stops rows (none_named rows word other)

  -- what is made of the form that it names in one of three tables is what all make of the words
  module _ (one two three : List (List ℕ × Form)) where
    makes_chosen : (made : Result Command Stop) → MakesNamed (form_named (one ++ (two ++ three)) word) behind (Some made)
        → MakesCommand (choose_form (one ++ (two ++ three)) (map text words)) made
    unfolding next
    makes_chosen made makes =
        subst (λ ws. MakesCommand (choose_form (one ++ (two ++ three)) ws) made) viewed
        (by (form_named (one ++ (two ++ three)) word) makes)
      where
        by : (o : Option Form) → MakesNamed o behind (Some made)
            → MakesCommand (go_on (option_map_or (λ form. Ok (form, behind)) o (Err (suc (length behind)))) (λ form. form)) made
        by (Some form) makes = makes
        by None makes = absurd makes

    pub of_first : (made : Result Command Stop) → MakesNamed (form_named one word) behind (Some made)
        → MakesCommand (choose_form (one ++ (two ++ three)) (map text words)) made
    of_first made makes = makes_chosen made (first_table word behind one (two ++ three) made makes)

    pub of_second : (made : Result Command Stop) → MakesNamed (form_named one word) behind None
        → MakesNamed (form_named two word) behind (Some made)
        → MakesCommand (choose_form (one ++ (two ++ three)) (map text words)) made
    of_second made none makes = makes_chosen made (second_table word behind one (two ++ three) (Some made) none
        (first_table word behind two three made makes))

    further : (made : Option (Result Command Stop)) → MakesNamed (form_named one word) behind None
        → MakesNamed (form_named two word) behind None → MakesNamed (form_named three word) behind made
        → MakesNamed (form_named (one ++ (two ++ three)) word) behind made
    further made none none_either makes = second_table word behind one (two ++ three) made none
        (second_table word behind two three made none_either makes)

    pub of_third : (made : Result Command Stop) → MakesNamed (form_named one word) behind None
        → MakesNamed (form_named two word) behind None → MakesNamed (form_named three word) behind (Some made)
        → MakesCommand (choose_form (one ++ (two ++ three)) (map text words)) made
    of_third made none none_either makes = makes_chosen made (further (Some made) none none_either makes)

    pub of_none : MakesNamed (form_named one word) behind None → MakesNamed (form_named two word) behind None
        → MakesNamed (form_named three word) behind None
        → choose_form (one ++ (two ++ three)) (map text words) ≡ Err (length words)
    of_none none none_either no_more = stops (one ++ (two ++ three)) (by (form_named (one ++ (two ++ three)) word)
        (further None none none_either no_more))
      where
        by : (o : Option Form) → MakesNamed o behind None → o ≡ None
        by (Some form) none = absurd none
        by None none = refl

-- the count from a word on, by whether that word is a path
pub count_paths-drop : {S : Type 0} (text : S → List ℕ) (words : List S) (i : ℕ) (word : S) → i < length words
    → word ≡ get_or words i word →
    count_paths (map text (drop i words)) ≡ (if nat_le 1 (length (text word))
    then suc (count_paths (map text (drop (i + 1) words))) else 0)
count_paths-drop text words i word within at =
    ap (λ rest. count_paths (map text rest)) (drop-cons words i word within ∙ ap (λ w. w ∷ drop (suc i) words) (sym at))
    ∙ ap (λ j. if nat_le 1 (length (text word)) then suc (count_paths (map text (drop j words))) else 0)
    (sym (add-one i))
