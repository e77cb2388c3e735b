-- Which command words ask for that say what a reader says: to judge a proof under lines of a file, or under one line, to judge map
-- files, or to take over a history.
use Rattle.std.proofs.Common.{◌≡◌, ◌⊎◌, ℕ, suc, List, [], ◌∷◌, length, refl, ap, sym, ◌∙◌, inl, inr, arith}
use Rattle.std.specs.Prelude.{codes, Bool, true, false, min, nat_le, ◌==◌, ◌-◌, Option, Some, None, Ok, Err, if◌then◌else◌}
use Rattle.std.specs.Result.{result_ok}
use Rattle.std.proofs.lemmas.Bool.{le-leb}
use Rattle.std.proofs.lemmas.Option.{cond_some}
use Rattle.tw_base.specs.declared.kinds.limits.TheConstants.{LAST_STEP}
use Rattle.tw_base.specs.kinds.Names.{is_name_text, padded_name}
use Rattle.tw_plain.specs.Plain.{line_of_words}
use Rattle.tw_text.specs.Words.{is_digest, is_number_within, word_digest, word_number}
use Rattle.tw_words.specs.CommandLine.{adopt, check_map, command_of, strict, verify, verify_file, verify_one}
use Rattle.tw_words.specs.Forms.{Form, WordsReading, digest_value, either, either_reading, end, name_value, next, no_words, number_value, path, path_value}
use Rattle.tw_words.specs.Forms.{at_most_paths, count_paths, give, paths, then_form}
use Rattle.tw_words.specs.declared.limits.TheConstants.{MOST_ADOPTING}
use Rattle.tw_words.specs.declared.command.Command.{Command}
use Rattle.tw_words.specs.declared.command.Command.TheVariants.{Adopt, CheckMap, Strict, VerifyFile, VerifyOne}

-- ---- one word

-- a word that isn't empty is a path
some_path : (b : ℕ) (bs : List ℕ) → path_value (b ∷ bs) ≡ Some (b ∷ bs)
some_path b bs = ap (λ t. if t then Some (b ∷ bs) else None) (le-leb 1 (length (b ∷ bs)) (omega arith))

taken_path : (form : List ℕ → Form) (b : ℕ) (bs : List ℕ) (words : List (List ℕ)) → path form ((b ∷ bs) ∷ words) ≡ form (b ∷ bs) words
unfolding next
taken_path form b bs words = ap (λ o. then_form (λ word. o) form ((b ∷ bs) ∷ words)) (some_path b bs)

-- the last word of a form
last_path : (command : List ℕ → Command) (b : ℕ) (bs : List ℕ) → path (λ file. end (command file)) ((b ∷ bs) ∷ []) ≡ Ok (command (b ∷ bs))
unfolding no_words
last_path command b bs = taken_path (λ file. end (command file)) b bs []

-- what the words behind the first one make
pub verify_named : (words : List (List ℕ)) → command_of (codes "verify" ∷ words) ≡ result_ok (verify words)
unfolding next
verify_named words = refl

pub strict_named : (words : List (List ℕ)) → command_of (codes "strict" ∷ words) ≡ result_ok (strict words)
unfolding next
strict_named words = refl

pub verify_words : (proof file : List ℕ) (c : Command) → result_ok (verify (proof ∷ file ∷ [])) ≡ Some c → VerifyFile proof file ≡ c
unfolding verify verify_file verify_one next
verify_words [] file c is = let none : None ≡ Some c = is in cc
verify_words (b ∷ bs) [] c is =
    let behind = taken_path (λ proof. either (verify_file proof) (verify_one proof)) b bs ([] ∷ []) in
    let none : None ≡ Some c = sym (ap result_ok behind) ∙ is in cc
verify_words (b ∷ bs) (d ∷ ds) c is =
    let proof : List ℕ = b ∷ bs in
    let file : List ℕ = d ∷ ds in
    let behind = taken_path (λ proof. either (verify_file proof) (verify_one proof)) b bs (file ∷ []) in
    let read : either_reading (verify_file proof (file ∷ [])) (verify_one proof (file ∷ [])) ≡ Ok (VerifyFile proof file) =
    ap (λ r. either_reading r (verify_one proof (file ∷ []))) (last_path (λ anchors. VerifyFile proof anchors) d ds) in
    let command : Some (VerifyFile proof file) ≡ Some c = sym (ap result_ok (behind ∙ read)) ∙ is in
    cc

pub strict_words : (proof file : List ℕ) (c : Command) → result_ok (strict (proof ∷ file ∷ [])) ≡ Some c → Strict proof file ≡ c
unfolding strict next
strict_words [] file c is = let none : None ≡ Some c = is in cc
strict_words (b ∷ bs) [] c is =
    let behind = taken_path (λ proof. path (λ anchors. end (Strict proof anchors))) b bs ([] ∷ []) in
    let none : None ≡ Some c = sym (ap result_ok behind) ∙ is in cc
strict_words (b ∷ bs) (d ∷ ds) c is =
    let proof : List ℕ = b ∷ bs in
    let file : List ℕ = d ∷ ds in
    let behind = taken_path (λ proof. path (λ anchors. end (Strict proof anchors))) b bs (file ∷ []) in
    let read = last_path (λ anchors. Strict proof anchors) d ds in
    let command : Some (Strict proof file) ≡ Some c = sym (ap result_ok (behind ∙ read)) ∙ is in
    cc

-- ---- one line

module _ {V : Type 0} (part : List ℕ → Option V) (form : V → Form) (word : List ℕ) (words : List (List ℕ)) where
  -- a word that has a value, and one that has none
  taken_word : (v : V) → part word ≡ Some v → then_form part form (word ∷ words) ≡ form v words
  unfolding next
  taken_word v is = ap (λ o. then_form (λ w. o) form (word ∷ words)) is

  left_word : part word ≡ None → then_form part form (word ∷ words) ≡ Err (suc (length words))
  unfolding next
  left_word is = ap (λ o. then_form (λ w. o) form (word ∷ words)) is

-- it is the command, or none
abbrev IsOrNone : WordsReading Command → Command → Type 0
IsOrNone reading command = (reading ≡ Ok command) ⊎ ((left : ℕ) × (reading ≡ Err left))

-- a word that has this value, or none
module _ {V : Type 0} (part : List ℕ → Option V) (form : V → Form) (word : List ℕ) (words : List (List ℕ)) (v : V) (command : Command) where
  word_or_none : (o : Option V) → part word ≡ o → ((w : V) → part word ≡ Some w → w ≡ v) → IsOrNone (form v words) command
      → IsOrNone (then_form part form (word ∷ words)) command
  word_or_none None is only rest = inr (suc (length words), left_word part form word words is)
  word_or_none (Some w) is only (inl rest) =
      let value : w ≡ v = only w is in
      inl (taken_word part form word words v (is ∙ ap Some value) ∙ rest)
  word_or_none (Some w) is only (inr rest) =
      let value : w ≡ v = only w is in
      inr (rest.0, taken_word part form word words v (is ∙ ap Some value) ∙ rest.1)

the_value : {V : Type 0} (b : Bool) (v w : V) → (if b then Some v else None) ≡ Some w → w ≡ v
the_value b v w is = sym (cond_some b v w is).1

module _ (proof name step hex : List ℕ) where
  abbrev Line : Command
  Line = VerifyOne proof (line_of_words name step hex)

  ended : IsOrNone (end Line []) Line
  unfolding no_words
  ended = inl refl

  one_line : IsOrNone (verify_one proof (name ∷ step ∷ hex ∷ [])) Line
  unfolding verify_one
  one_line =
      word_or_none name_value _ name (step ∷ hex ∷ []) (padded_name name) Line (name_value name) refl
      (λ v is. the_value (is_name_text name) (padded_name name) v is)
      (word_or_none (number_value 1 LAST_STEP) _ step (hex ∷ []) (word_number step) Line (number_value 1 LAST_STEP step) refl
      (λ v is. the_value (is_number_within 1 LAST_STEP step) (word_number step) v is)
      (word_or_none digest_value _ hex [] (word_digest hex) Line (digest_value hex) refl
      (λ v is. the_value (is_digest hex) (word_digest hex) v is) ended))

  -- three words are no file
  no_file : (left : ℕ) × (verify_file proof (name ∷ step ∷ hex ∷ []) ≡ Err left)
  unfolding verify_file no_words
  no_file = by (path_value name) refl
    where
      by : (o : Option (List ℕ)) → path_value name ≡ o
          → (left : ℕ) × (path (λ anchors. end (VerifyFile proof anchors)) (name ∷ step ∷ hex ∷ []) ≡ Err left)
      by None is = (_, left_word path_value (λ anchors. end (VerifyFile proof anchors)) name (step ∷ hex ∷ []) is)
      by (Some v) is = (_, taken_word path_value (λ anchors. end (VerifyFile proof anchors)) name (step ∷ hex ∷ []) v is)

  from_either : (one other : WordsReading Command) (left : ℕ) (c : Command) → one ≡ Err left → IsOrNone other Line
      → result_ok (either_reading one other) ≡ Some c → Line ≡ c
  from_either one other left c first (inl second) is =
      let read : either_reading one other ≡ Ok Line =
      ap (λ r. either_reading r other) first ∙ ap (either_reading (Err left)) second in
      let some : Some Line ≡ Some c = sym (ap result_ok read) ∙ is in
      cc
  from_either one other left c first (inr second) is =
      let read : either_reading one other ≡ Err (min left second.0) =
      ap (λ r. either_reading r other) first ∙ ap (either_reading (Err left)) second.1 in
      let none : None ≡ Some c = sym (ap result_ok read) ∙ is in
      cc

pub verify_line : (proof name step hex : List ℕ) (c : Command) → result_ok (verify (proof ∷ name ∷ step ∷ hex ∷ [])) ≡ Some c
    → VerifyOne proof (line_of_words name step hex) ≡ c
unfolding verify next
verify_line [] name step hex c is = let none : None ≡ Some c = is in cc
verify_line (b ∷ bs) name step hex c is =
    let proof : List ℕ = b ∷ bs in
    let words : List (List ℕ) = name ∷ step ∷ hex ∷ [] in
    let behind = taken_path (λ proof. either (verify_file proof) (verify_one proof)) b bs words in
    let none = no_file proof name step hex in
    from_either proof name step hex (verify_file proof words) (verify_one proof words) none.0 c none.1 (one_line proof name step hex)
    (sym (ap result_ok behind) ∙ is)

-- ---- map files, and histories

pub check_map_named : (words : List (List ℕ)) → command_of (codes "checkmap" ∷ words) ≡ result_ok (check_map words)
unfolding next
check_map_named words = refl

pub adopt_named : (words : List (List ℕ)) → command_of (codes "adopt" ∷ words) ≡ result_ok (adopt words)
unfolding next
adopt_named words = refl

-- a path, or no command
path_or_none : (form : List ℕ → Form) (word : List ℕ) (words : List (List ℕ)) (command : Command) → IsOrNone (form word words) command
    → IsOrNone (path form (word ∷ words)) command
path_or_none form word words command rest =
    word_or_none path_value form word words word command (path_value word) refl (λ v is. the_value (nat_le 1 (length word)) word v is) rest

from_reading : (reading : WordsReading Command) (command c : Command) → IsOrNone reading command → result_ok reading ≡ Some c → command ≡ c
from_reading reading command c (inl read) is = let some : Some command ≡ Some c = sym (ap result_ok read) ∙ is in cc
from_reading reading command c (inr read) is = let none : None ≡ Some c = sym (ap result_ok read.1) ∙ is in cc

pub check_map_words : (low high lines : List ℕ) (c : Command) → result_ok (check_map (low ∷ high ∷ lines ∷ [])) ≡ Some c
    → CheckMap low high lines ≡ c
unfolding check_map no_words
check_map_words low high lines c is =
    from_reading (check_map (low ∷ high ∷ lines ∷ [])) (CheckMap low high lines) c
    (path_or_none _ low (high ∷ lines ∷ []) (CheckMap low high lines)
    (path_or_none _ high (lines ∷ []) (CheckMap low high lines) (path_or_none _ lines [] (CheckMap low high lines) (inl refl)))) is

-- all the words are paths, or not
all_paths : (most : ℕ) (words : List (List ℕ)) (command : List (List ℕ) → Command)
    → IsOrNone (at_most_paths most command words) (command words)
unfolding paths
all_paths most words command = by (min most (count_paths words) == length words)
  where
    taken : ℕ
    taken = min most (count_paths words)

    by : (b : Bool) → IsOrNone (give command (if b then Ok words else Err (length words - taken))) (command words)
    by true = inl refl
    by false = inr (_, refl)

pub adopt_words : (history lines proof : List ℕ) (more : List (List ℕ)) (c : Command)
    → result_ok (adopt (history ∷ lines ∷ proof ∷ more)) ≡ Some c → Adopt history lines proof more ≡ c
unfolding adopt
adopt_words history lines proof more c is =
    let command : Command = Adopt history lines proof more in
    from_reading (adopt (history ∷ lines ∷ proof ∷ more)) command c
    (path_or_none _ history (lines ∷ proof ∷ more) command
    (path_or_none _ lines (proof ∷ more) command
    (path_or_none _ proof more command (all_paths (MOST_ADOPTING - 1) more (λ rest. Adopt history lines proof rest))))) is
