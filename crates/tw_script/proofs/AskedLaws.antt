-- The words of a `prove` line ask for what they ask for on the command line.
use Rattle.std.proofs.Common.{◌≡◌, ℕ, List, [], ◌∷◌, codes, length, suc, Bool, true, false, if◌then◌else◌, Option, Some}
use Rattle.std.proofs.Common.{None, option_map, Ok, Err, sym, refl}
use Rattle.std.specs.Option.{option_and_then, option_map_or}
use Rattle.std.specs.Result.{result_ok}
use Rattle.std.specs.Str.{bytes_eq}
use Rattle.tw_base.specs.declared.history.question.Question.{Question}
use Rattle.tw_base.specs.declared.history.question.Question.TheVariants as ask
use Rattle.tw_base.specs.declared.kinds.limits.TheConstants.{LAST_STEP}
use Rattle.tw_words.specs.CommandLine.{prove_absent, prove_event, prove_link, prove_thread}
use Rattle.tw_words.specs.Forms.{Form as CommandForm, go_on, maybe as maybe_command, maybe_number as maybe_of_command}
use Rattle.tw_words.specs.Forms.{name_value, next as next_command, no_words as no_command_words, number_value, then_form as then_command}
use Rattle.tw_words.specs.declared.command.Command.{Command}
use Rattle.tw_words.specs.declared.command.Command.TheVariants.{ProveEvent, ProveThread, ProveAbsent, ProveLink}
use Rattle.tw_script.specs.AskedWords.{AskAlike, asked_of}
use Rattle.tw_script.specs.LineForms.{Form, any_number_value, maybe, maybe_number, next, no_words, then_form}
use Rattle.tw_script.specs.LineTable.{asked_proof, of_absence, of_event, of_link, of_thread}

-- what the command line's form asks for is what the line's form makes
abbrev Alike : CommandForm → Form Question → Type 0
Alike one other = (words : List (List ℕ)) → option_and_then asked_of (result_ok (one words)) ≡ other words

module _ {V : Type 0} (part : List ℕ → Option V) (one : V → CommandForm) (other : V → Form Question) where
  alike-value : (word : List ℕ) (words : List (List ℕ)) → ((v : V) → Alike (one v) (other v)) → (o : Option V)
      → part word ≡ o
      → option_and_then asked_of (result_ok (then_command part one (word ∷ words))) ≡ then_form part other
      (word ∷ words)
  unfolding next next_command
  alike-value word words alike None is = rw is refl
  alike-value word words alike (Some v) is = rw is (alike v words)

  alike-then : ((v : V) → Alike (one v) (other v)) → Alike (then_command part one) (then_form part other)
  unfolding next next_command
  alike-then alike [] = refl
  alike-then alike (word ∷ words) = alike-value word words alike (part word) refl

module _ (one : Option ℕ → Command) (other : Option ℕ → Question) (same : (o : Option ℕ) → asked_of (one o) ≡ Some
    (other o)) where
  -- the last word is there
  alike-last : (word : List ℕ) (words : List (List ℕ)) (o : Option ℕ) → any_number_value word ≡ o
      → option_and_then asked_of (result_ok (maybe_command one (word ∷ words))) ≡ maybe other (word ∷ words)
  unfolding next next_command no_words no_command_words maybe_number maybe_of_command
  alike-last word words None is = rw is refl
  alike-last word [] (Some n) is = rw is (same (Some n))
  alike-last word (more ∷ words) (Some n) is = rw is refl

  alike-maybe : Alike (maybe_command one) (maybe other)
  unfolding maybe_number maybe_of_command
  alike-maybe [] = same None
  alike-maybe (word ∷ words) = alike-last word words (any_number_value word) refl

-- ---- the four kinds

alike-event : Alike prove_event of_event
unfolding prove_event of_event
alike-event =
    alike-then any_number_value _ _ (λ step. alike-then any_number_value _ _
    (λ index. alike-maybe (λ top. ProveEvent step index top) (λ top. ask.Event step index top) (λ o. refl)))

alike-thread : Alike prove_thread of_thread
unfolding prove_thread of_thread
alike-thread =
    alike-then any_number_value _ _ (λ step. alike-then name_value _ _ (λ peer. alike-then (number_value 1 LAST_STEP)
    _ _
    (λ k. alike-maybe (λ top. ProveThread step peer k top) (λ top. ask.Thread step (record { from = peer; step = k })
    top) (λ o. refl))))

alike-absence : Alike prove_absent of_absence
unfolding prove_absent of_absence
alike-absence =
    alike-then any_number_value _ _ (λ step. alike-then name_value _ _ (λ peer. alike-then (number_value 1 LAST_STEP)
    _ _
    (λ k. alike-maybe (λ top. ProveAbsent step peer k top) (λ top. ask.Absent step (record { from = peer; step = k })
    top) (λ o. refl))))

alike-link : Alike prove_link of_link
unfolding prove_link of_link
alike-link = alike-then any_number_value _ _ (λ step. alike-maybe (λ top. ProveLink step top) (λ top. ask.Link step top)
    (λ o. refl))

-- ---- the table

-- which of the four names the word is
alike-named : (words : List (List ℕ)) (event thread absence link : Bool)
    → option_and_then asked_of
    (result_ok (go_on (option_map_or (λ (form : CommandForm). Ok (form, words))
    (if event then Some prove_event else if thread then Some prove_thread else if absence then Some prove_absent
    else if link then Some prove_link else None)
    (Err (suc (length words)))) (λ (form : CommandForm). form)))
    ≡ option_and_then (λ (taken : Form Question × List (List ℕ)). taken.0 taken.1)
    (option_map (λ (form : Form Question). (form, words))
    (if event then Some of_event else if thread then Some of_thread else if absence then Some of_absence else if link
    then Some of_link else None))
alike-named words true thread absence link = alike-event words
alike-named words false true absence link = alike-thread words
alike-named words false false true link = alike-absence words
alike-named words false false false true = alike-link words
alike-named words false false false false = refl

pub ask-alike : (words : List (List ℕ)) → AskAlike words
unfolding asked_proof next next_command
ask-alike [] = refl
ask-alike (word ∷ words) =
    sym (alike-named words (bytes_eq word (codes "event")) (bytes_eq word (codes "thread"))
    (bytes_eq word (codes "absent")) (bytes_eq word (codes "link")))
