-- The values of the lines that texts are read as.
use Rattle.std.proofs.Common.{◌≡◌, ℕ, suc, ◌≤◌, List, [], ◌∷◌, codes, length, nat_le, ◌&&◌, Bool, true, false}
use Rattle.std.proofs.Common.{if◌then◌else◌, Option, Some, None, option_map, Result, Ok, Err, refl, sym, subst, arith}
use Rattle.std.specs.Option.{option_and_then}
use Rattle.std.specs.Result.{result_ok}
use Rattle.std.specs.Str.{bytes_eq}
use Rattle.std.proofs.lemmas.Bool.{and_parts, leb-true}
use Rattle.std.proofs.lemmas.Option.{cond_some, none-some, option_and_then_some, same_Some}
use Rattle.hex.specs.Hex.{IsBytes, decode_of}
use Rattle.hex.specs.declared.error.FromHexError.{FromHexError}
use Rattle.hex.proofs.HexLemmas.{decode_of-ok}
use Rattle.tw_base.specs.declared.history.question.Question.{Question}
use Rattle.tw_base.specs.declared.history.question.Question.TheVariants as ask
use Rattle.tw_base.specs.declared.kinds.limits.TheConstants.{LAST_STEP}
use Rattle.tw_base.specs.history.Limits.{IsStep}
use Rattle.tw_base.specs.history.Questions.{MayAsk}
use Rattle.tw_base.specs.kinds.Bytes.{AreBytes}
use Rattle.tw_base.specs.kinds.Lists.{Each}
use Rattle.tw_base.specs.kinds.Names.{IsName, is_name_text, padded_name}
use Rattle.tw_text.specs.Words.{is_number, is_number_within, word_number}
use Rattle.tw_words.specs.Forms.{name_value, number_value}
use Rattle.tw_script.specs.AskedWords.{AsksWell}
use Rattle.tw_script.specs.LineForms.{Form, all_values, any_number_value, choose_form, end, form_named, maybe}
use Rattle.tw_script.specs.LineForms.{maybe_number, next, no_words, then_form}
use Rattle.tw_script.specs.LineTable.{anchor, append, asked_proof, crash, deliver, hostile, inject, join, line_forms}
use Rattle.tw_script.specs.LineTable.{line_of, lose, of_absence, of_event, of_link, of_thread, proofs, prove, send}
use Rattle.tw_script.specs.LineTable.{service, verify}
use Rattle.tw_script.specs.LineWords.{bytes_value, choice_value, words as words_of}
use Rattle.tw_script.specs.declared.line.Line.{Line}
use Rattle.tw_script.specs.declared.line.Line.TheVariants.{Service, Hostile, Append, Send, Inject, Deliver, Lose, Crash}
use Rattle.tw_script.specs.declared.line.Line.TheVariants.{Prove, Join, Anchor, Verify}

-- what a line has by its form
abbrev pub HasValues : Line → Type 0
HasValues (Service name) = IsName name
HasValues (Hostile name) = IsName name
HasValues (Append name events) = Each AreBytes events
HasValues (Prove name asked) = MayAsk asked
HasValues (Join numbers) = 2 ≤ length numbers
HasValues (Anchor name step) = 1 ≤ step
HasValues _ = Unit {0}

-- ---- forms

module _ {X : Type 0} (P : X → Type 0) where
  -- what the form makes of words has the property
  abbrev Gives : Form X → Type 0
  Gives form = (words : List (List ℕ)) (x : X) → form words ≡ Some x → P x

  gives-end : (made : X) → P made → Gives (end made)
  unfolding no_words
  gives-end made p [] x is = subst P (same_Some made x is) p
  gives-end made p (word ∷ words) x is = absurd (none-some x is)

  module _ {V : Type 0} (part : List ℕ → Option V) (form : V → Form X) where
    gives-then : ((word : List ℕ) (v : V) → part word ≡ Some v → Gives (form v)) → Gives (then_form part form)
    unfolding next
    gives-then all [] x is = absurd (none-some x is)
    gives-then all (word ∷ words) x is = by (part word) refl is
      where
        by : (o : Option V) → part word ≡ o → option_and_then (λ (taken : V × List (List ℕ)). form taken.0 taken.1)
            (option_map (λ (v : V). (v, words)) o) ≡ Some x → P x
        by None at is = absurd (none-some x is)
        by (Some v) at is = all word v at words x is

  module _ {Y : Type 0} (f : Y → X) (form : Form Y) where
    gives-map : ((words : List (List ℕ)) (y : Y) → form words ≡ Some y → P (f y))
        → Gives (λ words. option_map f (form words))
    gives-map all words x is = by (form words) refl is
      where
        by : (o : Option Y) → form words ≡ o → option_map f o ≡ Some x → P x
        by None at is = absurd (none-some x is)
        by (Some y) at is = subst P (same_Some (f y) x is) (all words y at)

  gives-named : (rows : List (List ℕ × Form X)) → Each (λ (row : List ℕ × Form X). Gives row.1) rows
      → (word : List ℕ) (form : Form X) → form_named rows word ≡ Some form → Gives form
  gives-named [] all word form is = absurd (none-some form is)
  gives-named (row ∷ rows) all word form is = by (bytes_eq word row.0) is (λ q. gives-named rows all.1 word form q)
    where
      by : (b : Bool) → (if b then Some row.1 else form_named rows word) ≡ Some form
          → (form_named rows word ≡ Some form → Gives form) → Gives form
      by true is rest = subst Gives (same_Some row.1 form is) all.0
      by false is rest = rest is

  gives-choose : (rows : List (List ℕ × Form X)) → Each (λ (row : List ℕ × Form X). Gives row.1) rows
      → Gives (choose_form rows)
  gives-choose rows all = gives-then (form_named rows) (λ form. form) (gives-named rows all)

-- ---- words

module _ {V : Type 0} (Q : V → Type 0) (part : List ℕ → Option V) (each : (word : List ℕ) (v : V) → part word ≡ Some v
    → Q v) where
  values-each : (words : List (List ℕ)) (vs : List V) → all_values part words ≡ Some vs → Each Q vs
  unfolding all_values
  values-each [] vs is = subst (Each Q) (same_Some [] vs is) tt
  values-each (word ∷ words) vs is = by (part word) refl (all_values part words) (values-each words) is
    where
      front : (v : V) → Q v → (o : Option (List V)) → ((more : List V) → o ≡ Some more → Each Q more)
          → option_map (λ (more : List V). v ∷ more) o ≡ Some vs → Each Q vs
      front v q None rest is = absurd (none-some vs is)
      front v q (Some more) rest is = subst (Each Q) (same_Some (v ∷ more) vs is) (q, rest more refl)

      by : (o : Option V) → part word ≡ o → (all : Option (List V)) → ((more : List V) → all ≡ Some more → Each Q more)
          → option_and_then (λ (v : V). option_map (λ (more : List V). v ∷ more) all) o ≡ Some vs → Each Q vs
      by None at all rest is = absurd (none-some vs is)
      by (Some v) at all rest is = front v (each word v at) all rest is

are-bytes : (xs : List ℕ) → IsBytes xs → AreBytes xs
are-bytes [] is = tt
are-bytes (x ∷ xs) is = (is 0, are-bytes xs (λ i. is (suc i)))

bytes-are : (word bytes : List ℕ) → bytes_value word ≡ Some bytes → AreBytes bytes
bytes-are word bytes is = by (bytes_eq word (codes "-")) (nat_le 1 (length word)) (decode_of word) refl is
  where
    by : (none some : Bool) (r : Result (List ℕ) FromHexError) → decode_of word ≡ r
        → (if none then Some [] else if some then result_ok r else None) ≡ Some bytes → AreBytes bytes
    by true some r at is = subst AreBytes (same_Some [] bytes is) tt
    by false false r at is = absurd (none-some bytes is)
    by false true (Err e) at is = absurd (none-some bytes is)
    by false true (Ok found) at is = subst AreBytes (same_Some found bytes is)
        (are-bytes found (decode_of-ok word found at).3)

name-is : (word name : List ℕ) → name_value word ≡ Some name → IsName name
name-is word name is =
    let parts = cond_some (is_name_text word) (padded_name word) name is in
    (word, parts.0, sym parts.1)

number-step : (word : List ℕ) (n : ℕ) → number_value 1 LAST_STEP word ≡ Some n → IsStep n
number-step word n is =
    let parts = cond_some (is_number_within 1 LAST_STEP word) (word_number word) n is in
    let within = and_parts (is_number word && nat_le 1 (word_number word)) (nat_le (word_number word) LAST_STEP)
    parts.0 in
    let least = leb-true 1 (word_number word) (and_parts (is_number word) (nat_le 1 (word_number word)) within.0).1 in
    subst IsStep parts.1 (omega (arith, least), leb-true (word_number word) LAST_STEP within.1)

-- ---- the proofs that a `prove` line asks for

gives-maybe : (made : Option ℕ → Question) → ((top : Option ℕ) → MayAsk (made top)) → Gives MayAsk (maybe made)
gives-maybe made may = gives-map MayAsk made maybe_number (λ words top is. may top)

event-gives : Gives MayAsk of_event
unfolding of_event
event-gives =
    gives-then MayAsk any_number_value _ (λ word step is. gives-then MayAsk any_number_value _
    (λ word index is. gives-maybe (λ top. ask.Event step index top) (λ top. tt)))

thread-gives : Gives MayAsk of_thread
unfolding of_thread
thread-gives =
    gives-then MayAsk any_number_value _ (λ word step is. gives-then MayAsk name_value _
    (λ word peer is. gives-then MayAsk (number_value 1 LAST_STEP) _
    (λ word k is. gives-maybe (λ top. ask.Thread step (record { from = peer; step = k }) top)
    (λ top. number-step word k is))))

absence-gives : Gives MayAsk of_absence
unfolding of_absence
absence-gives =
    gives-then MayAsk any_number_value _ (λ word step is. gives-then MayAsk name_value _
    (λ word peer is. gives-then MayAsk (number_value 1 LAST_STEP) _
    (λ word k is. gives-maybe (λ top. ask.Absent step (record { from = peer; step = k }) top)
    (λ top. number-step word k is))))

link-gives : Gives MayAsk of_link
unfolding of_link
link-gives = gives-then MayAsk any_number_value _ (λ word step is. gives-maybe (λ top. ask.Link step top) (λ top. tt))

asked-gives : Gives MayAsk asked_proof
unfolding asked_proof
asked-gives = gives-choose MayAsk proofs (event-gives, (thread-gives, (absence-gives, (link-gives, tt))))

-- ---- lines

service-gives : Gives HasValues service
unfolding service
service-gives = gives-then HasValues name_value _ (λ word name is. gives-end HasValues (Service name)
    (name-is word name is))

hostile-gives : Gives HasValues hostile
unfolding hostile
hostile-gives = gives-then HasValues name_value _ (λ word name is. gives-end HasValues (Hostile name)
    (name-is word name is))

append-gives : Gives HasValues append
unfolding append
append-gives = gives-then HasValues name_value _ (λ word name is. gives-map HasValues (λ events. Append name events)
    (all_values bytes_value) (values-each AreBytes bytes_value bytes-are))

send-gives : Gives HasValues send
unfolding send
send-gives = gives-then HasValues name_value _ (λ word name is. gives-then HasValues any_number_value _
    (λ word since is. gives-end HasValues (Send name since) tt))

inject-gives : Gives HasValues inject
unfolding inject
inject-gives = gives-then HasValues name_value _ (λ word name is. gives-then HasValues bytes_value _
    (λ word bytes is. gives-end HasValues (Inject name bytes) tt))

deliver-gives : Gives HasValues deliver
unfolding deliver
deliver-gives = gives-then HasValues any_number_value _ (λ word message is. gives-then HasValues name_value _
    (λ word name is. gives-end HasValues (Deliver message name) tt))

lose-gives : Gives HasValues lose
unfolding lose
lose-gives = gives-then HasValues any_number_value _ (λ word message is. gives-end HasValues (Lose message) tt)

crash-gives : Gives HasValues crash
unfolding crash
crash-gives =
    gives-then HasValues name_value _ (λ word name is. gives-then HasValues (number_value 1 0xffff_ffff_ffff_ffff) _
    (λ word call is. gives-then HasValues choice_value _ (λ word choice is. gives-end HasValues (Crash name call choice)
    tt)))

prove-gives : Gives HasValues prove
unfolding prove
prove-gives = gives-then HasValues name_value _ (λ word name is. gives-map HasValues (λ asked. Prove name asked)
    asked_proof asked-gives)

join-gives : Gives HasValues join
unfolding join
join-gives words x is =
    option_and_then_some (λ (files : List ℕ). if nat_le 2 (length files) then Some (Join files) else None)
    (all_values any_number_value words) x is
    (λ files at some.
    let parts = cond_some (nat_le 2 (length files)) (Join files) x some in
    subst HasValues parts.1 (leb-true 2 (length files) parts.0))

anchor-gives : Gives HasValues anchor
unfolding anchor
anchor-gives =
    gives-then HasValues name_value _ (λ word name is. gives-then HasValues (number_value 1 LAST_STEP) _
    (λ word step is. gives-end HasValues (Anchor name step) (number-step word step is).0))

verify-gives : Gives HasValues verify
unfolding verify
verify-gives = gives-then HasValues any_number_value _ (λ word file is. gives-end HasValues (Verify file) tt)

all-give : Each (λ (row : List ℕ × Form Line). Gives HasValues row.1) line_forms
all-give = (
  service-gives,
  (
    hostile-gives,
    (
      append-gives,
      (
        send-gives,
        (
          inject-gives,
          (deliver-gives, (lose-gives, (crash-gives, (prove-gives, (join-gives, (anchor-gives, (verify-gives, tt))))))),
        ),
      ),
    ),
  ),
)

pub line-has : (text : List ℕ) (line : Line) → line_of text ≡ Some line → HasValues line
unfolding line_of
line-has text line is = gives-choose HasValues line_forms all-give (words_of text) line is

-- ---- what is asked

asks-well : (line : Line) → HasValues line → AsksWell line
asks-well (Prove name asked) has = has
asks-well _ has = tt

-- a line is asked what a service may be asked
pub line-asks : (text : List ℕ) (line : Line) → line_of text ≡ Some line → AsksWell line
line-asks text line is = asks-well line (line-has text line is)
