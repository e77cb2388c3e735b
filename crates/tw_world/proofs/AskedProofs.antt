-- What a `prove` line of a script asks for is a proof.
use Rattle.std.proofs.Common.{◌≡◌, ℕ, List, [], ◌∷◌, length, nat_le, Bool, true, false, Option, Some, None, refl, subst}
use Rattle.std.proofs.Common.{if◌then◌else◌, option_map}
use Rattle.std.specs.Option.{option_and_then}
use Rattle.std.specs.Str.{bytes_eq}
use Rattle.std.proofs.lemmas.Option.{cond_some, none-some, option_and_then_some, same_Some}
use Rattle.tw_base.specs.declared.history.question.Question.{Question}
use Rattle.tw_base.specs.declared.history.question.Question.TheVariants as ask
use Rattle.tw_base.specs.kinds.Lists.{Each}
use Rattle.tw_script.specs.LineForms.{Form, all_values, any_number_value, end, form_named, maybe}
use Rattle.tw_script.specs.LineForms.{maybe_number, next, no_words, then_form}
use Rattle.tw_script.specs.LineTable.{anchor, append, asked_proof, crash, deliver, hostile, inject, join, line_forms}
use Rattle.tw_script.specs.LineTable.{line_of, lose, of_absence, of_event, of_link, of_thread, proofs, prove, send}
use Rattle.tw_script.specs.LineTable.{service, verify}
use Rattle.tw_script.specs.LineWords.{bytes_value, words as words_of}
use Rattle.tw_script.specs.declared.line.Line.{Line}
use Rattle.tw_script.specs.declared.line.Line.TheVariants.{Service, Hostile, Append, Send, Inject, Deliver, Lose, Crash}
use Rattle.tw_script.specs.declared.line.Line.TheVariants.{Prove, Join, Anchor, Verify}
use Rattle.tw_world.specs.Players.{AsksForProof}

-- what is made of a value has the property
of-map : {Y X : Type 0} (P : X → Type 0) (f : Y → X) (o : Option Y) (x : X) → ((y : Y) → o ≡ Some y → P (f y))
    → option_map f o ≡ Some x → P x
of-map P f None x all is = absurd (none-some x is)
of-map P f (Some y) x all is = subst P (same_Some (f y) x is) (all y refl)

module _ {X : Type 0} (P : X → Type 0) where
  -- what a form makes of words has the property
  abbrev Yields : Form X → Type 0
  Yields form = (words : List (List ℕ)) (x : X) → form words ≡ Some x → P x

  module _ {V : Type 0} (part : List ℕ → Option V) (form : V → Form X) where
    by-next : ((word : List ℕ) (v : V) → part word ≡ Some v → Yields (form v)) → Yields (then_form part form)
    unfolding next
    by-next all [] x is = absurd (none-some x is)
    by-next all (word ∷ words) x is =
        option_and_then_some (λ (t : V × List (List ℕ)). form t.0 t.1) (option_map (λ (v : V). (v, words)) (part word)) x
        is
        (λ t at some. of-map (λ (u : V × List (List ℕ)). form u.0 u.1 ≡ Some x → P x) (λ (v : V). (v, words)) (part word)
        t (λ v is_v. all word v is_v words x) at some)

  by-row : (b : Bool) (one form : Form X) (rest : Option (Form X)) → Yields one → (rest ≡ Some form → Yields form)
      → (if b then Some one else rest) ≡ Some form → Yields form
  by-row true one form rest of_one of_rest is = subst Yields (same_Some one form is) of_one
  by-row false one form rest of_one of_rest is = of_rest is

  by-rows : (rows : List (List ℕ × Form X)) → Each (λ (row : List ℕ × Form X). Yields row.1) rows → (word : List ℕ)
      (form : Form X) → form_named rows word ≡ Some form → Yields form
  by-rows [] all word form is = absurd (none-some form is)
  by-rows (row ∷ rows) all word form is = by-row (bytes_eq word row.0) row.1 form (form_named rows word) all.0
      (by-rows rows all.1 word form) is

-- ---- what is asked for

top-asks : (made : Option ℕ → Question) → ((top : Option ℕ) → AsksForProof (made top)) → Yields AsksForProof (maybe made)
top-asks made asks words q is = of-map AsksForProof made (maybe_number words) q (λ top at. asks top) is

event-asks : Yields AsksForProof of_event
unfolding of_event
event-asks =
    by-next AsksForProof any_number_value _ (λ word step is. by-next AsksForProof any_number_value _
    (λ word index is. top-asks (λ top. ask.Event step index top) (λ top. tt)))

thread-asks : Yields AsksForProof of_thread
unfolding of_thread
thread-asks =
    by-next AsksForProof any_number_value _ (λ word step is. by-next AsksForProof _ _ (λ word peer is. by-next AsksForProof _ _
    (λ word k is. top-asks (λ top. ask.Thread step (record { from = peer; step = k }) top) (λ top. tt))))

absence-asks : Yields AsksForProof of_absence
unfolding of_absence
absence-asks =
    by-next AsksForProof any_number_value _ (λ word step is. by-next AsksForProof _ _ (λ word peer is. by-next AsksForProof _ _
    (λ word k is. top-asks (λ top. ask.Absent step (record { from = peer; step = k }) top) (λ top. tt))))

link-asks : Yields AsksForProof of_link
unfolding of_link
link-asks = by-next AsksForProof any_number_value _ (λ word step is. top-asks (λ top. ask.Link step top) (λ top. tt))

proof-asks : Yields AsksForProof asked_proof
unfolding asked_proof
proof-asks = by-next AsksForProof (form_named proofs) (λ form. form)
    (by-rows AsksForProof proofs (event-asks, (thread-asks, (absence-asks, (link-asks, tt)))))

-- ---- lines

-- a line that makes a proof asks for one
abbrev pub LineAsks : Line → Type 0
LineAsks (Prove name asked) = AsksForProof asked
LineAsks _ = Unit {0}

-- a line of one, of two and of three words, which asks for nothing
ends : (line : Line) → LineAsks line → Yields LineAsks (end line)
ends line asks words x is = of-map LineAsks (λ done. line) (no_words words) x (λ done at. asks) is

service-line : Yields LineAsks service
unfolding service
service-line = by-next LineAsks _ _ (λ word name is. ends (Service name) tt)

hostile-line : Yields LineAsks hostile
unfolding hostile
hostile-line = by-next LineAsks _ _ (λ word name is. ends (Hostile name) tt)

append-line : Yields LineAsks append
unfolding append
append-line = by-next LineAsks _ _ (λ word name is words x at. of-map LineAsks (λ events. Append name events)
    (all_values bytes_value words) x (λ events are. tt) at)

send-line : Yields LineAsks send
unfolding send
send-line = by-next LineAsks _ _ (λ word name is. by-next LineAsks any_number_value _ (λ word since is. ends (Send name since) tt))

inject-line : Yields LineAsks inject
unfolding inject
inject-line = by-next LineAsks _ _ (λ word name is. by-next LineAsks bytes_value _ (λ word bytes is. ends (Inject name bytes) tt))

deliver-line : Yields LineAsks deliver
unfolding deliver
deliver-line = by-next LineAsks any_number_value _ (λ word message is. by-next LineAsks _ _ (λ word name is. ends (Deliver message name) tt))

lose-line : Yields LineAsks lose
unfolding lose
lose-line = by-next LineAsks any_number_value _ (λ word message is. ends (Lose message) tt)

crash-line : Yields LineAsks crash
unfolding crash
crash-line = by-next LineAsks _ _ (λ word name is. by-next LineAsks _ _ (λ word call is. by-next LineAsks _ _
    (λ word choice is. ends (Crash name call choice) tt)))

prove-line : Yields LineAsks prove
unfolding prove
prove-line = by-next LineAsks _ _ (λ word name is words x at. of-map LineAsks (λ asked. Prove name asked)
    (asked_proof words) x (λ asked made. proof-asks words asked made) at)

join-line : Yields LineAsks join
unfolding join
join-line words x is =
    option_and_then_some (λ (files : List ℕ). if nat_le 2 (length files) then Some (Join files) else None)
    (all_values any_number_value words) x is
    (λ files at some. subst LineAsks (cond_some (nat_le 2 (length files)) (Join files) x some).1 tt)

anchor-line : Yields LineAsks anchor
unfolding anchor
anchor-line = by-next LineAsks _ _ (λ word name is. by-next LineAsks _ _ (λ word step is. ends (Anchor name step) tt))

verify-line : Yields LineAsks verify
unfolding verify
verify-line = by-next LineAsks any_number_value _ (λ word file is. ends (Verify file) tt)

lines-ask : Each (λ (row : List ℕ × Form Line). Yields LineAsks row.1) line_forms
lines-ask = (
  service-line,
  (
    hostile-line,
    (
      append-line,
      (
        send-line,
        (
          inject-line,
          (deliver-line, (lose-line, (crash-line, (prove-line, (join-line, (anchor-line, (verify-line, tt))))))),
        ),
      ),
    ),
  ),
)

pub line-asks-proof : (text : List ℕ) (line : Line) → line_of text ≡ Some line → LineAsks line
unfolding line_of
line-asks-proof text line is = by-next LineAsks (form_named line_forms) (λ form. form)
    (by-rows LineAsks line_forms lines-ask) (words_of text) line is
