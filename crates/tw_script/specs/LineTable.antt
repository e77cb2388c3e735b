-- The forms of a script's lines.
use Rattle.std.specs.Prelude.{ℕ, List, [], ◌∷◌, length, codes, nat_le, Option, Some, None, option_map, if◌then◌else◌}
use Rattle.std.specs.Option.{option_and_then}
use Rattle.tw_base.specs.declared.history.question.Question.{Question}
use Rattle.tw_base.specs.declared.history.question.Question.TheVariants as ask
use Rattle.tw_base.specs.declared.kinds.limits.TheConstants.{LAST_STEP}
use Rattle.tw_script.specs.LineForms.{Form, all_values, any_number, any_number_value, choose_form, end, maybe, name_form, number_form, then_form}
use Rattle.tw_script.specs.LineWords.{bytes_value, choice_value, words as words_of}
use Rattle.tw_script.specs.declared.line.Line.{Line}
use Rattle.tw_script.specs.declared.line.Line.TheVariants.{Service, Hostile, Append, Send, Inject, Deliver, Lose, Crash, Prove, Join, Anchor, Verify}

-- ---- the proofs that a `prove` line asks for, in the words that the command `prove` has behind its folder

unfoldable pub of_event : Form Question
of_event = any_number (λ step. any_number (λ index. maybe (λ top. ask.Event step index top)))

unfoldable pub of_thread : Form Question
of_thread = any_number (λ step. name_form (λ peer. number_form 1 LAST_STEP (λ k. maybe (λ top. ask.Thread step (record { from = peer; step = k }) top))))

unfoldable pub of_absence : Form Question
of_absence = any_number (λ step. name_form (λ peer. number_form 1 LAST_STEP (λ k. maybe (λ top. ask.Absent step (record { from = peer; step = k }) top))))

unfoldable pub of_link : Form Question
of_link = any_number (λ step. maybe (λ top. ask.Link step top))

abbrev pub proofs : List (List ℕ × Form Question)
proofs = (codes "event", of_event) ∷ (codes "thread", of_thread) ∷ (codes "absent", of_absence) ∷ (codes "link", of_link) ∷ []

unfoldable pub asked_proof : Form Question
asked_proof = choose_form proofs

-- ---- lines behind their first word

unfoldable pub service : Form Line
service = name_form (λ service. end (Service service))

unfoldable pub hostile : Form Line
hostile = name_form (λ name. end (Hostile name))

-- any number of events, or none
unfoldable pub append : Form Line
append = name_form (λ service words. option_map (λ events. Append service events) (all_values bytes_value words))

unfoldable pub send : Form Line
send = name_form (λ service. any_number (λ since. end (Send service since)))

unfoldable pub inject : Form Line
inject = name_form (λ name. then_form bytes_value (λ bytes. end (Inject name bytes)))

unfoldable pub deliver : Form Line
deliver = any_number (λ message. name_form (λ service. end (Deliver message service)))

unfoldable pub lose : Form Line
lose = any_number (λ message. end (Lose message))

-- device calls are counted from 1
unfoldable pub crash : Form Line
crash = name_form (λ service. number_form 1 0xffff_ffff_ffff_ffff (λ call. then_form choice_value (λ choice. end (Crash service call choice))))

unfoldable pub prove : Form Line
prove = name_form (λ service words. option_map (λ asked. Prove service asked) (asked_proof words))

-- at least two files
unfoldable pub join : Form Line
join words = option_and_then (λ files. if nat_le 2 (length files) then Some (Join files) else None) (all_values any_number_value words)

unfoldable pub anchor : Form Line
anchor = name_form (λ service. number_form 1 LAST_STEP (λ step. end (Anchor service step)))

unfoldable pub verify : Form Line
verify = any_number (λ file. end (Verify file))

-- ---- all of them, by their first word

abbrev pub line_forms : List (List ℕ × Form Line)
line_forms =
    (codes "service", service) ∷ (codes "hostile", hostile) ∷ (codes "append", append) ∷ (codes "send", send) ∷ (codes "inject", inject)
    ∷ (codes "deliver", deliver) ∷ (codes "drop", lose) ∷ (codes "crash", crash) ∷ (codes "prove", prove) ∷ (codes "join", join)
    ∷ (codes "anchor", anchor) ∷ (codes "verify", verify) ∷ []

-- the line that a text is; none where its words have no form
unfoldable pub line_of : List ℕ → Option Line
line_of text = choose_form line_forms (words_of text)
