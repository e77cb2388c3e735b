-- No service refuses what is asked of it for the proof and the map.
use Rattle.std.proofs.Common.{◌≡◌, ℕ, suc, zero, ◌+◌, ◌-◌, ◌≤◌, ◌<◌, List, [], ◌∷◌, ◌++◌, length, ap, refl, sym, ◌∙◌}
use Rattle.std.proofs.Common.{subst, inl, inr, arith}
use Rattle.std.specs.Prelude.{Some, None}
use Rattle.std.proofs.lemmas.List.{length_push}
use Rattle.tw_answers.specs.Limits.{no_thread}
use Rattle.tw_answers.proofs.TableAnswers.{has_event}
use Rattle.tw_base.specs.declared.history.question.Question.{Question}
use Rattle.tw_base.specs.declared.history.question.Question.TheVariants as ask
use Rattle.tw_base.specs.declared.history.thread.Entry.{Entry}
use Rattle.tw_base.specs.history.Entries.{key_of}
use Rattle.tw_base.specs.history.History.{History, Step, entry_at, events_at, events_of, plus, root_of, step_at}
use Rattle.tw_base.specs.history.Limits.{IsStep}
use Rattle.tw_base.specs.history.Sound.{IsSound}
use Rattle.tw_base.proofs.lemmas.history.Plus.{step_at-new}
use Rattle.tw_base.proofs.lemmas.history.Trees.{entry_at-parts, received-sound}
use Rattle.tw_chain.proofs.ArchiveAnswers.{received-is_so}
use Rattle.tw_chain.proofs.Completeness.{from_1_of_entry}
use Rattle.tw_service.specs.EventStep.{event_step, with_events_at}
use Rattle.tw_service.specs.Machine.Call.{Ask}
use Rattle.tw_service.specs.Questions.{pages_refusal}
use Rattle.tw_generate.specs.Coming.{IsLedTo, IsNotRefused}
use Rattle.tw_generate.specs.Draws.{step_events}
use Rattle.tw_generate.specs.Schedules.{LeadTo, ScheduledAct, Trio, Who, after_rounds, all_append, end_event, no_steps}
use Rattle.tw_generate.specs.Schedules.{round_of_acts, rounds_of, trio_history, with_history}
use Rattle.tw_generate.specs.Schedules.ScheduledAct.{Appends}
use Rattle.tw_generate.specs.Schedules.Who.{Alpha, Beta, Gamma}
use Rattle.tw_tmap.specs.Bounds.{first_from}
use Rattle.tw_generate.specs.Summing.{high_side, last, last_event, low_side, received_by, trio_family}
use Rattle.tw_generate.proofs.Accepted.{own-had}
use Rattle.tw_generate.proofs.Acts.{done-moves, played-stands}
use Rattle.tw_generate.proofs.DrawnEvents.{step-some}
use Rattle.tw_generate.proofs.Ends.{ended, parts, some-steps}
use Rattle.tw_generate.proofs.FirstEntries.{first-is, received-at}
use Rattle.tw_generate.proofs.Leading.{lead-split, rounds-none}
use Rattle.tw_generate.proofs.NotRefused.{question-goes}
use Rattle.tw_generate.proofs.Onward.{GoesOn, entry-more, none-above}
use Rattle.tw_generate.proofs.Standing.{AllHad, each-who}

module _ (dig : List ℕ → List ℕ) (h : History) where
  event-goes : (step top : ℕ) → 1 ≤ step → step ≤ top → top ≤ last h → 0 < length (events_at h step)
      → IsNotRefused dig h (Ask (ask.Event step 0 (Some top)))
  unfolding pages_refusal
  event-goes step top from_1 order within some = question-goes dig h (ask.Event step 0 (Some top))
      (from_1, order, within) (has_event (length (events_at h step)) 0 some)

  thread-goes : (step top : ℕ) (e : Entry) → IsSound h → entry_at h e.archived ≡ Some e → e.archived ≤ step → step ≤ top
      → top ≤ last h
      → IsNotRefused dig h (Ask (ask.Thread step (key_of e) (Some top)))
  unfolding pages_refusal
  thread-goes step top e sound at before order within =
      question-goes dig h (ask.Thread step (key_of e) (Some top))
      (omega (arith, before, from_1_of_entry h e.archived e at), order, within)
      (ap no_thread (received-is_so h step sound (omega (arith, order, within)) e at before))

-- the step of a thread that a sound history received
thread-may : (h : History) (e : Entry) → IsSound h → entry_at h e.archived ≡ Some e → IsStep e.thread.step
thread-may h e sound at = let got = received-sound h sound e.archived e.thread (entry_at-parts h e.archived e at).1 in
    (got.0.1, got.0.2)

-- ---- the events that are asked for

last-events : (h : History) (events : List (List ℕ)) → events_at (with_events_at h events None)
    (last (with_events_at h events None)) ≡ events
last-events h events =
    let s : Step = event_step (root_of (step_at h (last h))) events None in
    let at : last (plus h s) ≡ suc (last h) = length_push h.steps s ∙ omega arith in
    ap (events_at (plus h s)) at ∙ ap events_of (step_at-new h s)

-- alpha's first step has an event
abbrev Begins : Trio → Type 0
Begins t = (1 ≤ last t.alpha) × (0 < length (events_at t.alpha 1))

module _ (dig : List ℕ → List ℕ) where
  begins-put : (who : Who) (t : Trio) (h : History) → GoesOn dig (trio_history who t) h → Begins t
      → Begins (with_history who h t)
  begins-put Alpha t h on begins =
      (omega (arith, on.longer, begins.0), subst (λ es. 0 < length es) (sym (on.events 1 begins.0)) begins.1)
  begins-put Beta t h on begins = begins
  begins-put Gamma t h on begins = begins

  lead-begins : (acts : List ScheduledAct) (t end : Trio) → LeadTo dig acts t end → Begins t → Begins end
  unfolding LeadTo
  lead-begins [] t end lead begins = subst Begins lead begins
  lead-begins (act ∷ acts) t end lead begins =
      let m = done-moves dig act t lead.0 lead.1 in
      lead-begins acts lead.0 end lead.2 (subst Begins (sym m.is) (begins-put m.who t m.history m.on begins))

  -- the first act appends alpha's first step
  first-begins : (events : List (List ℕ)) (acts : List ScheduledAct) (end : Trio) → 0 < length events
      → LeadTo dig (Appends Alpha events ∷ acts) no_steps end → Begins end
  unfolding LeadTo
  first-begins events acts end some lead = lead-begins acts lead.0 end lead.2
      (subst Begins (sym lead.1) (omega arith, some))

  rounds-begin : (number n : ℕ) (t : Trio) → LeadTo dig (rounds_of number (suc n)) no_steps t → Begins t
  unfolding rounds_of
  rounds-begin number zero t lead = first-begins (step_events (after_rounds number 0)) _ t
      (step-some (after_rounds number 0)) lead
  rounds-begin number (suc n) t lead =
      let both = lead-split dig (rounds_of number (suc n)) (round_of_acts (after_rounds number (suc n)) (suc (suc n)))
      no_steps t lead in
      lead-begins (round_of_acts (after_rounds number (suc n)) (suc (suc n))) both.0 t both.2
      (rounds-begin number n both.0 both.1)

  pub led-begins : (number rounds : ℕ) (t : Trio) → IsLedTo dig number rounds t → Begins t
  led-begins number zero t led = first-begins end_event _ t (omega arith)
      (subst (λ acts. LeadTo dig (acts ++ all_append end_event end_event end_event) no_steps t) (rounds-none number)
      led.1)
  led-begins number (suc n) t led =
      let both = parts dig number (suc n) t led in
      lead-begins (all_append end_event end_event end_event) both.0 t both.2 (rounds-begin number n both.0 both.1)

  module _ (number rounds : ℕ) (t : Trio) (led : IsLedTo dig number rounds t) where
    abbrev before : Trio
    before = (parts dig number rounds t led).0

    -- gamma's last step has an event
    pub last-event : 0 < length (events_at t.gamma (last t.gamma))
    last-event = subst (λ (u : Trio). 0 < length (events_at u.gamma (last u.gamma)))
        (sym (ended dig number rounds t led))
        (subst (λ es. 0 < length es) (sym (last-events before.gamma end_event)) (omega arith))

    -- what gamma received it had received before its last step
    pub received-before : (e : Entry) → entry_at t.gamma e.archived ≡ Some e → e.archived ≤ last t.gamma - 1
    received-before e at =
        let g : History = before.gamma in
        let s : Step = event_step (root_of (step_at g (last g))) end_event None in
        let is : t.gamma ≡ plus g s = ap (λ (u : Trio). u.gamma) (ended dig number rounds t led) in
        let at_last : last t.gamma ≡ last g + 1 = ap last is ∙ length_push g.steps s in
        elim (entry-more g s e.archived e (subst (λ (h : History). entry_at h e.archived ≡ Some e) is at)) [
          | inl old ↦ omega (arith, at_last, none-above g e.archived e old)
          | inr new ↦ absurd (cc)
        ]

    abbrev IsAsked : History → Question → Type 0
    IsAsked h q = IsNotRefused dig h (Ask q)

    -- the last event's proof and the map files
    pub asked : IsAsked t.gamma (last_event t) × IsAsked t.alpha (low_side t) × IsAsked t.gamma (high_side t)
    unfolding pages_refusal
    asked =
        let some = some-steps dig number rounds t led in (
          event-goes dig t.gamma (last t.gamma) (last t.gamma) (some Gamma) (omega arith) (omega arith) last-event,
          question-goes dig t.alpha (low_side t) (some Alpha, omega arith, omega arith) refl,
          question-goes dig t.gamma (high_side t) (some Gamma, omega arith) refl,
        )

    -- the parts of the proof over two threads
    pub asked-parts : (of_alpha of_beta : Entry) → first_from t.alpha.name 1 (received_by t.beta) ≡ Some of_alpha
        → first_from t.beta.name of_alpha.archived (received_by t.gamma) ≡ Some of_beta
        → IsAsked t.gamma (ask.Thread (last t.gamma - 1) (key_of of_beta) (Some (last t.gamma))) × IsAsked t.beta
        (ask.Link of_beta.thread.step (Some (last t.beta)))
        × IsAsked t.beta (ask.Thread of_beta.thread.step (key_of of_alpha) (Some (last t.beta))) × IsAsked t.alpha
        (ask.Link of_alpha.thread.step (Some (last t.alpha)))
        × IsAsked t.alpha (ask.Event 1 0 (Some of_alpha.thread.step))
    unfolding pages_refusal
    asked-parts of_alpha of_beta first_alpha first_beta =
        let s = played-stands dig number rounds t led.0 led.1 in
        let some = some-steps dig number rounds t led in
        let alpha_is = first-is t.alpha.name 1 (received_by t.beta) of_alpha first_alpha in
        let beta_is = first-is t.beta.name of_alpha.archived (received_by t.gamma) of_beta first_beta in
        let alpha_at = received-at t.beta (last t.beta) of_alpha alpha_is.0 in
        let beta_at = received-at t.gamma (last t.gamma) of_beta beta_is.0 in
        let alpha_had = own-had dig Alpha t of_alpha.thread s.names (each-who dig (AllHad dig (trio_family t)) Beta t
        s.had of_alpha.archived of_alpha alpha_at.0) alpha_is.1 in
        let beta_had = own-had dig Beta t of_beta.thread s.names (each-who dig (AllHad dig (trio_family t)) Gamma t
        s.had of_beta.archived of_beta beta_at.0) beta_is.1 in (
          thread-goes dig t.gamma (last t.gamma - 1) (last t.gamma) of_beta s.sound.1.1.0 beta_at.0
              (received-before of_beta beta_at.0) (omega arith) (omega arith),
          question-goes dig t.beta (ask.Link of_beta.thread.step (Some (last t.beta)))
              (some Beta, beta_had.0, omega arith) refl,
          thread-goes dig t.beta of_beta.thread.step (last t.beta) of_alpha s.sound.1.0 alpha_at.0 beta_is.2 beta_had.0
              (omega arith),
          question-goes dig t.alpha (ask.Link of_alpha.thread.step (Some (last t.alpha)))
              (some Alpha, alpha_had.0, omega arith) refl,
          event-goes dig t.alpha 1 of_alpha.thread.step (omega arith) alpha_is.2 alpha_had.0
              (led-begins number rounds t led).1,
        )

    -- the threads' steps are steps, as a question asks for
    pub threads-may : (of_alpha of_beta : Entry) → first_from t.alpha.name 1 (received_by t.beta) ≡ Some of_alpha
        → first_from t.beta.name of_alpha.archived (received_by t.gamma) ≡ Some of_beta
        → IsStep of_alpha.thread.step × IsStep of_beta.thread.step
    threads-may of_alpha of_beta first_alpha first_beta =
        let s = played-stands dig number rounds t led.0 led.1 in
        let alpha_at = received-at t.beta (last t.beta) of_alpha (first-is t.alpha.name 1 (received_by t.beta) of_alpha
        first_alpha).0 in
        let beta_at = received-at t.gamma (last t.gamma) of_beta
        (first-is t.beta.name of_alpha.archived (received_by t.gamma) of_beta first_beta).0 in
        (thread-may t.beta of_alpha s.sound.1.0 alpha_at.0, thread-may t.gamma of_beta s.sound.1.1.0 beta_at.0)
