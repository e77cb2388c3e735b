-- What acts make of three histories.
use Rattle.std.proofs.Common.{◌≡◌, ◌⊎◌, ℕ, suc, zero, ◌+◌, ◌*◌, ◌≤◌, ◌<◌, List, [], ◌∷◌, length, Bool, true, false}
use Rattle.std.proofs.Common.{refl, ap, sym, ◌∙◌, subst, inl, inr, arith}
use Rattle.std.specs.Prelude.{◌%◌, ◌==◌, codes, Option, Some, None, if◌then◌else◌}
use Rattle.std.proofs.lemmas.List.{length-append, length_push}
use Rattle.tw_answers.specs.Limits.{clock_refusal}
use Rattle.tw_base.specs.declared.history.content.Content.{Content}
use Rattle.tw_base.specs.declared.history.content.Content.TheVariants.{Received}
use Rattle.tw_base.specs.declared.history.thread.Entry.{Entry}
use Rattle.tw_base.specs.declared.history.thread.Thread.{Thread}
use Rattle.tw_base.specs.declared.kinds.limits.TheConstants.{LAST_STEP}
use Rattle.tw_base.specs.history.Family.{HasThread}
use Rattle.tw_base.specs.history.History.{History, Step, entry_at, plus, root_of, step_at, thread_of}
use Rattle.tw_base.specs.history.Limits.{MayRecord}
use Rattle.tw_base.specs.history.Sound.{IsSound}
use Rattle.tw_base.specs.kinds.Lists.{Each}
use Rattle.tw_base.proofs.lemmas.kinds.ListLemmas.{Each-append}
use Rattle.tw_msg.specs.declared.message.Message.{Message}
use Rattle.tw_msg.specs.declared.receipt.Receipt.{Receipt}
use Rattle.tw_service.specs.EventStep.{event_step, with_events_at}
use Rattle.tw_service.specs.Machine.{Archives, RepliesTo, received_as}
use Rattle.tw_service.specs.Machine.Reply.{OfReceipt, Refused}
use Rattle.tw_service.specs.Stands.{greatest_time}
use Rattle.tw_service.specs.declared.receiving.Reception.{Reception}
use Rattle.tw_service.specs.declared.receiving.Reception.TheVariants.{Archive, Known, Refuse}
use Rattle.tw_service.proofs.Beginning.{sound_none}
use Rattle.tw_service.proofs.NextHistories.{sound_plus}
use Rattle.tw_generate.specs.Draws.{after_step}
use Rattle.tw_generate.specs.Schedules.{Hears, IsDone, LeadTo, ScheduledAct, Trio, Who, after_rounds, all_append}
use Rattle.tw_generate.specs.Schedules.{all_tell, alpha_name, beta_name, end_event, gamma_name, no_steps, round_of_acts}
use Rattle.tw_generate.specs.Schedules.{rounds_of, schedule, trio_history, with_history}
use Rattle.tw_generate.specs.Schedules.ScheduledAct.{Appends, Tells}
use Rattle.tw_generate.specs.Summing.{trio_family}
use Rattle.tw_generate.proofs.DrawnEvents.{end-may, step-may}
use Rattle.tw_generate.proofs.Onward.{GoesOn, entry-more, on-plus, on-same, thread-on}
use Rattle.tw_generate.proofs.Standing.{AllHad, Stand, each-who, own-thread, put-on, stand-put}

-- where no time is given the clock doesn't go back
pub no-clock : (clock : Option ℕ) → clock_refusal clock None ≡ None
no-clock None = refl
no-clock (Some last) = refl

content-thread : (s : Step) (t u : Thread) → s.content ≡ Received t → thread_of (Some s) ≡ Some u → u ≡ t
content-thread s t u is got =
    let made : thread_of (Some s) ≡ Some t =
    ap (λ (c : Content). thread_of (Some (record { content = c; time = s.time; fresh = s.fresh; root = s.root }))) is in
    let same : Some u ≡ Some t = sym got ∙ made in cc

module _ (dig : List ℕ → List ℕ) where
  -- a message that is answered by a receipt makes no step, or one of its thread, with which the history is sound
  pub reply-cases : (h : History) (m : Message) (r : Receipt) (next : History) (x : Reception) → RepliesTo dig h m None
      (OfReceipt r) next x
      → (next ≡ h) ⊎ (Archives m.thread None h next × IsSound next)
  reply-cases h m r next (Refuse refusal) reply = (let bad : OfReceipt r ≡ Refused refusal = reply.1 in cc)
  reply-cases h m r next (Known archived) reply = inl reply.0
  reply-cases h m r next Archive reply = inr (reply.0, reply.1)

  pub heard-cases : (a b next : History) (hears : Hears dig a b next) → (next ≡ b)
      ⊎ (Archives hears.message.thread None b next × IsSound next)
  heard-cases a b next hears = reply-cases b hears.message hears.receipt next (received_as dig b hears.message None)
      hears.receives

  -- one history goes on, by at most one step
  pub record Moves (t next : Trio) : Type 0 where
    pub who : Who
    pub history : History
    pub is : next ≡ with_history who history t
    pub on : GoesOn dig (trio_history who t) history
    pub short : length history.steps ≤ suc (length (trio_history who t).steps)

  pub done-moves : (act : ScheduledAct) (t next : Trio) → IsDone dig act t next → Moves t next
  done-moves (Appends who events) t next done =
      let h : History = trio_history who t in
      let s : Step = event_step (root_of (step_at h (length h.steps))) events None in
      record {
        who = who;
        history = plus h s;
        is = done;
        on = on-plus dig h s;
        short = omega (arith, length_push h.steps s);
      }
  done-moves (Tells from to) t next done =
      let h : History = trio_history to t in
      let goes : GoesOn dig h done.0 × (length done.0.steps ≤ suc (length h.steps)) =
      elim (heard-cases (trio_history from t) h done.0 done.1) [
        | inl same ↦ subst (λ (g : History). GoesOn dig h g × (length g.steps ≤ suc (length h.steps))) (sym same)
            (on-same dig h, omega arith)
        | inr more ↦ subst (λ (g : History). GoesOn dig h g × (length g.steps ≤ suc (length h.steps))) (sym more.0.1)
            (on-plus dig h more.0.0, omega (arith, length_push h.steps more.0.0))
      ]
      in record { who = to; history = done.0; is = done.2; on = goes.0; short = goes.1 }

  -- ---- that they stand

  abbrev pub MayBeDone : ScheduledAct → Type 0
  MayBeDone (Appends who events) = MayRecord events
  MayBeDone (Tells from to) = Unit {0}

  appended-stand : (who : Who) (events : List (List ℕ)) (t : Trio) (most : ℕ) → MayRecord events → most < LAST_STEP
      → Stand dig t most
      → Stand dig (with_history who (with_events_at (trio_history who t) events None) t) (suc most)
  appended-stand who events t most may room s =
      let h : History = trio_history who t in
      let step : Step = event_step (root_of (step_at h (length h.steps))) events None in
      let few : length h.steps ≤ most = each-who dig (λ (g : History). length g.steps ≤ most) who t s.few in
      let sound : IsSound (plus h step) = sound_plus h events None (each-who dig IsSound who t s.sound) may tt
      (no-clock (greatest_time h)) (omega (arith, few, room)) in
      let on : GoesOn dig h (plus h step) = on-plus dig h step in
      stand-put dig who t (plus h step) most s on sound (omega (arith, length_push h.steps step))
      (λ k e is. elim (entry-more h step k e is) [
        | inl old ↦ thread-on dig (trio_family t) (trio_family (with_history who (plus h step) t))
            (put-on dig who t (plus h step) on) e.thread (each-who dig (AllHad dig (trio_family t)) who t s.had k e old)
        | inr new ↦ cc
      ])

  told-stand : (from to : Who) (t : Trio) (next : History) (most : ℕ) → Hears dig (trio_history from t)
      (trio_history to t) next → Stand dig t most → Stand dig (with_history to next t) (suc most)
  told-stand from to t next most hears s =
      let h : History = trio_history to t in
      let sound : IsSound h = each-who dig IsSound to t s.sound in
      let had : AllHad dig (trio_family t) h = each-who dig (AllHad dig (trio_family t)) to t s.had in
      elim (heard-cases (trio_history from t) h next hears) [
        | inl same ↦ subst (λ (g : History). Stand dig (with_history to g t) (suc most)) (sym same)
            (stand-put dig to t h most s (on-same dig h) sound (omega arith)
            (λ k e is. thread-on dig (trio_family t) (trio_family (with_history to h t))
            (put-on dig to t h (on-same dig h)) e.thread (had k e is)))
        | inr more ↦
            let step : Step = more.0.0 in
            let on : GoesOn dig h (plus h step) = on-plus dig h step in
            let goes = put-on dig to t (plus h step) on in
            let own : HasThread dig (trio_family t) hears.message.thread = subst (HasThread dig (trio_family t))
            (sym hears.is_message.thread) (own-thread dig from t (length (trio_history from t).steps) s.names
            (omega arith)) in
            subst (λ (g : History). Stand dig (with_history to g t) (suc most)) (sym more.0.1)
            (stand-put dig to t (plus h step) most s on (subst IsSound more.0.1 more.1)
            (omega (arith, length_push h.steps step)) (λ k e is. elim (entry-more h step k e is) [
              | inl old ↦ thread-on dig (trio_family t) (trio_family (with_history to (plus h step) t)) goes e.thread
                  (had k e old)
              | inr new ↦ subst (HasThread dig (trio_family (with_history to (plus h step) t)))
                  (sym (content-thread step hears.message.thread e.thread more.0.2 new))
                  (thread-on dig (trio_family t) (trio_family (with_history to (plus h step) t)) goes
                  hears.message.thread own)
            ]))
      ]

  pub done-stand : (act : ScheduledAct) (t next : Trio) (most : ℕ) → IsDone dig act t next → MayBeDone act
      → most < LAST_STEP → Stand dig t most → Stand dig next (suc most)
  done-stand (Appends who events) t next most done may room s = subst (λ (u : Trio). Stand dig u (suc most)) (sym done)
      (appended-stand who events t most may room s)
  done-stand (Tells from to) t next most done may room s = subst (λ (u : Trio). Stand dig u (suc most)) (sym done.2)
      (told-stand from to t done.0 most done.1 s)

  pub lead-stand : (acts : List ScheduledAct) (t end : Trio) (most : ℕ) → LeadTo dig acts t end → Each MayBeDone acts
      → most + length acts ≤ LAST_STEP → Stand dig t most
      → Stand dig end (most + length acts)
  unfolding LeadTo
  lead-stand [] t end most lead may room s = subst (λ n. Stand dig end n) (omega arith)
      (subst (λ (u : Trio). Stand dig u most) lead s)
  lead-stand (act ∷ acts) t end most lead may room s =
      subst (λ n. Stand dig end n) (omega arith)
      (lead-stand acts lead.0 end (suc most) lead.2 may.1 (omega (arith, room))
      (done-stand act t lead.0 most lead.1 may.0 (omega (arith, room)) s))

  -- ---- the schedule

  tell-may : (b : Bool) → Each MayBeDone (if b then all_tell else [])
  tell-may true = (tt, (tt, (tt, (tt, (tt, (tt, tt))))))
  tell-may false = tt

  pub round-may : (x number : ℕ) → Each MayBeDone (round_of_acts x number)
  round-may x number =
      (step-may x, (step-may (after_step x), (step-may (after_step (after_step x)), tell-may (number % 50 == 0))))

  pub rounds-may : (number n : ℕ) → Each MayBeDone (rounds_of number n)
  unfolding rounds_of
  rounds-may number zero = tt
  rounds-may number (suc n) = Each-append MayBeDone (rounds_of number n) (round_of_acts (after_rounds number n) (suc n))
      (rounds-may number n) (round-may (after_rounds number n) (suc n))

  pub schedule-may : (number rounds : ℕ) → Each MayBeDone (schedule number rounds)
  schedule-may number rounds = Each-append MayBeDone (rounds_of number rounds)
      (all_append end_event end_event end_event) (rounds-may number rounds) (end-may, (end-may, (end-may, tt)))

tell-length : (b : Bool) → length (if b then all_tell else []) ≤ 6
tell-length true = omega arith
tell-length false = omega arith

round-length : (x number : ℕ) → length (round_of_acts x number) ≤ 9
round-length x number = omega (arith, tell-length (number % 50 == 0))

pub rounds-length : (number n : ℕ) → length (rounds_of number n) ≤ 9 * n
unfolding rounds_of
rounds-length number zero = omega arith
rounds-length number (suc n) =
    omega (
      arith,
      length-append (rounds_of number n) (round_of_acts (after_rounds number n) (suc n)),
      rounds-length number n,
      round-length (after_rounds number n) (suc n),
    )

pub schedule-length : (number rounds : ℕ) → length (schedule number rounds) ≤ 9 * rounds + 3
schedule-length number rounds =
    omega (
      arith,
      length-append (rounds_of number rounds) (all_append end_event end_event end_event),
      rounds-length number rounds,
    )

module _ (dig : List ℕ → List ℕ) where
  pub start-stand : Stand dig no_steps 0
  start-stand = record {
    names = record { alpha = refl; beta = refl; gamma = refl };
    sound = (
      sound_none alpha_name (codes "alpha", refl, refl),
      (sound_none beta_name (codes "beta", refl, refl), (sound_none gamma_name (codes "gamma", refl, refl), tt)),
    );
    few = (omega arith, (omega arith, (omega arith, tt)));
    had = (none alpha_name, (none beta_name, (none gamma_name, tt)));
  }
    where
      none : (name : List ℕ) (k : ℕ) (e : Entry) → entry_at (record { name = name; steps = [] }) k ≡ Some e
          → HasThread dig (trio_family no_steps) e.thread
      none name zero e is = cc
      none name (suc k) e is = cc

  -- ten thousand rounds leave room for a step
  pub front-stands : (acts : List ScheduledAct) (t : Trio) → Each (MayBeDone dig) acts → length acts ≤ LAST_STEP
      → LeadTo dig acts no_steps t → Stand dig t (length acts)
  front-stands acts t may short lead = subst (λ n. Stand dig t n) (omega arith)
      (lead-stand dig acts no_steps t 0 lead may (omega (arith, short)) start-stand)

  pub played-stands : (number rounds : ℕ) (t : Trio) → rounds ≤ 10000 → LeadTo dig (schedule number rounds) no_steps t
      → Stand dig t (length (schedule number rounds))
  played-stands number rounds t few lead = front-stands (schedule number rounds) t (schedule-may dig number rounds)
      (omega (arith, few, schedule-length number rounds)) lead
