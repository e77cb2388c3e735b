-- Calls that a history doesn't refuse fail by the disk or by want of memory alone; and what can be done after a part of
-- the acts.
use Rattle.std.proofs.Common.{◌≡◌, ◌⊎◌, ℕ, suc, zero, ◌+◌, ◌<◌, List, [], ◌∷◌, ◌++◌, Bool, sym, subst, inl}
use Rattle.std.proofs.Common.{inr, add-one, arith}
use Rattle.std.specs.Prelude.{None, Result, Ok, Err, IfErr, MatchOption}
use Rattle.std.proofs.lemmas.Bool.{cases_lt}
use Rattle.tw_answers.specs.Refusals.{IsFault, IsTooLong}
use Rattle.tw_base.specs.declared.history.refusal.Refusal.{Refusal}
use Rattle.tw_base.specs.declared.history.refusal.Refusal.TheVariants.{BadPage, DiskFault, NoMemory, Reopen, TooLong}
use Rattle.tw_base.specs.declared.history.question.Question.{Question}
use Rattle.tw_base.specs.declared.history.question.Question.TheVariants.{Export}
use Rattle.tw_base.specs.declared.history.thread.Thread.{Thread}
use Rattle.tw_base.specs.format.Formats.{Spells}
use Rattle.tw_base.specs.history.History.{History}
use Rattle.tw_disk.specs.Disk.{DiskView}
use Rattle.tw_msg.specs.Messages.{message_layout}
use Rattle.tw_msg.specs.declared.message.Message.{Message}
use Rattle.tw_msg.specs.declared.receipt.Receipt.{Receipt}
use Rattle.tw_service.specs.Adding.{AppendsEvents, Receives, ReceivesBytes}
use Rattle.tw_service.specs.Asking.{AsksFor}
use Rattle.tw_service.specs.Machine.{AnswersByMachine, Call, Reply}
use Rattle.tw_service.specs.Machine.Call.{Append, Ask, Receive}
use Rattle.tw_service.specs.Machine.Reply.{OfBytes, OfReceipt, OfThread}
use Rattle.tw_service.specs.Questions.{question_refusal}
use Rattle.tw_service.specs.Serves.{Serves, steps_of}
use Rattle.tw_service.specs.declared.service.Service.{Service}
use Rattle.tw_generate.specs.Coming.{AllCanBeDone, IsNotRefused}
use Rattle.tw_generate.specs.Playing.{LeadsByActs, PlaysHistory}
use Rattle.tw_generate.specs.Schedules.{LeadTo, ScheduledAct, Trio, after_rounds, round_of_acts, rounds_of}
use Rattle.tw_generate.specs.Unrefused.{CanPlay, IsFailure, IsFileFailure}
use Rattle.tw_generate.specs.declared.services.Services.{Services}

module _ (dig : List ℕ → List ℕ) (h : History) where
  fails-only : {T : Type 0} (call : Call) (reply : T → Reply) (refusal : Refusal) (Then : History → Type 0)
      → IsNotRefused dig h call → AnswersByMachine dig h call reply (Err refusal) Then → IsFailure refusal
  fails-only call reply (BadPage page) Then goes is = is
  fails-only call reply DiskFault Then goes is = tt
  fails-only call reply NoMemory Then goes is = tt
  fails-only call reply Reopen Then goes is = is
  fails-only call reply refusal Then goes is = absurd (goes refusal h is.0)

  file-only : (refusal : Refusal) (Then : History → Type 0) → AnswersByMachine dig h (Ask Export)
      (λ (bytes : List ℕ). OfBytes bytes) (Err refusal) Then → IsFault refusal ⊎ IsTooLong refusal
      → IsFileFailure refusal
  file-only (BadPage page) Then is why = is
  file-only DiskFault Then is why = tt
  file-only NoMemory Then is why = tt
  file-only (TooLong bytes) Then is why = tt
  file-only _ Then is (inl fault) = absurd fault
  file-only _ Then is (inr long) = absurd long

module _ {D H : Type 0} {g : _} {k : _} (dig : List ℕ → List ℕ) (view : D → DiskView) (old new : Service D H g k)
    (h : History) (plays : PlaysHistory dig view old h) where
  pub asked-fails : (q : Question) (result : Result (List ℕ) Refusal) → IsNotRefused dig h (Ask q)
      → AsksFor dig view q old new result → IfErr result IsFailure
  asked-fails q (Ok bytes) goes a = tt
  asked-fails q (Err refusal) goes a = fails-only dig h (Ask q) (λ (bytes : List ℕ). OfBytes bytes) refusal
      (Serves dig view new) goes (a.asks.machine plays.1 h plays.0)

  -- the file of a history may be too long
  pub file-fails : (result : Result (List ℕ) Refusal) → AsksFor dig view Export old new result
      → IfErr result IsFileFailure
  unfolding question_refusal
  file-fails (Ok bytes) a = tt
  file-fails (Err refusal) a =
      file-only dig h refusal (Serves dig view new) (a.asks.machine plays.1 h plays.0)
      (subst (λ (b : Bool). MatchOption (question_refusal b (steps_of old) Export) (IsFault refusal ⊎ IsTooLong refusal)
      (λ why. ◌≡◌ {A = Result (List ℕ) Refusal} (Err refusal) (Err why))) plays.1 a.asks.table)

  pub appended-fails : (events : List (List ℕ)) (result : Result Thread Refusal) → IsNotRefused dig h
      (Append events None) → AppendsEvents dig view events None old new result → IfErr result IsFailure
  appended-fails events (Ok thread) goes a = tt
  appended-fails events (Err refusal) goes a = fails-only dig h (Append events None) (λ (t : Thread). OfThread t)
      refusal (Serves dig view new) goes ((a.steps h plays.0).machine plays.1)

  pub received-fails : (bytes : List ℕ) (m : Message) (result : Result Receipt Refusal)
      → IsNotRefused dig h (Receive m None) → Spells message_layout bytes m
      → ReceivesBytes dig view bytes None old new result → IfErr result IsFailure
  received-fails bytes m result goes spelled receives = elim (receives.message m spelled) [
    | inl none ↦ subst (λ (r : Result Receipt Refusal). IfErr r IsFailure) (sym none.1) tt
    | inr takes ↦ by result takes
  ]
    where
      by : (r : Result Receipt Refusal) → Receives dig view m None old new r → IfErr r IsFailure
      by (Ok receipt) takes = tt
      by (Err refusal) takes = fails-only dig h (Receive m None) (λ (r : Receipt). OfReceipt r) refusal
          (Serves dig view new) goes ((takes.steps h plays.0).machine plays.1)

-- ---- acts

module _ (dig : List ℕ → List ℕ) where
  -- the first of the acts
  pub can-front : (xs ys : List ScheduledAct) (t : Trio) → AllCanBeDone dig (xs ++ ys) t → AllCanBeDone dig xs t
  unfolding AllCanBeDone
  can-front [] ys t all = tt
  can-front (act ∷ xs) ys t all = (all.0, λ next done. can-front xs ys next (all.1 next done))

  -- the others, where these led
  pub can-then : (xs ys : List ScheduledAct) (t u : Trio) → AllCanBeDone dig (xs ++ ys) t → LeadTo dig xs t u
      → AllCanBeDone dig ys u
  unfolding AllCanBeDone LeadTo
  can-then [] ys t u all lead = subst (λ (v : Trio). AllCanBeDone dig ys v) lead all
  can-then (act ∷ xs) ys t u all lead = can-then xs ys lead.0 u (all.1 lead.0 lead.1) lead.2

  -- each of the rounds, where those before it led
  pub can-round : (number n m : ℕ) (t u : Trio) → n < m → AllCanBeDone dig (rounds_of number m) t
      → LeadTo dig (rounds_of number n) t u → AllCanBeDone dig (round_of_acts (after_rounds number n) (n + 1)) u
  unfolding rounds_of
  can-round number n zero t u less all lead = absurd (omega (arith, less))
  can-round number n (suc m) t u less all lead = elim (cases_lt n m) [
    | inl below ↦ can-round number n m t u below
        (can-front (rounds_of number m) (round_of_acts (after_rounds number m) (suc m)) t all) lead
    | inr at ↦
        let same : n ≡ m = omega (arith, less, at) in
        let here : AllCanBeDone dig (round_of_acts (after_rounds number m) (suc m)) u =
        can-then (rounds_of number m) (round_of_acts (after_rounds number m) (suc m)) t u all
        (subst (λ j. LeadTo dig (rounds_of number j) t u) same lead) in
        subst (λ j. AllCanBeDone dig (round_of_acts (after_rounds number n) j) u) (sym (add-one n))
        (subst (λ j. AllCanBeDone dig (round_of_acts (after_rounds number j) (suc j)) u) (sym same) here)
  ]

module _ {D H : Type 0} {g : _} {k : _} (dig : List ℕ → List ℕ) (view : D → DiskView) where
  -- services that can play acts play what is left of them, after the first ones
  pub can-on : (xs ys : List ScheduledAct) (s next : Services D H g k) → LeadsByActs dig view xs s next
      → CanPlay dig view (xs ++ ys) s → CanPlay dig view ys next
  can-on xs ys s next leads can =
      let led = leads can.0 can.1 in
      (led.0, led.2, can-then dig xs ys can.0 led.0 can.2 led.1)

  pub can-begin : (xs ys : List ScheduledAct) (s : Services D H g k) → CanPlay dig view (xs ++ ys) s
      → CanPlay dig view xs s
  can-begin xs ys s can = (can.0, can.1, can-front dig xs ys can.0 can.2)
