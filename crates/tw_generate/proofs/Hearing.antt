-- What beta has heard of alpha, and gamma of beta, from the first messages on.
use Rattle.std.proofs.Common.{◌≡◌, ℕ, suc, zero, ◌+◌, ◌-◌, ◌≤◌, ◌<◌, List, [], ◌∷◌, length, refl, ap, sym, ◌∙◌, subst}
use Rattle.std.proofs.Common.{arith}
use Rattle.std.specs.Prelude.{Option, Some, None}
use Rattle.tw_base.specs.declared.history.thread.Entry.{Entry}
use Rattle.tw_base.specs.declared.history.thread.Thread.{Thread}
use Rattle.tw_base.specs.history.History.{History, entry_at}
use Rattle.tw_base.specs.kinds.Lists.{In}
use Rattle.tw_base.proofs.lemmas.history.Archives.{received-has}
use Rattle.tw_msg.specs.HistoryMessages.{IsReceiptOf, thread_at_step}
use Rattle.tw_msg.specs.declared.message.Message.{Message}
use Rattle.tw_msg.specs.declared.receipt.Receipt.{Receipt}
use Rattle.tw_service.specs.Machine.{RepliesTo, receipt_by, received_as}
use Rattle.tw_service.specs.Machine.Reply.{OfReceipt, Refused}
use Rattle.tw_service.specs.declared.receiving.Reception.{Reception}
use Rattle.tw_service.specs.declared.receiving.Reception.TheVariants.{Archive, Known, Refuse}
use Rattle.tw_service.proofs.ReceivingLaws.{own-receipt}
use Rattle.tw_tmap.specs.Bounds.{first_from}
use Rattle.tw_generate.specs.Draws.{after_step, step_events}
use Rattle.tw_generate.specs.Schedules.{ScheduledAct, Hears, IsDone, LeadTo, Trio, Who, after_rounds, no_steps}
use Rattle.tw_generate.specs.Schedules.{round_of_acts, rounds_of, trio_history, with_history}
use Rattle.tw_generate.specs.Schedules.ScheduledAct.{Appends, Tells}
use Rattle.tw_generate.specs.Schedules.Who.{Alpha, Beta, Gamma}
use Rattle.tw_generate.specs.Summing.{last, received_by}
use Rattle.tw_generate.proofs.Acts.{done-moves}
use Rattle.tw_generate.proofs.FirstEntries.{first-is, first-stays, first-there, received-at}
use Rattle.tw_generate.proofs.Leading.{lead-split, rounds-more}
use Rattle.tw_generate.proofs.Onward.{GoesOn, entry_of, none-above}

module _ (dig : List ℕ → List ℕ) where
  -- ---- a message that is answered

  receipt-thread : (h : History) (m : Message) (r : Receipt) (next : History) (x : Reception) → RepliesTo dig h m None
      (OfReceipt r) next x → r.thread ≡ m.thread
  receipt-thread h m r next (Refuse refusal) reply = (let bad : OfReceipt r ≡ Refused refusal = reply.1 in cc)
  receipt-thread h m r next (Known archived) reply = let same : r ≡ receipt_by dig h archived m.thread = cc (reply.1) in
      ap (λ (x : Receipt). x.thread) same
  receipt-thread h m r next Archive reply = let same : r ≡ receipt_by dig next (suc (length h.steps)) m.thread =
      cc (reply.2) in ap (λ (x : Receipt). x.thread) same

  -- its thread is among those that were received then
  told-there : (a b next : History) → Hears dig a b next → (e : Entry) × In e (received_by next)
      × (e.thread ≡ thread_at_step dig a (last a)) × (0 < last a)
  told-there a b next hears =
      let m : Message = hears.message in
      let r : Receipt = hears.receipt in
      let own : IsReceiptOf dig next r.by.step r = own-receipt dig b m None next r hears.receives in
      let e : Entry = record { thread = r.thread; archived = r.by.step } in
      let at : entry_at next r.by.step ≡ Some e = ap (λ (o : Option Thread). entry_of r.by.step o) own.received in (
        e,
        received-has next (last next) r.by.step e (none-above next r.by.step e at) at,
        receipt-thread b m r next (received_as dig b m None) hears.receives ∙ hears.is_message.thread,
        hears.is_message.some,
      )

  -- ---- what was heard stays

  -- beta received a thread of alpha
  pub record HasFirst (t : Trio) : Type 0 where
    pub of_alpha : Entry
    pub is_of_alpha : first_from t.alpha.name 1 (received_by t.beta) ≡ Some of_alpha

  -- and gamma one of beta of the step that archived the first one, or of a later one
  pub record HaveHeard (t : Trio) : Type 0 where
    pub first : HasFirst t
    pub of_beta : Entry
    pub is_of_beta : first_from t.beta.name first.of_alpha.archived (received_by t.gamma) ≡ Some of_beta

  goes-first : (from next_from : List ℕ) (least : ℕ) (h next : History) (e : Entry) → next_from ≡ from
      → GoesOn dig h next → first_from from least (received_by h) ≡ Some e
      → first_from next_from least (received_by next) ≡ Some e
  goes-first from next_from least h next e name on is =
      ap (λ n. first_from n least (received_by next)) name ∙ ap (first_from from least) on.heard ∙ first-stays from
      least (received_by h) on.more e is

  put-first : (who : Who) (t : Trio) (h : History) → GoesOn dig (trio_history who t) h → HasFirst t
      → HasFirst (with_history who h t)
  put-first Alpha t h on f =
      record {
        of_alpha = f.of_alpha;
        is_of_alpha = ap (λ n. first_from n 1 (received_by t.beta)) on.name ∙ f.is_of_alpha;
      }
  put-first Beta t h on f =
      record {
        of_alpha = f.of_alpha;
        is_of_alpha = goes-first t.alpha.name t.alpha.name 1 t.beta h f.of_alpha refl on f.is_of_alpha;
      }
  put-first Gamma t h on f = record { of_alpha = f.of_alpha; is_of_alpha = f.is_of_alpha }

  put-heard : (who : Who) (t : Trio) (h : History) → GoesOn dig (trio_history who t) h → HaveHeard t
      → HaveHeard (with_history who h t)
  unfolding put-first
  put-heard Alpha t h on f =
      record { first = put-first Alpha t h on f.first; of_beta = f.of_beta; is_of_beta = f.is_of_beta }
  put-heard Beta t h on f = record {
    first = put-first Beta t h on f.first;
    of_beta = f.of_beta;
    is_of_beta = ap (λ n. first_from n f.first.of_alpha.archived (received_by t.gamma)) on.name ∙ f.is_of_beta;
  }
  put-heard Gamma t h on f = record {
    first = put-first Gamma t h on f.first;
    of_beta = f.of_beta;
    is_of_beta = goes-first t.beta.name t.beta.name f.first.of_alpha.archived t.gamma h f.of_beta refl on f.is_of_beta;
  }

  done-first : (act : ScheduledAct) (t next : Trio) → IsDone dig act t next → HasFirst t → HasFirst next
  done-first act t next done f = let m = done-moves dig act t next done in subst HasFirst (sym m.is)
      (put-first m.who t m.history m.on f)

  done-heard : (act : ScheduledAct) (t next : Trio) → IsDone dig act t next → HaveHeard t → HaveHeard next
  done-heard act t next done f = let m = done-moves dig act t next done in subst HaveHeard (sym m.is)
      (put-heard m.who t m.history m.on f)

  pub lead-heard : (acts : List ScheduledAct) (t end : Trio) → LeadTo dig acts t end → HaveHeard t → HaveHeard end
  unfolding LeadTo
  lead-heard [] t end lead f = subst HaveHeard lead f
  lead-heard (act ∷ acts) t end lead f = lead-heard acts lead.0 end lead.2 (done-heard act t lead.0 lead.1 f)

  -- ---- the first messages

  first-heard : (t next : Trio) → IsDone dig (Tells Alpha Beta) t next → HasFirst next
  first-heard t next done =
      let there = told-there t.alpha t.beta done.0 done.1 in
      let found = first-there t.alpha.name 1 (received_by done.0) there.0 there.1 (ap (λ (x : Thread). x.from) there.2)
      (omega (arith, ap (λ (x : Thread). x.step) there.2, there.3)) in
      subst HasFirst (sym done.2) (record { of_alpha = found.0; is_of_alpha = found.1 })

  second-heard : (t next : Trio) → HasFirst t → IsDone dig (Tells Beta Gamma) t next → HaveHeard next
  second-heard t next f done =
      let there = told-there t.beta t.gamma done.0 done.1 in
      let before = received-at t.beta (last t.beta) f.of_alpha (first-is t.alpha.name 1 (received_by t.beta) f.of_alpha
      f.is_of_alpha).0 in
      let found = first-there t.beta.name f.of_alpha.archived (received_by done.0) there.0 there.1
      (ap (λ (x : Thread). x.from) there.2)
      (omega (arith, ap (λ (x : Thread). x.step) there.2, before.1)) in
      subst HaveHeard (sym done.2)
      (record {
        first = record { of_alpha = f.of_alpha; is_of_alpha = f.is_of_alpha };
        of_beta = found.0;
        is_of_beta = found.1;
      })

  -- the messages of a round
  told-heard : (a b c : List (List ℕ)) (t end : Trio)
      → LeadTo dig (Appends Alpha a ∷ Appends Beta b ∷ Appends Gamma c ∷ Tells Alpha Beta ∷ Tells Alpha Gamma ∷ Tells
      Beta Alpha ∷ Tells Beta Gamma ∷ Tells Gamma Alpha ∷ Tells Gamma Beta ∷ []) t end
      → HaveHeard end
  unfolding LeadTo
  told-heard a b c t end lead =
      let one = lead.2.2.2 in
      let two = one.2 in
      let three = two.2 in
      let four = three.2 in
      let first = first-heard lead.2.2.0 one.0 one.1 in
      let before : HasFirst three.0 = done-first (Tells Beta Alpha) two.0 three.0 three.1
      (done-first (Tells Alpha Gamma) one.0 two.0 two.1 first) in
      lead-heard (Tells Gamma Alpha ∷ Tells Gamma Beta ∷ []) four.0 end four.2
      (second-heard three.0 four.0 before four.1)

  rounds-first : (number : ℕ) (t : Trio) → LeadTo dig (rounds_of number 50) no_steps t → HaveHeard t
  rounds-first number t lead =
      let x : ℕ = after_rounds number 49 in
      let parts = lead-split dig (rounds_of number 49) (round_of_acts x 50) no_steps t
      (subst (λ acts. LeadTo dig acts no_steps t) (rounds-more number 49) lead) in
      told-heard (step_events x) (step_events (after_step x)) (step_events (after_step (after_step x))) parts.0 t
      parts.2

  rounds-later : (number d : ℕ) (t : Trio) → LeadTo dig (rounds_of number (50 + d)) no_steps t → HaveHeard t
  rounds-later number zero t lead = rounds-first number t lead
  rounds-later number (suc d) t lead =
      let next : 50 + suc d ≡ (50 + d) + 1 = omega arith in
      let more = round_of_acts (after_rounds number (50 + d)) (50 + d + 1) in
      let parts = lead-split dig (rounds_of number (50 + d)) more no_steps t
      (subst (λ acts. LeadTo dig acts no_steps t) (ap (rounds_of number) next ∙ rounds-more number (50 + d)) lead) in
      lead-heard more parts.0 t parts.2 (rounds-later number d parts.0 parts.1)

  pub rounds-heard : (number n : ℕ) (t : Trio) → 50 ≤ n → LeadTo dig (rounds_of number n) no_steps t → HaveHeard t
  rounds-heard number n t enough lead = rounds-later number (n - 50) t
      (subst (λ m. LeadTo dig (rounds_of number m) no_steps t) (omega arith) lead)
