-- What a service publishes is of its history.
use Rattle.std.proofs.Common.{◌≡◌, ℕ, suc, zero, ◌-◌, ◌<◌, ◌≤◌, List, [], ◌∷◌, length, refl, ap, sym, ◌∙◌, subst, arith}
use Rattle.std.proofs.Common.{inl, inr, ⊎_elim, Bool, true, false}
use Rattle.std.specs.Option.{option_map_or}
use Rattle.std.specs.Prelude.{◌&&◌, if◌then◌else◌, nat_le, MatchOption, Option, Some, None}
use Rattle.std.proofs.lemmas.Bool.{leb-true}
use Rattle.std.proofs.lemmas.List.{length_push}
use Rattle.std.proofs.lemmas.Option.{slice_get_cases}
use Rattle.tw_base.specs.declared.history.thread.Thread.{Thread}
use Rattle.tw_base.specs.format.Formats.{Spells}
use Rattle.tw_base.specs.history.Auth.{auth}
use Rattle.tw_base.specs.history.Tree.{tree}
use Rattle.tw_base.specs.history.TreeProofs.{proof_of}
use Rattle.tw_base.specs.history.History.{History, Step, plus, step_at, thread_of}
use Rattle.tw_base.specs.history.HistoryCodec.{history_codec, history_layout}
use Rattle.tw_base.specs.history.Sound.{IsSound}
use Rattle.tw_base.specs.kinds.Lists.{In}
use Rattle.tw_base.proofs.lemmas.format.CodecLaws.{unambiguous}
use Rattle.tw_base.proofs.lemmas.history.HistoryCodecLaws.{history-lawful}
use Rattle.tw_base.proofs.lemmas.history.Plus.{auth-plus}
use Rattle.tw_chain.specs.declared.proof.Proof.{Proof}
use Rattle.tw_chain.specs.declared.proof.Proof.TheVariants.{Exists, Archived, Absent, Linked}
use Rattle.tw_chain.specs.Proofs.{proof_codec, proof_layout}
use Rattle.tw_chain.proofs.ProofCodec.{from_existence, proof-lawful}
use Rattle.tw_skipproof.specs.declared.existence.Part.{Part}
use Rattle.tw_skipproof.specs.HistoryProofs.{IsPartOfHistory}
use Rattle.tw_base.specs.declared.history.refusal.Refusal.{Refusal}
use Rattle.tw_base.specs.declared.history.refusal.Refusal.TheVariants.{NoStep, TooLong}
use Rattle.tw_answers.specs.Limits.{is_in_order, link_refusal, or_else, order_refusal, top_refusal}
use Rattle.tw_msg.specs.declared.message.Message.{Message}
use Rattle.tw_msg.specs.HistoryMessages.{thread_at_step}
use Rattle.tw_msg.specs.Messages.{message_codec}
use Rattle.tw_msg.proofs.MessageCodec.{message-lawful}
use Rattle.tw_service.specs.Mapping.{MakesHigh, MakesLow}
use Rattle.tw_tmap.specs.declared.map_file.HighFile.{HighFile}
use Rattle.tw_tmap.specs.declared.map_file.LowFile.{LowFile}
use Rattle.tw_tmap.specs.declared.map_file.LowPart.{LowPart}
use Rattle.tw_tmap.specs.Checking.{low_ask, low_file_part}
use Rattle.tw_tmap.specs.MapFiles.{high_codec, low_codec}
use Rattle.tw_tmap.proofs.MapCodec.{high-lawful, low-lawful}
use Rattle.tw_service.specs.Machine.{Call, IsStepOf, Makes, MakesLink, NextOf, Reply}
use Rattle.tw_service.specs.Machine.{append_table, last_thread}
use Rattle.tw_service.specs.Exporting.{is_short, told_size}
use Rattle.tw_base.specs.declared.history.question.Question.{Question}
use Rattle.tw_base.specs.declared.history.question.Question.TheVariants as ask
use Rattle.tw_service.specs.Questions.{history_refusal, pages_refusal, question_refusal}
use Rattle.tw_service.specs.Machine.Call.{Append, Ask, Receive, CountSteps, TellHead, TellName}
use Rattle.tw_service.specs.Machine.Reply.{OfBytes, OfThread, OfReceipt, Refused}
use Rattle.tw_service.proofs.ReceivingLaws.{own-receipt}
use Rattle.tw_service.proofs.ShortFiles.{reads-back}
use Rattle.tw_laws.specs.Published.{IsInAnswer, IsInFile, IsInHigh, IsInLow, IsInProof, IsReplyTo, IsThreadOf}
use Rattle.tw_laws.specs.Published.{Publishes, PublishesBy, high_threads, low_threads, own_threads, thread_before}

-- ---- tables that don't refuse

none_first : (o q : Option Refusal) → or_else o q ≡ None → o ≡ None
none_first None q none = refl
none_first (Some r) q none = none

passes : (b : Bool) (r : Refusal) → (if b then None else Some r) ≡ None → b ≡ true
passes true r none = refl
passes false r none = absurd cc

both : (a b : Bool) → (a && b) ≡ true → (a ≡ true) × (b ≡ true)
both true b is = (refl, is)
both false b is = absurd cc

order_within : (last step top : ℕ) → order_refusal false last step top ≡ None → step ≤ last
unfolding order_refusal
order_within last step top none =
    let outer = both (nat_le 1 step && nat_le step top) (nat_le top last)
    (passes (is_in_order last step top) (NoStep last) none) in
    let inner = both (nat_le 1 step) (nat_le step top) outer.0 in
    omega (arith, leb-true step top inner.1, leb-true top last outer.1)

link_within : (last step top : ℕ) → link_refusal false last step top ≡ None → step ≤ last
unfolding link_refusal
link_within last step top none =
    let outer = both (nat_le step top) (nat_le 1 top && nat_le top last)
    (passes (nat_le step top && (nat_le 1 top && nat_le top last)) (NoStep last) none) in
    let inner = both (nat_le 1 top) (nat_le top last) outer.1 in
    omega (arith, leb-true step top outer.0, leb-true top last inner.1)

top_within : (last top : ℕ) → top_refusal false last top ≡ None → top ≤ last
unfolding top_refusal
top_within last top none =
    leb-true top last (both (nat_le 1 top) (nat_le top last) (passes (nat_le 1 top && nat_le top last) (NoStep last)
    none)).1

module _ (dig : List ℕ → List ℕ) where
  -- ---- threads of a history

  pub last_own : (h : History) → IsThreadOf dig h (last_thread dig h)
  last_own h = record { from = refl; within = omega arith; auth = refl }

  -- one more step keeps them
  pub own_plus : (h : History) (s : Step) (t : Thread) → IsThreadOf dig h t → IsThreadOf dig (plus h s) t
  own_plus h s t own =
      record {
        from = own.from;
        within = omega (arith, own.within, length_push h.steps s);
        auth = own.auth ∙ sym (auth-plus h s dig t.step own.within);
      }

  -- two of one step are one
  pub own_once : (h : History) (t u : Thread) → IsThreadOf dig h t → IsThreadOf dig h u → t.step ≡ u.step → t ≡ u
  own_once h t u one other same =
      let from : t.from ≡ u.from = one.from ∙ sym other.from in
      let auths : t.auth ≡ u.auth = one.auth ∙ ap (λ (i : ℕ). auth dig h i) same ∙ sym other.auth in
      λ j. record { from = from j; step = same j; auth = auths j }

  -- ---- proofs

  before_own : (h : History) (step top : ℕ) (p : Part) → IsPartOfHistory dig h step top p → step ≤ length h.steps
      → IsThreadOf dig h (thread_before p)
  before_own h step top p part within = record {
    from = part.service;
    within = omega (arith, part.at_step, within);
    auth = sym part.opening.binds.prev ∙ ap (λ (i : ℕ). auth dig h (i - 1)) (sym part.at_step);
  }

  -- the only thread of a proof that bytes spell
  only_thread : (bytes : List ℕ) (p q : Proof) (t u : Thread) → Spells proof_layout bytes p → Spells proof_layout bytes
      q → In t (own_threads p) → own_threads q ≡ u ∷ [] → t ≡ u
  only_thread bytes p q t u spelled made there is =
      let same : p ≡ q = (unambiguous proof_codec proof-lawful).one_value bytes p q spelled made in
      let in_one : In t (u ∷ []) = subst (λ (us : List Thread). In t us) (ap (λ (x : Proof). own_threads x) same ∙ is)
      there in
      ⊎_elim (λ e. e) (λ no. absurd no) in_one

  -- the thread of a proof that is of one part
  part_own : (h : History) (step top : ℕ) (bytes : List ℕ) (q : Proof) (p : Part) → IsPartOfHistory dig h step top p
      → step ≤ length h.steps → Spells proof_layout bytes q → own_threads q ≡ thread_before p ∷ []
      → (t : Thread) → IsInProof bytes t → IsThreadOf dig h t
  part_own h step top bytes q p part order made is t told =
      let one = only_thread bytes told.0 q t (thread_before p) told.1 made told.2 is in
      subst (λ (u : Thread). IsThreadOf dig h u) (sym one) (before_own h step top p part order)

  link_own : (h : History) (step top : ℕ) (bytes : List ℕ) → step ≤ length h.steps → MakesLink dig h step top bytes
      → (t : Thread) → IsInProof bytes t → IsThreadOf dig h t
  link_own h step top bytes order makes t told =
      let p = makes.0 in
      let own : IsThreadOf dig h (record { from = p.service; step = p.step; auth = p.auth }) = record {
        from = makes.2.service;
        within = omega (arith, makes.2.at_step, order);
        auth = makes.2.given ∙ ap (λ (i : ℕ). auth dig h i) (sym makes.2.at_step);
      } in
      let is = only_thread bytes told.0 (Linked p) t (record { from = p.service; step = p.step; auth = p.auth }) told.1
      makes.1 told.2 refl in
      subst (λ (u : Thread). IsThreadOf dig h u) (sym is) own

  -- ---- map files

  shown_own : (h : History) (step top : ℕ) (f : LowFile) (t : Thread) → step ≤ length h.steps → (o : Option LowPart)
      → MatchOption o (step ≡ 1) (λ p. (1 < step) × IsPartOfHistory dig h (step - 1) top (low_file_part f p)
      × (p.shown ≡ proof_of dig (tree h (step - 1)) (low_ask f)))
      → In t (option_map_or (λ p. thread_before (low_file_part f p) ∷ []) o []) → IsThreadOf dig h t
  shown_own h step top f t within None is there = absurd there
  shown_own h step top f t within (Some p) is there =
      let one = ⊎_elim (λ e. e) (λ no_other. absurd no_other) there in
      subst (λ (u : Thread). IsThreadOf dig h u) (sym one) (before_own h (step - 1) top (low_file_part f p) is.1
      (omega (arith, within)))

  low_own : (h : History) (step : ℕ) (peer : List ℕ) (top : ℕ) (bytes : List ℕ) → step ≤ length h.steps
      → MakesLow dig h step peer top bytes
      → (t : Thread) → IsInLow bytes t → IsThreadOf dig h t
  low_own h step peer top bytes order makes t told =
      let same = (unambiguous low_codec low-lawful).one_value bytes told.0 makes.0 told.1 makes.1 in
      let there = subst (λ (f : LowFile). In t (low_threads f)) same told.2 in
      shown_own h step top makes.0 t order makes.0.shown makes.2.shown there

  high_own : (h : History) (step : ℕ) (peer : List ℕ) (top : ℕ) (bytes : List ℕ) → top ≤ length h.steps
      → MakesHigh dig h step peer top bytes
      → (t : Thread) → IsInHigh bytes t → IsThreadOf dig h t
  high_own h step peer top bytes order makes t told =
      let f = makes.0 in
      let same = (unambiguous high_codec high-lawful).one_value bytes told.0 f told.1 makes.1 in
      let one = ⊎_elim (λ e. e) (λ no_other. absurd no_other) (subst (λ (x : HighFile). In t (high_threads x)) same
      told.2) in
      let own : IsThreadOf dig h (record { from = f.service; step = f.top - 1; auth = f.opening.prev }) = record {
        from = makes.2.of_peer;
        within = omega (arith, makes.2.at_top, order);
        auth = sym makes.2.opening.binds.prev ∙ ap (λ (i : ℕ). auth dig h (i - 1)) (sym makes.2.at_top);
      } in
      subst (λ (u : Thread). IsThreadOf dig h u) (sym one) own

  -- ---- receipts

  -- the step that received a thread is one of the history
  received_within : (h : History) (step : ℕ) (t : Thread) → thread_of (step_at h step) ≡ Some t → step ≤ length h.steps
  received_within h zero t is = omega arith
  received_within h (suc i) t is = ⊎_elim
      (λ there. omega (arith, there.1))
      (λ none. absurd (let no = ap (λ (o : Option Step). thread_of o) (sym none.1) ∙ is in cc))
      (slice_get_cases h.steps i).1

  -- a receipt that is answered is by a step of the next history
  receipt_own : (h next : History) (m : Message) (time : Option ℕ) (reply : Reply) → IsReplyTo (Receive m time) reply
      → IsStepOf dig h (Receive m time) reply next
      → (t : Thread) → Publishes reply t → IsThreadOf dig next t
  receipt_own h next m time (OfReceipt r) kind is t told =
      let own = own-receipt dig h m time next r is in
      let within = received_within next r.by.step r.thread own.received in
      let by : IsThreadOf dig next (thread_at_step dig next r.by.step) =
      record { from = refl; within = within; auth = refl } in
      subst (λ (u : Thread). IsThreadOf dig next u) (sym (told ∙ own.by)) by
  receipt_own h next m time _ kind is t told = absurd kind

  -- ---- replies

  by_append : (h next : History) (events : List (List ℕ)) (time : Option ℕ) (table : Option Refusal) (reply : Reply)
      (t : Thread)
      → MatchOption table (NextOf dig (Append events time) h next × (reply ≡ OfThread (last_thread dig next)))
      (λ refusal. (next ≡ h) × (reply ≡ Refused refusal))
      → Publishes reply t → IsThreadOf dig next t
  by_append h next events time None reply t done told =
      let is : t ≡ last_thread dig next = subst (λ (r : Reply). Publishes r t) done.1 told in
      subst (λ (u : Thread). IsThreadOf dig next u) (sym is) (last_own next)
  by_append h next events time (Some refusal) reply t done told =
      absurd (subst (λ (r : Reply). Publishes r t) done.1 told)

  -- a history's file is that of no other one
  pub file_own : (h : History) (bytes : List ℕ) (t : Thread) → Spells history_layout bytes h → IsInFile dig bytes t
      → IsThreadOf dig h t
  file_own h bytes t spelled told = subst (λ (x : History). IsThreadOf dig x t)
      ((unambiguous history_codec history-lawful).one_value bytes told.0 h told.1 spelled) told.2

  message_own : (h : History) (since : ℕ) (bytes : List ℕ) → Makes dig h (ask.ThreadOut since) bytes → (t : Thread)
      → IsInAnswer dig (ask.ThreadOut since) bytes t → IsThreadOf dig h t
  unfolding Makes
  message_own h since bytes makes t told =
      let same = (unambiguous message_codec message-lawful).one_value bytes told.0 makes.0 told.1 makes.1 in
      let is : t ≡ thread_at_step dig h (length h.steps) = told.2 ∙ ap (λ (m : Message). m.thread) same
      ∙ makes.2.thread in
      subst (λ (u : Thread). IsThreadOf dig h u) (sym is) (record { from = refl; within = omega arith; auth = refl })

  -- the threads that stand in an answer
  answer_own : (h : History) → IsSound h → (q : Question) → history_refusal h q ≡ None → (bytes : List ℕ)
      → Makes dig h q bytes → (t : Thread) → IsInAnswer dig q bytes t → IsThreadOf dig h t
  unfolding question_refusal pages_refusal Makes
  answer_own h sound (ask.Event step index top) none bytes makes =
      part_own h step _ bytes (Exists makes.0) makes.0.at makes.2.at (order_within _ _ _ (none_first _ _ none))
      (from_existence bytes makes.0 makes.1) refl
  answer_own h sound (ask.Thread step key top) none bytes makes =
      part_own h step _ bytes (Archived makes.0) makes.0.at makes.2.at (order_within _ _ _ (none_first _ _ none))
      makes.1 refl
  answer_own h sound (ask.Absent step key top) none bytes makes =
      part_own h step _ bytes (Absent makes.0) makes.0.at makes.2.at (order_within _ _ _ (none_first _ _ none)) makes.1
      refl
  answer_own h sound (ask.Link step top) none bytes makes =
      link_own h step _ bytes (link_within _ _ _ (none_first _ _ none)) makes
  answer_own h sound (ask.Low step peer top) none bytes makes =
      low_own h step peer _ bytes (order_within _ _ _ (none_first _ _ none)) makes
  answer_own h sound (ask.High step peer top) none bytes makes =
      high_own h step peer _ bytes (top_within _ _ (none_first _ _ none)) makes
  answer_own h sound (ask.ThreadOut since) none bytes makes = message_own h since bytes makes
  answer_own h sound ask.Export none bytes makes = λ t told.
      let file = reads-back h sound (passes (is_short h) (TooLong (told_size h)) none) in
      file_own h bytes t (subst (λ (bs : List ℕ). Spells history_layout bs h) (sym makes) file.1) told

  by_answer : (h : History) → IsSound h → (q : Question) (o : Option Refusal) → history_refusal h q ≡ o
      → (reply : Reply) (t : Thread)
      → MatchOption o ((bytes : List ℕ) × Makes dig h q bytes × (reply ≡ OfBytes bytes))
      (λ refusal. reply ≡ Refused refusal) → PublishesBy dig (Ask q) reply t → IsThreadOf dig h t
  by_answer h sound q None none reply t made told = answer_own h sound q none made.0 made.1 t
      (subst (λ (r : Reply). PublishesBy dig (Ask q) r t) made.2 told)
  by_answer h sound q (Some refusal) is reply t made told =
      absurd (subst (λ (r : Reply). PublishesBy dig (Ask q) r t) made told)

  -- what a step of the machine publishes is of the history behind it
  pub told_own : (h : History) → IsSound h → (call : Call) (reply : Reply) (next : History) → IsReplyTo call reply
      → IsStepOf dig h call reply next → (t : Thread) → PublishesBy dig call reply t → IsThreadOf dig next t
  told_own h sound (Append events time) reply next kind is t told = by_append h next events time
      (append_table h events time) reply t is told
  told_own h sound (Receive m time) reply next kind is t told = receipt_own h next m time reply kind is t told
  told_own h sound (Ask q) reply next kind is t told =
      subst (λ (n : History). IsThreadOf dig n t) (sym is.0) (by_answer h sound q (history_refusal h q) refl reply t
      is.1 told)
  told_own h sound CountSteps reply next kind is t told = absurd (subst (λ (r : Reply). Publishes r t) is.1 told)
  told_own h sound TellHead reply next kind is t told =
      let one : t ≡ last_thread dig h = subst (λ (r : Reply). Publishes r t) is.1 told in
      subst (λ (n : History). IsThreadOf dig n t) (sym is.0) (subst (λ (u : Thread). IsThreadOf dig h u) (sym one)
      (last_own h))
  told_own h sound TellName reply next kind is t told = absurd (subst (λ (r : Reply). Publishes r t) is.1 told)

  -- ---- the next history

  -- it has the name of the one before
  pub next_name : (call : Call) (h next : History) → NextOf dig call h next → next.name ≡ h.name
  next_name (Append events time) h next is = ap (λ (n : History). n.name) is
  next_name (Receive m time) h next (inl is) = ap (λ (n : History). n.name) is
  next_name (Receive m time) h next (inr is) = ap (λ (n : History). n.name) is.1.1
  next_name (Ask q) h next is = ap (λ (n : History). n.name) is
  next_name CountSteps h next is = ap (λ (n : History). n.name) is
  next_name TellHead h next is = ap (λ (n : History). n.name) is
  next_name TellName h next is = ap (λ (n : History). n.name) is
