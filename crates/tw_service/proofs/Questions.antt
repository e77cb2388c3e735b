-- What is found for a question in pages that keep a history whole is what the history makes of it, and asking is a step
-- of the machine.
use Rattle.std.proofs.Common.{◌≡◌, ◌∙◌, ◌≤◌, ℕ, List, length, Bool, true, false, refl, ap, sym, subst, arith, inl, inr}
use Rattle.std.specs.Prelude.{MatchOption, MatchResult, Option, Some, None, Result, Ok, Err, if◌then◌else◌}
use Rattle.std.proofs.lemmas.Bool.{cases_lt}
use Rattle.tw_base.specs.declared.history.thread.Entry.{Entry}
use Rattle.tw_base.specs.declared.history.thread.Key.{Key}
use Rattle.tw_base.specs.declared.kinds.limits.TheConstants.{LAST_STEP}
use Rattle.tw_base.specs.history.Asking.{entry_with}
use Rattle.tw_base.specs.history.History.{History, events_at}
use Rattle.tw_base.specs.history.HistoryCodec.{history_bytes}
use Rattle.tw_base.specs.history.Sound.{IsSound}
use Rattle.tw_base.specs.history.Tree.{entries, tree}
use Rattle.tw_base.proofs.lemmas.kinds.DigestBytes.{IsDigest}
use Rattle.tw_disk.specs.Found.{Found}
use Rattle.tw_disk.specs.Found.Found.{Is}
use Rattle.tw_disk.specs.Image.{Image}
use Rattle.tw_disk.proofs.FoundLaws.{is_on, same_found}
use Rattle.tw_msg.specs.declared.message.Message.{Message}
use Rattle.tw_msg.specs.HistoryMessages.{IsMessageOf}
use Rattle.tw_msg.specs.Messages.{message_bytes}
use Rattle.tw_msg.proofs.OwnMessages.{message-spelled}
use Rattle.tw_chain.specs.declared.proof.Proof.TheVariants.{Archived, Absent}
use Rattle.tw_chain.specs.Proofs.{proof_bytes as bytes_of_proof}
use Rattle.tw_chain.specs.declared.proof.AbsenceProof.{AbsenceProof}
use Rattle.tw_chain.specs.declared.proof.ThreadProof.{ThreadProof}
use Rattle.tw_chain.specs.declared.proof.Proof.TheVariants.{Linked}
use Rattle.tw_chain.specs.OwnProofs.{IsAbsenceProofOf, IsThreadProofOf}
use Rattle.tw_chain.proofs.Completeness.{Accepts-made, own-accepted}
use Rattle.tw_skipproof.specs.HistoryProofs.{MakesExistence}
use Rattle.tw_history.specs.Refusals.{ReadsHistory}
use Rattle.tw_service.proofs.ShortFiles.{reads-back}
use Rattle.tw_base.specs.declared.history.refusal.Refusal.{Refusal}
use Rattle.tw_base.specs.declared.history.refusal.Refusal.TheVariants.{BadPage, DiskFault, HasThread, NoEvent, NoMemory}
use Rattle.tw_base.specs.declared.history.refusal.Refusal.TheVariants.{NoThread, TooLong}
use Rattle.tw_answers.specs.declared.root.RootRecord.{RootRecord}
use Rattle.tw_answers.specs.Roots.{root_kind}
use Rattle.tw_pages.specs.Records.{written_record}
use Rattle.tw_pages.proofs.Written.{told_list}
use Rattle.tw_disk.specs.Disk.{DiskView}
use Rattle.tw_service.specs.declared.service.Service.{Service}
use Rattle.tw_service.specs.Serves.{Serves, pages_of}
use Rattle.tw_answers.specs.Finds.{IsRefusalFound, link_proof, path_down, written_found}
use Rattle.tw_answers.specs.Limits.{broken_refusal, has_thread, no_thread, or_else, thread_refusal}
use Rattle.tw_answers.specs.Refusals.{IsBadPageRefusal, IsFault}
use Rattle.tw_answers.proofs.TableAnswers.{IsTold, NoFault, Of, has_event, link_no_fault, link_told, no_event_told}
use Rattle.tw_answers.proofs.TableAnswers.{order_no_fault, order_told, thread_no_fault, thread_told, top_no_fault}
use Rattle.tw_answers.proofs.TableAnswers.{top_told}
use Rattle.tw_base.specs.declared.history.question.Question.{Question}
use Rattle.tw_base.specs.declared.history.question.Question.TheVariants as ask
use Rattle.tw_service.specs.Answered.{HasFewFor, IsAcceptedFor}
use Rattle.tw_service.specs.Exporting.{file_or, history_file, is_short, told_size}
use Rattle.tw_service.specs.Finds.{thread_at}
use Rattle.tw_service.specs.Machine.{IsStepOf, Makes, MakesAbsence, MakesLink, MakesThread}
use Rattle.tw_service.specs.Machine.Call.{Ask}
use Rattle.tw_service.specs.Machine.Reply.{OfBytes, Refused}
use Rattle.tw_service.specs.Mapping.{MakesHigh, MakesLow, high_file, low_file}
use Rattle.tw_base.specs.history.Questions.{HasNames, MayAsk}
use Rattle.tw_service.specs.Questions.{AreInOrder, Besides, found_bytes, history_refusal, message_found, message_told}
use Rattle.tw_service.specs.Questions.{pages_refusal, question_refusal, told_as}
use Rattle.tw_service.specs.Stands.{KeepsWhole}
use Rattle.tw_service.specs.Tops.{top_or_last}
use Rattle.tw_service.proofs.ExportAnswers.{export_kept, too_long_told}
use Rattle.tw_service.proofs.KeptAnswers.{beyond, in_range, kept_link, kept_path, no_such}
use Rattle.tw_service.proofs.KeptMaps.{high_kept, low_kept}
use Rattle.tw_service.proofs.MapSizes.{high_few, low_few}
use Rattle.tw_service.proofs.KeptThreads.{absence_few, absence_is, has_thread_told, lacks, made_absence, made_thread}
use Rattle.tw_service.proofs.KeptThreads.{makes, no_bad_is, no_thread_told, one_absence, one_thread, thread_few}
use Rattle.tw_service.proofs.KeptThreads.{thread_is}

-- ---- what pages that keep a history have of a question

-- the answer that is found: bytes that are right, where pages refuse nothing, or the refusal that they tell
pub record IsHeld (found : Found (Result (List ℕ) Refusal)) (Right : List ℕ → Type 0) (refusal : Option Refusal) : Type
    0 where
  pub result : Result (List ℕ) Refusal
  pub is : found ≡ Is result
  pub own : MatchResult result (λ bytes. (refusal ≡ None) × Right bytes) (λ why. refusal ≡ Some why)

module _ (found : Found (Result (List ℕ) Refusal)) (Right : List ℕ → Type 0) (refusal : Option Refusal)
    (held : IsHeld found Right refusal) where
  ok_ok : (x y : List ℕ) → ◌≡◌ {A = Result (List ℕ) Refusal} (Ok x) (Ok y) → x ≡ y
  ok_ok x y e = cc

  err_err : (x y : Refusal) → ◌≡◌ {A = Result (List ℕ) Refusal} (Err x) (Err y) → x ≡ y
  err_err x y e = cc

  ok_err : (x : List ℕ) (y : Refusal) → ◌≡◌ {A = Result (List ℕ) Refusal} (Ok x) (Err y) → ⊥
  ok_err x y e = cc

  pub held_ok : (bytes : List ℕ) → found ≡ Is (Ok bytes) → (refusal ≡ None) × Right bytes
  held_ok bytes is = by held.result held.own (same_found held.result (Ok bytes) (sym held.is ∙ is))
    where
      by : (r : Result (List ℕ) Refusal) → MatchResult r (λ bs. (refusal ≡ None) × Right bs) (λ why. refusal ≡ Some why)
          → r ≡ Ok bytes → (refusal ≡ None) × Right bytes
      by (Ok bs) own same = (own.0, subst Right (ok_ok bs bytes same) own.1)
      by (Err why) own same = absurd (ok_err bytes why (sym same))

  -- a refusal that is none of a fault is found
  told_found : (why : Refusal) → (IsFault why → ⊥) → IsRefusalFound why found → found ≡ Is (Err why)
  told_found (BadPage page) told is = absurd (told tt)
  told_found DiskFault told is = absurd (told tt)
  told_found NoMemory told is = absurd (told tt)
  told_found _ told is = is

  pub held_own : (why : Refusal) → (IsFault why → ⊥) → IsRefusalFound why found → refusal ≡ Some why
  held_own why told is = by held.result held.own
      (same_found held.result (Err why) (sym held.is ∙ told_found why told is))
    where
      by : (r : Result (List ℕ) Refusal) → MatchResult r (λ bs. (refusal ≡ None) × Right bs) (λ w. refusal ≡ Some w)
          → r ≡ Err why → refusal ≡ Some why
      by (Ok bs) own same = absurd (ok_err bs why same)
      by (Err w) own same = own ∙ ap (λ (x : Refusal). Some x) (err_err w why same)

  pub held_good : (why : Refusal) → IsRefusalFound why found → IsBadPageRefusal why → ⊥
  held_good why is = no_bad_is why found held.result held.is is

-- the same by what pages refuse
pub held_all : (found : Found (Result (List ℕ) Refusal)) (Right : List ℕ → Type 0) (refusal : Option Refusal)
    → IsHeld found Right refusal
    → MatchOption refusal ((bytes : List ℕ) × (found ≡ Is (Ok bytes)) × Right bytes) (λ why. found ≡ Is (Err why))
held_all found Right refusal held = by held.result held.is held.own
  where
    by : (r : Result (List ℕ) Refusal) → found ≡ Is r → MatchResult r (λ bs. (refusal ≡ None) × Right bs)
        (λ w. refusal ≡ Some w)
        → MatchOption refusal ((bytes : List ℕ) × (found ≡ Is (Ok bytes)) × Right bytes) (λ why. found ≡ Is (Err why))
    by (Ok bs) is own = subst (λ (o : Option Refusal). MatchOption o ((bytes : List ℕ) × (found ≡ Is (Ok bytes))
        × Right bytes) (λ why. found ≡ Is (Err why))) (sym own.0) (bs, is, own.1)
    by (Err w) is own = subst (λ (o : Option Refusal). MatchOption o ((bytes : List ℕ) × (found ≡ Is (Ok bytes))
        × Right bytes) (λ why. found ≡ Is (Err why))) (sym own) is

module _ (dig : List ℕ → List ℕ) (size : (text : List ℕ) → IsDigest (dig text)) (ps : Image) (h : History)
    (r : RootRecord) (whole : KeepsWhole dig ps h r) (sound : IsSound h) (name : List ℕ) (named : h.name ≡ name) where
  abbrev last : ℕ
  last = r.head.step

  abbrev ends : last ≡ length h.steps
  ends = whole.steps.step

  abbrev Held : Question → Type 0
  Held q = IsHeld (found_bytes dig ps name r.head q) (Makes dig h q) (pages_refusal h q)

  event_held : (step index : ℕ) (top : Option ℕ) → AreInOrder last (ask.Event step index top)
      → Held (ask.Event step index top)
  unfolding found_bytes pages_refusal Makes
  event_held step index top order =
      elim (cases_lt index (length (events_at h step))) [
        | inl less ↦ (let own = in_range dig size ps h r.head whole.steps sound name named step index
            (top_or_last top last) order.0 order.1 order.2 less in record {
              result = Ok own.bytes;
              is = own.is;
              own = (
                has_event (length (events_at h step)) index less,
                subst (λ n. MakesExistence dig h step index (top_or_last top n) own.bytes) ends own.makes,
              );
            })
        | inr past ↦ record {
          result = Err (NoEvent (length (events_at h step)));
          is = beyond dig size ps h r.head whole.steps sound name named step index (top_or_last top last) order.0
              order.1 order.2 past;
          own = no_such (length (events_at h step)) index past;
        }
      ]

  thread_held : (step : ℕ) (key : Key) (top : Option ℕ) → AreInOrder last (ask.Thread step key top)
      → Held (ask.Thread step key top)
  unfolding found_bytes pages_refusal Makes
  thread_held step key top order = by (entry_with (entries (tree h step)) key) refl
    where
      by : (o : Option Entry) → entry_with (entries (tree h step)) key ≡ o → Held (ask.Thread step key top)
      by None is =
          record {
            result = Err NoThread;
            is = thread_is dig size ps h r whole sound name named step key (top_or_last top last) order.0 order.1
                order.2 None is;
            own = ap no_thread is;
          }
      by (Some e) is =
          let bytes : List ℕ = bytes_of_proof (Archived (made_thread dig size ps h r whole sound name named step key
          (top_or_last top last) order.0 order.1 order.2 e)) in
          record {
            result = Ok bytes;
            is = thread_is dig size ps h r whole sound name named step key (top_or_last top last) order.0 order.1
                order.2 (Some e) is;
            own = (
              ap no_thread is,
              subst (λ n. MakesThread dig h step key (top_or_last top n) bytes) ends
                  (makes dig size ps h r whole sound name named step key (top_or_last top last) order.0 order.1 order.2
                  e is),
            );
          }

  absence_held : (step : ℕ) (key : Key) (top : Option ℕ) → MayAsk (ask.Absent step key top)
      → HasNames (ask.Absent step key top) → AreInOrder last (ask.Absent step key top) → Held (ask.Absent step key top)
  unfolding found_bytes pages_refusal Makes
  absence_held step key top may names order = by (entry_with (entries (tree h step)) key) refl
    where
      by : (o : Option Entry) → entry_with (entries (tree h step)) key ≡ o → Held (ask.Absent step key top)
      by None is =
          let bytes : List ℕ = bytes_of_proof
          (Absent (made_absence dig size ps h r whole sound name named step key (top_or_last top last) order.0 order.1
          order.2)) in
          record {
            result = Ok bytes;
            is = absence_is dig size ps h r whole sound name named step key (top_or_last top last) order.0 order.1
                order.2 None is;
            own = (
              ap has_thread is,
              subst (λ n. MakesAbsence dig h step key (top_or_last top n) bytes) ends (lacks dig size ps h r whole sound
                  name named step key (top_or_last top last) order.0 order.1 order.2 names may is),
            );
          }
      by (Some e) is =
          record {
            result = Err (HasThread e.archived);
            is = absence_is dig size ps h r whole sound name named step key (top_or_last top last) order.0 order.1
                order.2 (Some e) is;
            own = ap has_thread is;
          }

  link_held : (step : ℕ) (top : Option ℕ) → AreInOrder last (ask.Link step top) → Held (ask.Link step top)
  unfolding found_bytes pages_refusal Makes
  link_held step top order =
      let own = kept_link dig size ps h r.head step (top_or_last top last) whole.steps sound order.1 order.0 order.2 in
      record {
        result = Ok own.0;
        is = ap (λ (n : List ℕ). link_proof dig ps n r.head step (top_or_last top last)) (sym named) ∙ own.1;
        own = (refl, subst (λ n. MakesLink dig h step (top_or_last top n) own.0) ends own.2);
      }

  low_held : (step : ℕ) (peer : List ℕ) (top : Option ℕ) → HasNames (ask.Low step peer top)
      → AreInOrder last (ask.Low step peer top) → Held (ask.Low step peer top)
  unfolding found_bytes pages_refusal Makes
  low_held step peer top names order =
      let short : step ≤ LAST_STEP = omega (arith, order.1, order.2, ends, sound.length) in
      let own = low_kept dig size ps h r.head whole.steps whole.trees sound peer names step (top_or_last top last)
      order.0 short (omega (arith, order.0, order.1)) order.2 order.1 in
      record {
        result = Ok own.0;
        is = ap (λ (n : List ℕ). low_file dig ps r.head step peer (top_or_last top last) n) (sym named) ∙ own.1;
        own = (refl, subst (λ n. MakesLow dig h step peer (top_or_last top n) own.0) ends own.2);
      }

  high_held : (step : ℕ) (peer : List ℕ) (top : Option ℕ) → MayAsk (ask.High step peer top)
      → HasNames (ask.High step peer top) → AreInOrder last (ask.High step peer top) → Held (ask.High step peer top)
  unfolding found_bytes pages_refusal Makes
  high_held step peer top may names order =
      let own = high_kept dig size ps h r.head whole.steps whole.trees sound peer names step (top_or_last top last)
      (omega (arith, may.0)) may.1 order.0 order.1 in
      record {
        result = Ok own.0;
        is = ap (λ (n : List ℕ). high_file dig ps r.head step peer (top_or_last top last) n) (sym named) ∙ own.1;
        own = (refl, subst (λ n. MakesHigh dig h step peer (top_or_last top n) own.0) ends own.2);
      }

  -- the message that is found is the history's own
  pub told_held : (since : ℕ) → AreInOrder last (ask.ThreadOut since) → (m : Message)
      × (message_told dig ps name r.head since ≡ Is (Ok m)) × IsMessageOf dig h since m
  unfolding message_told
  told_held since order =
      let own = kept_path dig size ps h r.head since whole.steps order.1 in
      let m : Message = record { thread = thread_at name r.head; since = since; link = own.0 } in
      let mine : IsMessageOf dig h since m = record {
        some = omega (arith, order.0, ends);
        earlier = omega (arith, order.1, ends);
        thread = λ j. record { from = sym named j; step = whole.steps.step j; auth = whole.steps.auth j };
        at_since = refl;
        link = own.2;
      } in
      (m, is_on (path_down dig ps r.head since) (told_as name r.head since) (Ok own.0) own.1, mine)

  same_message : (x y : Message) → ◌≡◌ {A = Result Message Refusal} (Ok x) (Ok y) → x ≡ y
  same_message x y e = cc

  pub message_makes : (since : ℕ) (m : Message) → IsMessageOf dig h since m → Makes dig h (ask.ThreadOut since)
      (message_bytes m)
  unfolding Makes
  message_makes since m mine = (m, message-spelled dig h (λ t. (size t).0) (λ t. (size t).1) sound since m mine, mine)

  pub told_own : (since : ℕ) → AreInOrder last (ask.ThreadOut since) → (m : Message) → message_told dig ps name r.head
      since ≡ Is (Ok m) → IsMessageOf dig h since m
  told_own since order m is =
      let own = told_held since order in
      subst (λ (x : Message). IsMessageOf dig h since x)
      (same_message own.0 m (same_found (Ok own.0) (Ok m) (sym own.1 ∙ is))) own.2

  pub told_good : (since : ℕ) → AreInOrder last (ask.ThreadOut since) → (why : Refusal)
      → IsRefusalFound why (message_told dig ps name r.head since) → IsBadPageRefusal why → ⊥
  told_good since order why is = let own = told_held since order in
      no_bad_is why (message_told dig ps name r.head since) (Ok own.0) own.1 is

  message_held : (since : ℕ) → AreInOrder last (ask.ThreadOut since) → Held (ask.ThreadOut since)
  unfolding found_bytes message_found pages_refusal
  message_held since order =
      let told = told_held since order in
      record {
        result = Ok (message_bytes told.0);
        is = is_on (message_told dig ps name r.head since) (written_found message_bytes) (Ok told.0) told.1;
        own = (refl, message_makes since told.0 told.2);
      }

  file_held : Held ask.Export
  unfolding found_bytes pages_refusal Makes
  file_held = by (is_short h) refl
    where
      found_is : (b : Bool) → is_short h ≡ b → history_file dig ps name r.head ≡ Is
          (file_or (if b then Ok (history_bytes h) else Err (told_size h)))
      found_is b is =
          ap (λ (n : List ℕ). history_file dig ps n r.head) (sym named) ∙ export_kept dig size ps h r whole sound
          ∙ ap (λ (c : Bool). Is (file_or (if c then Ok (history_bytes h) else Err (told_size h)))) is

      by : (b : Bool) → is_short h ≡ b → Held ask.Export
      by true is =
          record {
            result = Ok (history_bytes h);
            is = found_is true is;
            own = (ap (λ (c : Bool). if c then None else Some (TooLong (told_size h))) is, refl);
          }
      by false is =
          record {
            result = Err (TooLong (told_size h));
            is = found_is false is;
            own = ap (λ (c : Bool). if c then None else Some (TooLong (told_size h))) is;
          }

  pub held : (q : Question) → MayAsk q → HasNames q → AreInOrder last q → Held q
  held (ask.Event step index top) may names order = event_held step index top order
  held (ask.Thread step key top) may names order = thread_held step key top order
  held (ask.Absent step key top) may names order = absence_held step key top may names order
  held (ask.Link step top) may names order = link_held step top order
  held (ask.Low step peer top) may names order = low_held step peer top names order
  held (ask.High step peer top) may names order = high_held step peer top may names order
  held (ask.ThreadOut since) may names order = message_held since order
  held ask.Export may names order = file_held

  -- ---- what more holds of an answer

  at_end : (q : Question) → AreInOrder last q → AreInOrder (length h.steps) q
  at_end q order = subst (λ n. AreInOrder n q) ends order

  passes : (b : Bool) (why : Refusal) → (if b then None else Some why) ≡ None → b ≡ true
  passes true why none = refl
  passes false why none = absurd cc

  accepted_at : (q : Question) → AreInOrder (length h.steps) q → pages_refusal h q ≡ None → (bytes : List ℕ)
      → Makes dig h q bytes → IsAcceptedFor dig h q bytes
  unfolding Makes IsAcceptedFor pages_refusal
  accepted_at (ask.Event step index top) order none bytes makes = λ anchors anchor at reached. Accepts-made dig h step
      index (top_or_last top (length h.steps)) bytes anchors anchor order.1 makes at reached
  accepted_at (ask.Thread step key top) order none bytes makes = λ anchors anchor at reached. (
    Archived makes.0,
    makes.1,
    own-accepted dig h step (top_or_last top (length h.steps)) order.1 anchors anchor at reached sound order.2
        (Archived makes.0) makes.2,
  )
  accepted_at (ask.Absent step key top) order none bytes makes = λ anchors anchor at reached. (
    Absent makes.0,
    makes.1,
    own-accepted dig h step (top_or_last top (length h.steps)) order.1 anchors anchor at reached sound order.2
        (Absent makes.0) makes.2,
  )
  accepted_at (ask.Link step top) order none bytes makes = λ anchors anchor at reached. (
    Linked makes.0,
    makes.1,
    own-accepted dig h step (top_or_last top (length h.steps)) order.1 anchors anchor at reached sound order.2
        (Linked makes.0) makes.2,
  )
  accepted_at ask.Export order none bytes makes =
      subst (λ (bs : List ℕ). ReadsHistory bs (Ok h)) (sym makes)
      (reads-back h sound (passes (is_short h) (TooLong (told_size h)) none))
  accepted_at _ order none bytes makes = tt

  pub accepted_for : (q : Question) → AreInOrder last q → pages_refusal h q ≡ None → (bytes : List ℕ)
      → Makes dig h q bytes → IsAcceptedFor dig h q bytes
  accepted_for q order = accepted_at q (at_end q order)

  few_at : (q : Question) → AreInOrder (length h.steps) q → (bytes : List ℕ) → Makes dig h q bytes → HasFewFor h q bytes
  unfolding Makes HasFewFor
  few_at (ask.Thread step key top) order bytes makes = λ p spells.
      let n : ℕ = top_or_last top (length h.steps) in
      thread_few dig size ps h r whole sound name named step key n order.0 order.1 (omega (arith, order.2, ends)) p
      (subst (λ (x : ThreadProof). IsThreadProofOf dig h step n x) (one_thread bytes makes.0 p makes.1 spells) makes.2)
  few_at (ask.Absent step key top) order bytes makes = λ p spells.
      let n : ℕ = top_or_last top (length h.steps) in
      absence_few dig size ps h r whole sound name named step key n order.0 order.1 (omega (arith, order.2, ends)) p
      (subst (λ (x : AbsenceProof). IsAbsenceProofOf dig h step n x) (one_absence bytes makes.0 p makes.1 spells)
      makes.2)
  few_at (ask.Low step peer top) order bytes makes =
      let n : ℕ = top_or_last top (length h.steps) in
      low_few dig ps h r whole step peer n bytes (omega (arith, order.1, order.2)) makes
  few_at (ask.High step peer top) order bytes makes =
      let n : ℕ = top_or_last top (length h.steps) in
      high_few dig ps h r whole step peer n bytes order.1 makes
  few_at _ order bytes makes = tt

  pub few_for : (q : Question) → AreInOrder last q → (bytes : List ℕ) → Makes dig h q bytes → HasFewFor h q bytes
  few_for q order = few_at q (at_end q order)

-- ---- the table

pub question_told : (last : ℕ) (q : Question) → Of IsTold (question_refusal false last q)
unfolding question_refusal
question_told l (ask.Link step top) = link_told l step (top_or_last top l)
question_told l (ask.High step peer top) = top_told l (top_or_last top l)
question_told l (ask.ThreadOut since) = thread_told l since
question_told l ask.Export = tt
question_told l (ask.Event step index top) = order_told l step (top_or_last top l)
question_told l (ask.Thread step key top) = order_told l step (top_or_last top l)
question_told l (ask.Absent step key top) = order_told l step (top_or_last top l)
question_told l (ask.Low step peer top) = order_told l step (top_or_last top l)

broken_no_fault : (b : Bool) → Of NoFault (broken_refusal b)
broken_no_fault true = λ is. is
broken_no_fault false = tt

pub question_no_fault : (b : Bool) (last : ℕ) (q : Question) → Of NoFault (question_refusal b last q)
unfolding question_refusal
question_no_fault b l (ask.Link step top) = link_no_fault b l step (top_or_last top l)
question_no_fault b l (ask.High step peer top) = top_no_fault b l (top_or_last top l)
question_no_fault b l (ask.ThreadOut since) = thread_no_fault b l since
question_no_fault b l ask.Export = broken_no_fault b
question_no_fault b l (ask.Event step index top) = order_no_fault b l step (top_or_last top l)
question_no_fault b l (ask.Thread step key top) = order_no_fault b l step (top_or_last top l)
question_no_fault b l (ask.Absent step key top) = order_no_fault b l step (top_or_last top l)
question_no_fault b l (ask.Low step peer top) = order_no_fault b l step (top_or_last top l)

pub besides_told : (q : Question) (why : Refusal) → Besides q why → IsTold why
besides_told (ask.Event step index top) why is = no_event_told why is
besides_told (ask.Thread step key top) why is = no_thread_told why is
besides_told (ask.Absent step key top) why is = has_thread_told why is
besides_told ask.Export why is = too_long_told why is
besides_told _ why is = absurd is

-- ---- steps of the machine

module _ (dig : List ℕ → List ℕ) (h : History) (q : Question) where
  pub ask_refused : (why : Refusal) → Some why ≡ history_refusal h q → IsStepOf dig h (Ask q) (Refused why) h
  ask_refused why is = (
    refl,
    subst (λ o. MatchOption o ((bytes : List ℕ) × Makes dig h q bytes × (Refused why ≡ OfBytes bytes))
        (λ refusal. Refused why ≡ Refused refusal)) is refl,
  )

  pub ask_made : (bytes : List ℕ) → None ≡ history_refusal h q → Makes dig h q bytes → IsStepOf dig h (Ask q)
      (OfBytes bytes) h
  ask_made bytes is makes = (
    refl,
    subst (λ o. MatchOption o ((bs : List ℕ) × Makes dig h q bs × (OfBytes bytes ≡ OfBytes bs))
        (λ refusal. OfBytes bytes ≡ Refused refusal)) is (bytes, makes, refl),
  )

-- the table of a message
none_after : (o : Option Refusal) → o ≡ or_else o None
none_after None = refl
none_after (Some why) = refl

pub thread_whole : (h : History) (since : ℕ) (o : Option Refusal) → o ≡ thread_refusal false (length h.steps) since
    → o ≡ history_refusal h (ask.ThreadOut since)
unfolding question_refusal pages_refusal
thread_whole h since o is = is ∙ none_after (thread_refusal false (length h.steps) since)

-- ---- of a value that serves the history

module _ {D H : Type 0} {g : _} {k : _} (dig : List ℕ → List ℕ) (view : D → DiskView)
    (size : (text : List ℕ) → IsDigest (dig text)) (s : Service D H g k) (h : History) (served : Serves dig view s h) where
  pages_told : pages_of view s ≡ Some served.pages
  pages_told = told_list view root_kind s.recorded.kept.store (written_record s.recorded.kept.root served.pages)
      served.rests s.recorded.clean

  module _ (q : Question) (may : MayAsk q) (names : HasNames q) (order : AreInOrder s.recorded.kept.root.head.step q) where
    abbrev finds : Image → Found (Result (List ℕ) Refusal)
    finds ps = found_bytes dig ps s.recorded.kept.root.name s.recorded.kept.root.head q

    is_held : IsHeld (finds served.pages) (Makes dig h q) (pages_refusal h q)
    is_held = held dig size served.pages h s.recorded.kept.root served.keeps.whole served.keeps.sound
        s.recorded.kept.root.name served.keeps.named q may names order

    -- bytes that are found are right, and the table of the history's pages lets them through
    pub served_ok : (bytes : List ℕ) → ((ps : Image) → pages_of view s ≡ Some ps → finds ps ≡ Is (Ok bytes))
        → (pages_refusal h q ≡ None) × Makes dig h q bytes × IsAcceptedFor dig h q bytes × HasFewFor h q bytes
    served_ok bytes found =
        let own = held_ok (finds served.pages) (Makes dig h q) (pages_refusal h q) is_held bytes
        (found served.pages pages_told) in (
          own.0,
          own.1,
          accepted_for dig size served.pages h s.recorded.kept.root served.keeps.whole served.keeps.sound
              s.recorded.kept.root.name served.keeps.named q order own.0 bytes own.1,
          few_for dig size served.pages h s.recorded.kept.root served.keeps.whole served.keeps.sound
              s.recorded.kept.root.name served.keeps.named q order bytes own.1,
        )

    module _ (why : Refusal) (found : (ps : Image) → pages_of view s ≡ Some ps → IsRefusalFound why (finds ps)) where
      pub served_own : (IsFault why → ⊥) → pages_refusal h q ≡ Some why
      served_own told = held_own (finds served.pages) (Makes dig h q) (pages_refusal h q) is_held why told
          (found served.pages pages_told)

      pub served_good : IsBadPageRefusal why → ⊥
      served_good = held_good (finds served.pages) (Makes dig h q) (pages_refusal h q) is_held why
          (found served.pages pages_told)

  module _ (since : ℕ) (order : AreInOrder s.recorded.kept.root.head.step (ask.ThreadOut since)) where
    abbrev tells : Image → Found (Result Message Refusal)
    tells ps = message_told dig ps s.recorded.kept.root.name s.recorded.kept.root.head since

    -- a message that is found is the history's own
    pub message_own : (m : Message) → ((ps : Image) → pages_of view s ≡ Some ps → tells ps ≡ Is (Ok m))
        → IsMessageOf dig h since m
    message_own m found = told_own dig size served.pages h s.recorded.kept.root served.keeps.whole served.keeps.sound
        s.recorded.kept.root.name served.keeps.named since order m (found served.pages pages_told)

    pub message_good : (why : Refusal)
        → ((ps : Image) → pages_of view s ≡ Some ps → IsRefusalFound why (tells ps)) → IsBadPageRefusal why → ⊥
    message_good why found = told_good dig size served.pages h s.recorded.kept.root served.keeps.whole
        served.keeps.sound s.recorded.kept.root.name served.keeps.named since order why (found served.pages pages_told)
