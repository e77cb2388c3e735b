-- What a service that keeps the rules answers to peers that do.
use Rattle.std.proofs.Common.{◌≡◌, ◌≢◌, ℕ, suc, List, length, refl, ap, sym, ◌∙◌, subst, arith}
use Rattle.std.specs.Prelude.{false, Option, Some, None}
use Rattle.tw_base.specs.declared.history.content.Content.TheVariants.{Events, Received}
use Rattle.tw_base.specs.declared.history.thread.Entry.{Entry}
use Rattle.tw_base.specs.declared.history.thread.Thread.{Thread}
use Rattle.tw_base.specs.history.History.{History, Step, step_at, thread_of}
use Rattle.tw_base.specs.history.Limits.{IsEntryInRange}
use Rattle.tw_base.specs.history.Sound.{IsSound}
use Rattle.tw_base.specs.history.Tree.{entries, tree}
use Rattle.tw_base.specs.kinds.Lists.{Each}
use Rattle.tw_base.proofs.lemmas.history.Plus.{step_at-new}
use Rattle.tw_base.proofs.lemmas.history.Trees.{IsArchived, entry_at-parts, received-sound, tree-archived}
use Rattle.tw_base.proofs.lemmas.kinds.ListLemmas.{Each-map}
use Rattle.tw_msg.specs.declared.message.Message.{Message}
use Rattle.tw_msg.specs.declared.receipt.Receipt.{Receipt}
use Rattle.tw_msg.specs.HistoryMessages.{IsReceiptOf}
use Rattle.tw_archive.specs.declared.judgement.Judgement.{Judgement}
use Rattle.tw_archive.specs.declared.judgement.Judgement.TheVariants as judgement
use Rattle.tw_archive.specs.Judging.{judged_message}
use Rattle.tw_base.specs.declared.history.refusal.Refusal.{Refusal}
use Rattle.tw_answers.specs.Limits.{archive_refusal, own_refusal}
use Rattle.tw_service.specs.declared.receiving.Reception.{Reception}
use Rattle.tw_service.specs.declared.receiving.Reception.TheVariants.{Refuse, Known, Archive}
use Rattle.tw_service.specs.Machine.{RepliesTo, receipt_by, received_as}
use Rattle.tw_service.specs.Machine.Reply.{OfReceipt, Refused}
use Rattle.tw_service.specs.Receiving.{reception, refuse_or}
use Rattle.tw_service.specs.Stands.{greatest_time}
use Rattle.tw_service.proofs.Receptions.{answer-knows, known_step}
use Rattle.tw_service.proofs.TakenIn.{own_none}

-- the entries of a sound history's archive are within their limits
in_range : (h : History) → IsSound h → (i : ℕ) (e : Entry) → IsArchived h i e → IsEntryInRange e
in_range h sound i e a =
    let parts = entry_at-parts h a.0 e a.2 in
    let got = received-sound h sound a.0 e.thread parts.1 in
    let small = sound.length in
    ((got.0.1, got.0.2), (omega (arith, got.1, parts.0), omega (arith, got.2, parts.0, small)))

pub archive-ranges : (h : History) → IsSound h → (i : ℕ) → Each IsEntryInRange (entries (tree h i))
archive-ranges h sound i = Each-map (IsArchived h i) IsEntryInRange (entries (tree h i)) (λ e a. in_range h sound i e a)
    (tree-archived h i)

module _ (dig : List ℕ → List ℕ) (h : History) (m : Message) (time : Option ℕ) where
  abbrev becomes : Judgement → Reception
  becomes j = reception (length h.steps) (greatest_time h) time j

  abbrev judgement_of : Judgement
  judgement_of = judged_message dig (entries (tree h (length h.steps))) m

  -- what becomes of a message of another service is told by its judgement
  pub of_other : (j : Judgement) → m.thread.from ≢ h.name → judgement_of ≡ j → received_as dig h m time ≡ becomes j
  of_other j other is = ap (λ (o : Option Refusal). refuse_or o (becomes judgement_of))
      (own_none h.name m.thread.from other) ∙ ap becomes is

  pub accept-archives : m.thread.from ≢ h.name → judgement_of ≡ judgement.Accept → archive_refusal (length h.steps)
      (greatest_time h) time ≡ None → received_as dig h m time ≡ Archive
  unfolding reception
  accept-archives other is room = of_other judgement.Accept other is ∙ ap (λ (o : Option Refusal). refuse_or o Archive)
      room

  pub known-known : (archived : ℕ) → m.thread.from ≢ h.name → judgement_of ≡ judgement.Known archived
      → received_as dig h m time ≡ Known archived
  unfolding reception
  known-known archived other is = of_other (judgement.Known archived) other is

  -- a message that is known is so by its judgement
  not_refused : (o : Option Refusal) (x : Reception) (archived : ℕ) → refuse_or o x ≡ Known archived
      → x ≡ Known archived
  not_refused None x archived is = is
  not_refused (Some r) x archived is = cc

  is_known : (archived : ℕ) → received_as dig h m time ≡ Known archived → judgement_of ≡ judgement.Known archived
  is_known archived is =
      answer-knows (length h.steps) (greatest_time h) time judgement_of archived
      (not_refused (own_refusal false h.name m.thread.from) (becomes judgement_of) archived is)

  same_receipt : (r s : Receipt) → OfReceipt r ≡ OfReceipt s → r ≡ s
  same_receipt r s is = cc

  -- an answered receipt is one of the history then
  module _ (next : History) (r : Receipt) where
    of_next : (step : ℕ) → r ≡ receipt_by dig next step m.thread → thread_of (step_at next step) ≡ Some m.thread
        → IsReceiptOf dig next r.by.step r
    of_next step is got =
        subst (λ (x : Receipt). IsReceiptOf dig next x.by.step x) (sym is) (record { by = refl; received = got })

    received_thread : (s : Step) (t : Thread) → s.content ≡ Received t → thread_of (Some s) ≡ Some t
    received_thread s t is = by s.content is
      where
        by : (c : _) → c ≡ Received t
            → thread_of (Some (record { content = c; time = s.time; fresh = s.fresh; root = s.root })) ≡ Some t
        by (Events events) is = cc
        by (Received u) is = let same : u ≡ t = cc in ap (λ (x : Thread). Some x) same

    of_reply : (x : Reception) → received_as dig h m time ≡ x → RepliesTo dig h m time (OfReceipt r) next x
        → IsReceiptOf dig next r.by.step r
    of_reply (Refuse refusal) is reply = (let bad : OfReceipt r ≡ Refused refusal = reply.1 in cc)
    of_reply (Known archived) is reply =
        let own = known_step dig h m archived (is_known archived is) in
        of_next archived (same_receipt r _ reply.1 ∙ ap (λ (g : History). receipt_by dig g archived m.thread)
        (sym reply.0)) (ap (λ (g : History). thread_of (step_at g archived)) reply.0 ∙ own.2)
    of_reply Archive is reply =
        let made = reply.0 in
        of_next (suc (length h.steps)) (same_receipt r _ reply.2)
        (ap (λ (g : History). thread_of (step_at g (suc (length h.steps)))) made.1 ∙ ap thread_of (step_at-new h made.0)
        ∙ received_thread made.0 m.thread made.2)

    pub own-receipt : RepliesTo dig h m time (OfReceipt r) next (received_as dig h m time) → IsReceiptOf dig next
        r.by.step r
    own-receipt reply = of_reply (received_as dig h m time) refl reply
