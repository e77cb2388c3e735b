-- The message that a history has of its last step: there is one, it climbs, and it is spelled. The receipt of a step
-- likewise.
use Rattle.std.proofs.Common.{◌≡◌, ℕ, ◌<◌, ◌≤◌, List, [], ◌∷◌, length, refl, subst, sym, ap, ◌∙◌, arith}
use Rattle.std.specs.Prelude.{Some}
use Rattle.tw_base.specs.declared.history.thread.Thread.{Thread}
use Rattle.tw_base.specs.history.Auth.{auth}
use Rattle.tw_base.specs.history.History.{History, step_at, thread_of}
use Rattle.tw_base.specs.history.Limits.{IsThread}
use Rattle.tw_base.specs.history.Sound.{IsSound}
use Rattle.tw_base.specs.kinds.Bytes.{AreBytes}
use Rattle.tw_base.specs.format.Codecs.{behind, number_codec, pair, seen}
use Rattle.tw_base.specs.format.Formats.{Spells}
use Rattle.tw_base.specs.history.HistoryCodec.{thread_codec}
use Rattle.tw_base.proofs.lemmas.history.Trees.{received-sound}
use Rattle.tw_base.proofs.lemmas.kinds.DigestBytes.{auth-digest}
use Rattle.tw_skipproof.specs.declared.path.Link.{Link}
use Rattle.tw_skipproof.specs.Codecs.{path_codec}
use Rattle.tw_skipproof.specs.HistoryProofs.{IsPathOf}
use Rattle.tw_skipproof.specs.Paths.{Climbs, hop}
use Rattle.tw_skipproof.proofs.OwnPaths.{path-made, path-of}
use Rattle.tw_skipproof.proofs.PartOf.{path-fits-made}
use Rattle.tw_msg.specs.declared.message.Message.{Message}
use Rattle.tw_msg.specs.declared.receipt.Receipt.{Receipt}
use Rattle.tw_msg.specs.HistoryMessages.{IsMessageOf, IsReceiptOf, thread_at_step}
use Rattle.tw_msg.specs.Messages.{Leads, message_bytes, message_codec, message_layout}
use Rattle.tw_msg.specs.Receipts.{receipt_bytes, receipt_layout}
use Rattle.tw_msg.proofs.MessageCodec.{message-lawful}
use Rattle.tw_msg.proofs.ReceiptCodec.{receipt-fits, receipt-lawful}
use Rattle.tw_msg.proofs.ThreadBytes.{thread-fits}

module _ (dig : List ℕ → List ℕ) (h : History) where
  -- ---- there is one path, and so one message

  path-one : (links other : List Link) (from to : ℕ) → IsPathOf dig h links from to → IsPathOf dig h other from to
      → links ≡ other
  path-one [] [] from to is also = refl
  path-one [] (l ∷ other) from to is also = absurd (omega (arith, is, also.0))
  path-one (k ∷ links) [] from to is also = absurd (omega (arith, is.0, also))
  path-one (k ∷ links) (l ∷ other) from to is also =
      let datum : k.datum ≡ l.datum = is.1 ∙ sym also.1 in
      let others : k.others ≡ l.others = is.2 ∙ sym also.2 in
      let rest = path-one links other (hop from to) to is.3 also.3 in
      (λ i. record { datum = datum i; others = others i } ∷ rest i)

  pub message-there : (since : ℕ) → 0 < length h.steps → since ≤ length h.steps → (m : Message) × IsMessageOf dig h
      since m
  message-there since some order =
      let path = path-made dig h (length h.steps) since order in (
        record { thread = thread_at_step dig h (length h.steps); since = since; link = record { links = path.0 } },
        record { some = some; earlier = order; thread = refl; at_since = refl; link = path.1 },
      )

  pub message-one : (since : ℕ) (m n : Message) → IsMessageOf dig h since m → IsMessageOf dig h since n → m ≡ n
  message-one since m n is also =
      let thread : m.thread ≡ n.thread = is.thread ∙ sym also.thread in
      let lower : m.since ≡ n.since = is.at_since ∙ sym also.at_since in
      let links = path-one m.link.links n.link.links (length h.steps) since is.link also.link in
      (λ i. record { thread = thread i; since = lower i; link = record { links = links i } })

  -- ---- it climbs, and is spelled

  module _ (since : ℕ) (m : Message) (is : IsMessageOf dig h since m) where
    step_is : m.thread.step ≡ length h.steps
    step_is = ap (λ (t : Thread). t.step) is.thread

    pub leads-own : Leads dig (auth dig h since) m
    leads-own =
        let path = path-of dig h m.link.links (length h.steps) since is.earlier is.link in
        let made : Climbs dig m.link.links (length h.steps) since (auth dig h since) (auth dig h (length h.steps)) =
        record { shape = path.0; reaches = path.1 } in
        subst (λ (lower : ℕ). Climbs dig m.link.links m.thread.step lower (auth dig h since) m.thread.auth)
        (sym is.at_since)
        (subst (λ (t : Thread). Climbs dig m.link.links t.step since (auth dig h since) t.auth) (sym is.thread) made)

  module _ (size : (text : List ℕ) → length (dig text) ≡ 32) (are : (text : List ℕ) → AreBytes (dig text))
      (sound : IsSound h) where
    step-thread : (step : ℕ) → 0 < step → step ≤ length h.steps → IsThread (thread_at_step dig h step)
    step-thread step some has =
        let digest = auth-digest dig size are h step in
        let short = sound.length in
        (sound.name, some, omega (arith, has, short), digest.0, digest.1)

    own-fits : (since : ℕ) (m : Message) → IsMessageOf dig h since m → message_codec.Fits m
    unfolding message_codec seen behind pair number_codec
    own-fits since m is = (
      subst thread_codec.Fits (sym is.thread) (thread-fits _ (step-thread (length h.steps) is.some (omega arith))),
      (
        (omega arith, omega (arith, is.at_since, is.earlier, step_is since m is)),
        subst (λ (lower : ℕ). (path_codec m.thread.step lower).Fits m.link.links) (sym is.at_since)
            (subst (λ (t : Thread). (path_codec t.step since).Fits m.link.links) (sym is.thread)
            (path-fits-made dig h size are m.link.links (length h.steps) since is.earlier is.link)),
      ),
    )

    pub message-spelled : (since : ℕ) (m : Message) → IsMessageOf dig h since m → Spells message_layout
        (message_bytes m) m
    message-spelled since m is = message-lawful.spells m (own-fits since m is)

    -- ---- receipts

    pub receipt-spelled : (step : ℕ) (r : Receipt) → IsReceiptOf dig h step r → Spells receipt_layout
        (receipt_bytes r) r
    receipt-spelled step r is =
        let got = received-sound h sound step r.thread is.received in
        receipt-lawful.spells r (receipt-fits r (subst IsThread (sym is.by) (step-thread step got.1 got.2)) got.0)

  pub receipt-there : (step : ℕ) (t : Thread) → thread_of (step_at h step) ≡ Some t → (r : Receipt) × IsReceiptOf dig h
      step r
  receipt-there step t had =
      (record { by = thread_at_step dig h step; thread = t }, record { by = refl; received = had })

  pub receipt-one : (step : ℕ) (r s : Receipt) → IsReceiptOf dig h step r → IsReceiptOf dig h step s → r ≡ s
  receipt-one step r s is also =
      let by : r.by ≡ s.by = is.by ∙ sym also.by in
      let both : Some r.thread ≡ Some s.thread = sym is.received ∙ also.received in
      let thread : r.thread ≡ s.thread = cc in
      (λ i. record { by = by i; thread = thread i })
