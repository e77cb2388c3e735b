-- The parts of a proof, as the services make them.
use Rattle.std.proofs.Common.{◌≡◌, ℕ, List, subst}
use Rattle.std.specs.Prelude.{Option, Some, None, MatchOption}
use Rattle.tw_base.specs.declared.history.refusal.Refusal.{Refusal}
use Rattle.tw_base.specs.declared.history.question.Question.{Question}
use Rattle.tw_base.specs.declared.history.question.Question.TheVariants as ask
use Rattle.tw_base.specs.declared.history.thread.Key.{Key}
use Rattle.tw_base.specs.format.Codecs.{IsUnambiguous}
use Rattle.tw_base.specs.format.Formats.{Spells}
use Rattle.tw_base.specs.history.Entries.{key_of}
use Rattle.tw_base.specs.history.History.{History}
use Rattle.tw_chain.specs.OwnProofs.{IsLinkProofOf, IsThreadProofOf}
use Rattle.tw_chain.specs.Proofs.{proof_codec, proof_layout}
use Rattle.tw_chain.specs.declared.proof.LinkProof.{LinkProof}
use Rattle.tw_chain.specs.declared.proof.Proof.{Proof}
use Rattle.tw_chain.specs.declared.proof.Proof.TheVariants.{Archived, Exists, Linked}
use Rattle.tw_chain.specs.declared.proof.ThreadProof.{ThreadProof}
use Rattle.tw_chain.proofs.ProofCodec.{from_existence}
use Rattle.tw_service.specs.Machine.{Makes, Reply}
use Rattle.tw_service.specs.Machine.Reply.{OfBytes, Refused}
use Rattle.tw_service.specs.Questions.{history_refusal}
use Rattle.tw_skipproof.specs.HistoryProofs.{IsExistenceOf}
use Rattle.tw_skipproof.specs.declared.existence.ExistenceProof.{ExistenceProof}
use Rattle.tw_generate.specs.Summing.{IsPartAsked, IsQuestionAnswered}
use Rattle.tw_generate.specs.Unrefused.{AsksProof}

module _ (dig : List ℕ → List ℕ) where
  -- the bytes that answer a question are what the history makes of it
  pub made-of : (h : History) (q : Question) (bytes : List ℕ) → IsQuestionAnswered dig h q bytes → Makes dig h q bytes
  made-of h q bytes is = by (history_refusal h q) is.1
    where
      by : (o : Option Refusal) → MatchOption o ((made : List ℕ) × Makes dig h q made
          × (◌≡◌ {A = Reply} (OfBytes bytes) (OfBytes made))) (λ refusal. ◌≡◌ {A = Reply} (OfBytes bytes)
          (Refused refusal))
          → Makes dig h q bytes
      by None is = let same : is.0 ≡ bytes = cc (is.2) in subst (Makes dig h q) same is.1
      by (Some refusal) is = cc

  -- where a proof is asked for, they spell one
  pub proof-made : (h : History) (q : Question) (bytes : List ℕ) → AsksProof q → IsQuestionAnswered dig h q bytes
      → (p : Proof) × Spells proof_layout bytes p
  unfolding Makes
  proof-made h (ask.Event step index top) bytes asks is =
      let made = made-of h (ask.Event step index top) bytes is in
      (Exists made.0, from_existence bytes made.0 made.1)
  proof-made h (ask.Thread step key top) bytes asks is =
      let made = made-of h (ask.Thread step key top) bytes is in
      (Archived made.0, made.1)
  proof-made h (ask.Link step top) bytes asks is =
      let made = made-of h (ask.Link step top) bytes is in
      (Linked made.0, made.1)
  proof-made h _ bytes asks is = absurd asks

  -- ---- one part

  module _ (once : IsUnambiguous proof_codec) (h : History) (step top : ℕ) (part : Proof) where
    pub event-part : (index : ℕ) → IsPartAsked dig h (ask.Event step index (Some top)) part → (p : ExistenceProof)
        × (part ≡ Exists p) × IsExistenceOf dig h step index top p
    unfolding Makes
    event-part index is =
        let made = made-of h (ask.Event step index (Some top)) is.0 is.1 in
        (made.0, once.one_value is.0 part (Exists made.0) is.2 (from_existence is.0 made.0 made.1), made.2)

    pub thread-part : (key : Key) → IsPartAsked dig h (ask.Thread step key (Some top)) part → (p : ThreadProof)
        × (part ≡ Archived p) × IsThreadProofOf dig h step top p × (key_of p.entry ≡ key)
    unfolding Makes
    thread-part key is =
        let made = made-of h (ask.Thread step key (Some top)) is.0 is.1 in
        (made.0, once.one_value is.0 part (Archived made.0) is.2 made.1, made.2, made.3)

    pub link-part : IsPartAsked dig h (ask.Link step (Some top)) part → (p : LinkProof) × (part ≡ Linked p)
        × IsLinkProofOf dig h step top p
    unfolding Makes
    link-part is =
        let made = made-of h (ask.Link step (Some top)) is.0 is.1 in
        (made.0, once.one_value is.0 part (Linked made.0) is.2 made.1, made.2)
