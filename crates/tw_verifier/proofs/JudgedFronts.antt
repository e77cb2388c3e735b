-- The words of proofs, their fronts and their places are the same where each word has its judgement as its value.
use Rattle.std.proofs.Common.{◌≡◌, ℕ, List, [], ◌∷◌, ◌++◌, take, refl, sym, ◌∙◌, subst}
use Rattle.std.proofs.lemmas.List.{append-nil}
use Rattle.tw_base.specs.declared.history.thread.Thread.{Thread}
use Rattle.tw_base.specs.format.Formats.{Format, IsFront, IsPlace, Spells, SpellsNothing, then_by}
use Rattle.tw_base.specs.format.Formats.Format.{Done}
use Rattle.tw_pieces.specs.Resuming.{StaysFront}
use Rattle.tw_base.proofs.lemmas.format.FormatLaws.{goes_on-then, spells_then, then_spells}
use Rattle.tw_pieces.proofs.PieceLaws.{starts}
use Rattle.tw_verifier.specs.declared.judgement.Judgement.{Judgement}
use Rattle.tw_chain.specs.declared.proof.Proof.{Proof}
use Rattle.tw_verifier.specs.Judgements.{judged_layout, judgement_of}
use Rattle.tw_chain.specs.Proofs.{proof_layout}
use Rattle.tw_chain.proofs.ProofCodec.{proof-lawful}

-- ---- any format, and its words with a value of each one's value

module _ {X Y : Type 0} (f : Format X) (view : X → Y) where
  abbrev viewed : Format Y
  viewed = then_by f (λ x. Done (view x))

  ended : (word : List ℕ) (x : X) (y : Y) → Spells (Done (view x)) word y → (word ≡ []) × (view x ≡ y)
  ended [] x y is = (refl, is)
  ended (b ∷ bs) x y is = absurd is

  viewed-word : (word : List ℕ) (y : Y) → Spells viewed word y → (x : X) × Spells f word x × (view x ≡ y)
  viewed-word word y spelled =
      let parts = then_spells f (λ x. Done (view x)) word y spelled in
      let last = ended parts.1 parts.2 y parts.5 in
      let P : List ℕ → Type 0 = λ w. Spells f w parts.2 in
      let Q : List ℕ → Type 0 = λ w. word ≡ parts.0 ++ w in
      (parts.2, subst P (sym (subst Q last.0 parts.3 ∙ append-nil parts.0)) parts.4, last.1)

  word-viewed : (word : List ℕ) (x : X) → Spells f word x → Spells viewed word (view x)
  word-viewed word x spelled =
      let P : List ℕ → Type 0 = λ w. Spells viewed w (view x) in
      subst P (append-nil word) (spells_then f (λ z. Done (view z)) word [] x (view x) spelled refl)

  viewed-front : (bytes : List ℕ) → IsFront viewed bytes → IsFront f bytes
  viewed-front bytes front = let word = viewed-word (bytes ++ front.0) front.1 front.2 in (front.0, word.0, word.1)

  front-viewed : (bytes : List ℕ) → IsFront f bytes → IsFront viewed bytes
  front-viewed bytes front = (front.0, view front.1, word-viewed (bytes ++ front.0) front.1 front.2)

  viewed-nothing : (bytes : List ℕ) → SpellsNothing viewed bytes → SpellsNothing f bytes
  viewed-nothing bytes nothing x spelled = nothing (view x) (word-viewed bytes x spelled)

  viewed-place : (bytes : List ℕ) (place : ℕ) → IsPlace viewed bytes place → IsPlace f bytes place
  viewed-place bytes place is = record {
    within = is.within;
    good = viewed-front (take place bytes) is.good;
    longest = λ n within front. is.longest n within (front-viewed (take n bytes) front);
  }

-- ---- the words of proofs

module _ (dig : List ℕ → List ℕ) (anchors : List Thread) (bytes : List ℕ) where
  -- a word with its judgement is that of a proof
  pub judged-word : (j : Judgement) → Spells (judged_layout dig anchors) bytes j → (p : Proof) × Spells proof_layout
      bytes p × (judgement_of dig anchors p ≡ j)
  unfolding judged_layout
  judged-word j spelled = viewed-word proof_layout (judgement_of dig anchors) bytes j spelled

  pub word-judged : (p : Proof) → Spells proof_layout bytes p → Spells (judged_layout dig anchors) bytes
      (judgement_of dig anchors p)
  unfolding judged_layout
  word-judged p spelled = word-viewed proof_layout (judgement_of dig anchors) bytes p spelled

  pub judged-front : IsFront (judged_layout dig anchors) bytes → IsFront proof_layout bytes
  unfolding judged_layout
  judged-front front = viewed-front proof_layout (judgement_of dig anchors) bytes front

  pub front-judged : IsFront proof_layout bytes → IsFront (judged_layout dig anchors) bytes
  unfolding judged_layout
  front-judged front = front-viewed proof_layout (judgement_of dig anchors) bytes front

  pub judged-nothing : SpellsNothing (judged_layout dig anchors) bytes → SpellsNothing proof_layout bytes
  unfolding judged_layout
  judged-nothing nothing = viewed-nothing proof_layout (judgement_of dig anchors) bytes nothing

  pub judged-place : (place : ℕ) → IsPlace (judged_layout dig anchors) bytes place → IsPlace proof_layout bytes place
  unfolding judged_layout
  judged-place place is = viewed-place proof_layout (judgement_of dig anchors) bytes place is

-- no bytes are a front of a word
pub judged-starts : (dig : List ℕ → List ℕ) (anchors : List Thread) → StaysFront (judged_layout dig anchors) [] 0
unfolding judged_layout
judged-starts dig anchors = starts (judged_layout dig anchors)
    (goes_on-then proof_layout (λ p. Done (judgement_of dig anchors p)) proof-lawful.goes (λ p. tt))
