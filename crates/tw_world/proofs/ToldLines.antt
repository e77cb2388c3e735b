-- What is told of a line of a world, by what its service gives, its message is, or its files are.
use Rattle.std.proofs.Common.{◌≡◌, ◌⊎◌, ℕ, ◌+◌, ◌≤◌, List, length, refl, ap, sym, ◌∙◌, subst, inl, inr, Bool, true}
use Rattle.std.proofs.Common.{false, arith}
use Rattle.std.specs.Prelude.{Ok, Option, Some, None, Err, Result, MatchOption, ◌&&◌, slice_get, nat_le, if◌then◌else◌}
use Rattle.std.proofs.Common.{add-one}
use Rattle.std.proofs.lemmas.Bool.{le-leb, leb-true}
use Rattle.sha2.specs.Sha256.{sha256}
use Rattle.tw_base.proofs.lemmas.format.CodecLaws.{unambiguous}
use Rattle.tw_base.specs.declared.history.question.Question.TheVariants.{Link}
use Rattle.tw_base.specs.declared.history.thread.Thread.{Thread}
use Rattle.tw_base.specs.declared.kinds.failure.ReadFault.{ReadFault}
use Rattle.tw_base.specs.declared.kinds.failure.ReadFault.TheVariants.{Malformed, NoMemory}
use Rattle.tw_base.specs.format.Formats.{ReadsAs, Spells}
use Rattle.tw_base.specs.history.Auth.{auth}
use Rattle.tw_base.specs.history.History.{History}
use Rattle.tw_answers.specs.Limits.{link_refusal, or_else}
use Rattle.tw_base.specs.declared.history.refusal.Refusal.{Refusal}
use Rattle.tw_base.specs.declared.history.refusal.Refusal.TheVariants.{NoStep}
use Rattle.tw_chain.specs.Proofs.{proof_codec, proof_layout}
use Rattle.tw_chain.specs.Reasons.{IsVerdict}
use Rattle.tw_chain.specs.declared.proof.LinkProof.{LinkProof}
use Rattle.tw_chain.specs.declared.proof.Proof.{Proof}
use Rattle.tw_chain.specs.declared.proof.Proof.TheVariants.{Linked}
use Rattle.tw_chain.specs.declared.verdict.Verdict.{Verdict}
use Rattle.tw_chain.proofs.ProofCodec.{proof-lawful}
use Rattle.tw_join.specs.declared.joining.JoinFault.TheVariants.{Gap}
use Rattle.tw_script.specs.declared.line.Line.TheVariants.{Deliver, Lose, Join, Anchor, Verify}
use Rattle.tw_service.specs.Machine.{IsStepOf, Makes, MakesLink, Reply}
use Rattle.tw_service.specs.Machine.Call.{Ask}
use Rattle.tw_service.specs.Machine.Reply.{OfBytes, Refused}
use Rattle.tw_service.specs.Questions.{history_refusal, pages_refusal, question_refusal}
use Rattle.tw_world.specs.Hosts.{GivesReply, claims_none}
use Rattle.tw_world.specs.Players.{FilesJoinTo, thread_of_link}
use Rattle.tw_world.specs.Runs.{HasStep, IsDelivered, IsFiled, IsLineTold, IsMember, IsNotFiled, loss_answer}
use Rattle.tw_world.specs.Runs.{verdict_answer}
use Rattle.tw_world.specs.Worlds.{Mail, Member, World, after_line, numbered, with_anchor, without_message}
use Rattle.tw_world.specs.declared.told.Answer.{Answer}
use Rattle.tw_world.specs.declared.told.Answer.TheVariants as answer
use Rattle.tw_world.specs.declared.told.Told.{Told}
use Rattle.tw_world.specs.declared.told.Told.TheVariants.{Plain}
use Rattle.tw_world.proofs.Members.{named}

-- what has a number stands at the place before it
pub numbered-at : {X : Type 0} (xs : List X) (index number : ℕ) → index + 1 ≡ number → numbered xs number ≡ slice_get xs
    index
numbered-at xs index number is = ap (numbered xs) (sym is ∙ add-one index)

same-why : (given : Result (List ℕ) Answer) (one other : Answer) → given ≡ Err one → given ≡ Err other → one ≡ other
same-why given one other is also = cc

pub not-both-given : (given : Result (List ℕ) Answer) (bytes : List ℕ) (why : Answer) → given ≡ Ok bytes → given ≡ Err why
    → ⊥
not-both-given given bytes why is also = cc

module _ (w : World) where
  -- ---- messages

  pub told-delivered : (name : List ℕ) (number index : ℕ) (m : Member) (mail : Mail) (told : Told) (next : World)
      → IsMember w name m → index + 1 ≡ number
      → slice_get w.messages index ≡ Some mail → IsDelivered sha256 claims_none w mail m told next
      → IsLineTold sha256 claims_none w (Deliver number name) told next
  told-delivered name number index m mail told next is at there delivered =
      let found : numbered w.messages number ≡ Some mail = numbered-at w.messages index number at ∙ there in (
        m,
        is,
        subst (λ (o : Option Mail). MatchOption o ⊥ (λ mail. IsDelivered sha256 claims_none w mail m told next))
            (sym found) delivered,
      )

  pub told-lost : (number index : ℕ) (mail : Mail) (lost : Answer) → index + 1 ≡ number → slice_get w.messages index
      ≡ Some mail → loss_answer mail ≡ Some lost
      → IsLineTold sha256 claims_none w (Lose number) (Plain lost) (after_line (without_message w number))
  told-lost number index mail lost at there is = (
    mail,
    numbered-at w.messages index number at ∙ there,
    subst (λ (o : Option Answer). MatchOption o ⊥ (λ l. Plain lost ≡ Plain l)) (sym is) refl,
    refl,
  )

  -- ---- files

  pub told-verified : (number index : ℕ) (bytes : List ℕ) (verdict : Verdict) → index + 1 ≡ number
      → slice_get w.files index ≡ Some (Some bytes)
      → IsVerdict sha256 w.anchors false bytes verdict → IsLineTold sha256 claims_none w (Verify number)
      (Plain (verdict_answer verdict)) (after_line w)
  told-verified number index bytes verdict at there is = (
    refl,
    subst (λ (o : Option (Option (List ℕ))). MatchOption o ⊥
        (λ file. MatchOption file (Plain (verdict_answer verdict) ≡ Plain answer.Nothing)
        (λ bytes. (v : Verdict) × IsVerdict sha256 w.anchors false bytes v
        × (Plain (verdict_answer verdict) ≡ Plain (verdict_answer v)))))
        (sym (numbered-at w.files index number at ∙ there)) (verdict, is, refl),
  )

  -- the files' proofs join to the next file
  pub told-filed : (numbers bytes : List ℕ) (told : Told) (next : World) → 2 ≤ length numbers
      → FilesJoinTo w numbers (Ok bytes) → IsFiled w bytes told next
      → IsLineTold sha256 claims_none w (Join numbers) told next
  told-filed numbers bytes told next two join filed = (
    two,
    (
      join.0,
      join.1,
      elim join.2 [
        | inl none ↦ absurd (not-both-given (Ok bytes) bytes answer.Nothing refl none.1)
        | inr made ↦ inr (
          made.0,
          made.1,
          (Ok made.2.0, made.2.1, subst (λ b. IsFiled w b told next) made.2.2 filed),
        )
      ],
    ),
  )

  -- or the next file isn't made
  pub told-not_filed : (numbers : List ℕ) (why : Answer) (told : Told) (next : World) → 2 ≤ length numbers
      → FilesJoinTo w numbers (Err why) → IsNotFiled w why told next
      → IsLineTold sha256 claims_none w (Join numbers) told next
  told-not_filed numbers why told next two join not_filed = (
    two,
    (
      join.0,
      join.1,
      elim join.2 [
        | inl none ↦ inl (
          none.0,
          subst (λ a. IsNotFiled w a told next) (same-why (Err why) why answer.Nothing refl none.1) not_filed,
        )
        | inr made ↦ inr (
          made.0,
          made.1,
          (Err (Gap made.2.0), made.2.1, subst (λ a. IsNotFiled w a told next) made.2.2 not_filed),
        )
      ],
    ),
  )

-- ---- anchors

-- bytes that spell the proof of a link are read as it, but for want of memory
pub read-linked : (bytes : List ℕ) (link : LinkProof) (read : Result Proof ReadFault)
    → Spells proof_layout bytes (Linked link) → ReadsAs (λ p. p) proof_layout bytes read
    → (read ≡ Ok (Linked link)) ⊎ (read ≡ Err NoMemory)
read-linked bytes link (Ok p) spells reads =
    inl (ap Ok ((unambiguous proof_codec proof-lawful).one_value bytes p (Linked link) reads spells))
read-linked bytes link (Err (Malformed place)) spells reads = absurd (reads.0 (Linked link) spells)
read-linked bytes link (Err NoMemory) spells reads = inr refl

not-both : true ≡ false → ⊥
not-both e = cc

-- a step from 1 on has an authenticator under the last one, or is refused, and then there is no such step
link-cases : (h : History) (step : ℕ) → 1 ≤ step
    → (HasStep h step × (history_refusal h (Link step None) ≡ None))
    ⊎ ((HasStep h step → ⊥) × (history_refusal h (Link step None) ≡ Some (NoStep (length h.steps))))
unfolding question_refusal pages_refusal link_refusal
link-cases h step one = by (nat_le step last) refl
  where
    last : ℕ
    last = length h.steps

    told : (b c d : Bool) → Option Refusal
    told b c d = or_else (if b && (c && d) then None else Some (NoStep last)) None

    by : (b : Bool) → nat_le step last ≡ b
        → (HasStep h step × (told (nat_le step last) (nat_le 1 last) (nat_le last last) ≡ None))
        ⊎ ((HasStep h step → ⊥) × (told (nat_le step last) (nat_le 1 last) (nat_le last last) ≡ Some (NoStep last)))
    by true e =
        let within : step ≤ last = leb-true step last e in
        inl (
          (one, within),
          ap (λ b. told b (nat_le 1 last) (nat_le last last)) e ∙ ap (λ b. told true b (nat_le last last))
              (le-leb 1 last (omega (arith, one, within)))
              ∙ ap (told true true) (le-leb last last (omega arith)),
        )
    by false e =
        inr (
          (λ has. not-both (sym (le-leb step last has.1) ∙ e)),
          ap (λ b. told b (nat_le 1 last) (nat_le last last)) e,
        )

pub no-bytes : (bytes : List ℕ) (refusal : Refusal) → OfBytes bytes ≡ Refused refusal → ⊥
no-bytes bytes refusal e = cc

pub same-bytes : (one other : List ℕ) → OfBytes one ≡ OfBytes other → one ≡ other
same-bytes one other e = cc

same-refused : (one other : Refusal) → Refused one ≡ Refused other → one ≡ other
same-refused one other e = cc

same-link : (one other : LinkProof) → Linked one ≡ Linked other → one ≡ other
same-link one other e = cc

module _ (w : World) (name : List ℕ) (step : ℕ) (m : Member) (is : IsMember w name m) (one : 1 ≤ step) where
  -- what the machine replies, where the history refuses this
  replies : (reply : Reply) (o : Option Refusal) → history_refusal m.history (Link step None) ≡ o
      → IsStepOf sha256 m.history (Ask (Link step None)) reply m.history
      → MatchOption o ((bytes : List ℕ) × Makes sha256 m.history (Link step None) bytes × (reply ≡ OfBytes bytes))
      (λ refusal. reply ≡ Refused refusal)
  replies reply o e stepped =
      subst (λ (x : Option Refusal). MatchOption x ((bytes : List ℕ) × Makes sha256 m.history (Link step None) bytes
      × (reply ≡ OfBytes bytes)) (λ refusal. reply ≡ Refused refusal)) e stepped.1

  -- the authenticator that a proof of the history's own tells
  linked-thread : (bytes : List ℕ) (link : LinkProof) → Makes sha256 m.history (Link step None) bytes
      → Spells proof_layout bytes (Linked link)
      → thread_of_link link ≡ record { from = name; step = step; auth = auth sha256 m.history step }
  unfolding Makes
  linked-thread bytes link makes spells =
      let made : MakesLink sha256 m.history step (length m.history.steps) bytes = makes in
      let owns = made.2 in
      let same : link ≡ made.0 = same-link link made.0 ((unambiguous proof_codec proof-lawful).one_value bytes
      (Linked link) (Linked made.0) spells made.1) in
      ap thread_of_link same ∙ ap (λ n. record { from = n; step = made.0.step; auth = made.0.auth })
      (owns.service ∙ named w.members name m is)
      ∙ ap (λ n. record { from = name; step = n; auth = made.0.auth }) owns.at_step
      ∙ ap (λ a. record { from = name; step = step; auth = a }) owns.given

  -- what is given is a proof of it
  pub linked-made : (bytes : List ℕ) → GivesReply m.history (Link step None) (Ok bytes) → (link : LinkProof)
      × Spells proof_layout bytes (Linked link)
  unfolding Makes
  linked-made bytes gives =
      elim (link-cases m.history step one) [
        | inl has ↦
            let made = replies (OfBytes bytes) None has.1 gives in
            let makes = subst (Makes sha256 m.history (Link step None)) (same-bytes made.0 bytes (sym made.2)) made.1 in
            (makes.0, makes.1)
        | inr none ↦ absurd (no-bytes bytes (NoStep (length m.history.steps))
            (replies (OfBytes bytes) (Some (NoStep (length m.history.steps))) none.1 gives))
      ]

  -- the authenticator that a proof tells is held
  pub told-anchored : (bytes : List ℕ) (link : LinkProof) → GivesReply m.history (Link step None) (Ok bytes)
      → Spells proof_layout bytes (Linked link)
      → IsLineTold sha256 claims_none w (Anchor name step) (Plain answer.Done)
      (after_line (with_anchor w (thread_of_link link)))
  told-anchored bytes link gives spells =
      elim (link-cases m.history step one) [
        | inl has ↦
            let made = replies (OfBytes bytes) None has.1 gives in
            let makes = subst (Makes sha256 m.history (Link step None)) (same-bytes made.0 bytes (sym made.2))
            made.1 in (
              m,
              is,
              inl (
                has.0,
                refl,
                ap (λ (t : Thread). after_line (with_anchor w t)) (linked-thread bytes link makes spells),
              ),
            )
        | inr none ↦ absurd (no-bytes bytes (NoStep (length m.history.steps))
            (replies (OfBytes bytes) (Some (NoStep (length m.history.steps))) none.1 gives))
      ]

  -- there is no such step
  pub told-unanchored : (refusal : Refusal) → GivesReply m.history (Link step None) (Err refusal)
      → IsLineTold sha256 claims_none w (Anchor name step) (Plain (answer.Refused refusal)) (after_line w)
  told-unanchored refusal gives =
      elim (link-cases m.history step one) [
        | inl has ↦ (let made = replies (Refused refusal) None has.1 gives in
            absurd (no-bytes made.0 refusal (sym made.2)))
        | inr none ↦
            let same = same-refused refusal (NoStep (length m.history.steps))
            (replies (Refused refusal) (Some (NoStep (length m.history.steps))) none.1 gives) in
            (m, is, inr (none.0, ap (λ (r : Refusal). Plain (answer.Refused r)) same, refl))
      ]
