-- Each line of a schedule keeps what the order of recording stands on.
use Rattle.std.proofs.Common.{◌≡◌, ℕ, ◌+◌, ◌-◌, List, [], ◌∷◌, Bool, true, false, refl, ap, sym, ◌∙◌, subst, inl, inr}
use Rattle.std.proofs.Common.{arith}
use Rattle.std.specs.Prelude.{Option, Some, None, IsNone, MatchOption, Result, Ok, Err}
use Rattle.tw_base.specs.declared.history.thread.Thread.{Thread}
use Rattle.tw_base.specs.declared.history.question.Question.TheVariants.{ThreadOut}
use Rattle.tw_base.specs.history.Auth.{auth}
use Rattle.tw_base.specs.history.History.{History}
use Rattle.tw_base.specs.history.Sound.{IsSound}
use Rattle.tw_base.specs.kinds.Bytes.{AreBytes}
use Rattle.tw_base.specs.kinds.Lists.{Each, In}
use Rattle.tw_base.proofs.lemmas.format.CodecLaws.{unambiguous}
use Rattle.tw_chain.specs.declared.proof.Proof.{Proof}
use Rattle.tw_join.specs.declared.joining.JoinFault.{JoinFault}
use Rattle.tw_join.specs.declared.joining.JoinFault.TheVariants.{Gap, NoMemory}
use Rattle.tw_msg.specs.HistoryMessages.{MakesMessage}
use Rattle.tw_msg.specs.Messages.{message_codec}
use Rattle.tw_msg.specs.declared.message.Message.{Message}
use Rattle.tw_msg.proofs.MessageCodec.{message-lawful}
use Rattle.tw_script.specs.declared.line.Line.{Line}
use Rattle.tw_script.specs.declared.line.Line.TheVariants.{Service, Hostile, Append, Send, Inject, Deliver, Lose, Crash}
use Rattle.tw_script.specs.declared.line.Line.TheVariants.{Prove, Join, Anchor, Verify}
use Rattle.tw_base.specs.declared.history.refusal.Refusal.{Refusal}
use Rattle.tw_service.specs.Machine.{IsStepOf, Makes, Reply}
use Rattle.tw_service.specs.Machine.Call.{Ask}
use Rattle.tw_service.specs.Machine.Reply.{OfBytes, Refused}
use Rattle.tw_service.specs.Questions.{history_refusal}
use Rattle.tw_world.specs.Runs.{Appending, IsDelivered, IsLineTold, IsMember, IsReached, IsUndone, JoinTold, Moves}
use Rattle.tw_world.specs.Runs.{ProofTold, Receiving, RunsLines, mail_of}
use Rattle.tw_world.specs.declared.told.Answer.{Answer}
use Rattle.tw_world.specs.declared.told.Told.{Told}
use Rattle.tw_world.specs.Worlds.{Mail, Member, World, after_line, member_of, no_world, numbered, with_message}
use Rattle.tw_world.specs.Worlds.Mail.{Made, Unmade, Dropped}
use Rattle.tw_world.proofs.Births.{each-numbered}
use Rattle.tw_world.proofs.Growing.{moved-more, moved-same, put-same}
use Rattle.tw_world.proofs.MachineSteps.{append-goes, given-goes}
use Rattle.tw_world.proofs.Members.{each-member, named}
use Rattle.tw_world.proofs.Ordered.{IsHonest, IsHonestMail, IsOrderedWorld, ordered-anchor, ordered-hostile}
use Rattle.tw_world.proofs.Ordered.{ordered-later, ordered-lost, ordered-mail, ordered-service}

is-none : {X : Type 0} (o : Option X) → IsNone o → o ≡ None
is-none None none = refl
is-none (Some x) none = cc

module _ (dig : List ℕ → List ℕ) (may_claim : Option ℕ → Bool) where
  abbrev Good : World → Type 0
  Good w = IsOrderedWorld dig w

  module _ (w : World) (o : Good w) where
    -- one more line, which changes neither services nor messages
    later : Good (after_line w)
    later = ordered-later dig w.members w.hostile w.messages w.anchors w.place o

    sound-of : (name : List ℕ) (m : Member) → member_of w.members name ≡ Some m → IsSound m.history
    sound-of name m is = each-member (λ (k : Member). IsSound k.history) w.members name m o.sound is

    -- ---- append and delivery

    undone-good : (name : List ℕ) (m : Member) (told : Told) (next : World) → IsMember w name m → IsUndone w m told next
        → Good next
    undone-good name m told next there is =
        subst Good (sym is.2) (put-same dig w o name m there (record m { waits = false }) refl refl)

    append-good : (name : List ℕ) (m : Member) (events : List (List ℕ)) (own : History → Reply → Answer) (told : Told)
        (next : World) → Each AreBytes events → IsMember w name m
        → Moves (Appending dig may_claim events) own w m told next → Good next
    append-good name m events own told next bytes there (inr undone) = undone-good name m told next there undone
    append-good name m events own told next bytes there (inl r) =
        subst Good (sym r.becomes)
        (elim (append-goes dig m.history r.history events r.replies.0 r.reply (sound-of name m there) bytes r.replies.2
        r.replies.3) [
          | inl same ↦ moved-same dig w o name m there r.history same
          | inr more ↦ moved-more dig w o name m there r.history more.0 more.1 more.2
              (λ t is. absurd (no-thread t (sym more.3 ∙ is)))
        ])
      where
        no-thread : (t : Thread) → None ≡ Some t → ⊥
        no-thread t is = cc

    given-good : (name : List ℕ) (m : Member) (bytes : List ℕ) (own : History → Reply → Answer) (told : Told)
        (next : World) → IsHonestMail dig w.members w.hostile (Made bytes) → IsMember w name m
        → Moves (Receiving dig may_claim bytes) own w m told next → Good next
    given-good name m bytes own told next honest there (inr undone) = undone-good name m told next there undone
    given-good name m bytes own told next honest there (inl r) =
        subst Good (sym r.becomes)
        (elim (given-goes dig m.history r.history bytes r.replies.0 r.reply r.replies.3) [
          | inl same ↦ moved-same dig w o name m there r.history same
          | inr (message, spells, more) ↦
              moved-more dig w o name m there r.history more.0 more.1 more.2
              (λ t is. subst (IsHonest dig w.members w.hostile) (one message.thread t (sym more.3 ∙ is))
              (honest message spells))
        ])
      where
        one : (t u : Thread) → Some t ≡ Some u → t ≡ u
        one t u is = cc

    delivered-good : (number : ℕ) (name : List ℕ) (m : Member) (told : Told) (next : World) → IsMember w name m
        → MatchOption (numbered w.messages number) ⊥ (λ mail. IsDelivered dig may_claim w mail m told next) → Good next
    delivered-good number name m told next there is = by (numbered w.messages number) refl is
      where
        by : (x : Option Mail) → numbered w.messages number ≡ x
            → MatchOption x ⊥ (λ mail. IsDelivered dig may_claim w mail m told next) → Good next
        by None at is = absurd is
        by (Some (Made bytes)) at is = given-good name m bytes _ told next
            (each-numbered (IsHonestMail dig w.members w.hostile) w.messages number (Made bytes) o.honest at) there is
        by (Some Unmade) at is = subst Good (sym is.1) later
        by (Some Dropped) at is = absurd is

    -- ---- messages

    -- the message of a service's last step is honest
    told-honest : (name : List ℕ) (m : Member) (since : ℕ) (bytes : List ℕ) → member_of w.members name ≡ Some m
        → Makes dig m.history (ThreadOut since) bytes
        → IsHonestMail dig w.members w.hostile (Made bytes)
    unfolding Makes
    told-honest name m since bytes is makes = λ found spells.
        let made : MakesMessage dig m.history since bytes = makes in
        let of = made.2 in
        let same : found ≡ made.0 = (unambiguous message_codec message-lawful).one_value bytes found made.0 spells
        made.1 in
        let at : member_of w.members m.history.name ≡ Some m = ap (member_of w.members) (named w.members name m is)
        ∙ is in
        subst (IsHonest dig w.members w.hostile) (sym (ap (λ (x : Message). x.thread) same ∙ of.thread))
        (inl (record { member = m; is = at; some = of.some; within = omega arith; present = refl }))

    sent-honest : (name : List ℕ) (m : Member) (since : ℕ) (reply : Reply) → member_of w.members name ≡ Some m
        → IsStepOf dig m.history (Ask (ThreadOut since)) reply m.history → IsHonestMail dig w.members w.hostile
        (mail_of reply)
    sent-honest name m since reply is step = by (history_refusal m.history (ThreadOut since)) step.1
      where
        Sent : Reply → Type 0
        Sent r = IsHonestMail dig w.members w.hostile (mail_of r)

        by : (o : Option Refusal) → MatchOption o ((bytes : List ℕ) × Makes dig m.history (ThreadOut since) bytes
            × (reply ≡ OfBytes bytes)) (λ refusal. reply ≡ Refused refusal)
            → Sent reply
        by (Some refusal) refused = subst Sent (sym refused) tt
        by None (bytes, makes, told) = subst Sent (sym told) (told-honest name m since bytes is makes)

    mail-good : (mail : Mail) → IsHonestMail dig w.members w.hostile mail
        → IsOrderedWorld dig (after_line (with_message w mail))
    mail-good mail honest = ordered-mail dig w.members w.hostile w.messages w.anchors (w.place + 1) later mail honest

    -- ---- the others

    joined-good : (joined : Result Proof JoinFault) (told : Told) (next : World) → JoinTold w joined told next
        → Good next
    joined-good (Ok p) told next is = subst Good (sym is.1) later
    joined-good (Err (Gap place)) told next is = subst Good (sym is.1) later
    joined-good (Err NoMemory) told next is = absurd is

    proof-good : (reply : Reply) (told : Told) (next : World) → ProofTold w reply told next → Good next
    proof-good (OfBytes bytes) told next is = subst Good (sym is.1) later
    proof-good (Refused refusal) told next is = subst Good (sym is.1) later
    proof-good _ told next is = absurd is

    pub line-good : (line : Line) (told : Told) (next : World) → IsLineTold dig may_claim w line told next → Good next
    line-good (Service name) told next is =
        subst Good (sym is.2) (ordered-service dig w.members w.hostile w.messages w.anchors (w.place + 1) later name
        is.0.0 (is-none (member_of w.members name) is.0.1) is.0.2)
    line-good (Hostile name) told next is =
        subst Good (sym is.2) (ordered-hostile dig w.members w.hostile w.messages w.anchors (w.place + 1) later name
        (is-none (member_of w.members name) is.0.1))
    line-good (Append name events) told next (bytes, (m, there, is)) = append-good name m events _ told next bytes there
        is
    line-good (Send name since) told next (m, there, (reply, step, text, same)) =
        subst Good (sym same) (mail-good (mail_of reply) (sent-honest name m since reply there step))
    line-good (Inject name bytes) told next (lies, own, text, same) =
        subst Good (sym same)
        (mail-good (Made bytes) (λ m spells. inr (subst (λ x. In x w.hostile) (sym (own m spells)) lies)))
    line-good (Deliver number name) told next (m, there, is) = delivered-good number name m told next there is
    line-good (Lose number) told next (mail, there, text, same) =
        subst Good (sym same) (ordered-lost dig w.members w.hostile w.messages w.anchors (w.place + 1) later
        (number - 1))
    line-good (Crash name call choice) told next (m, there, text, same) =
        subst Good (sym same) (put-same dig w o name m there (record m { waits = true }) refl refl)
    line-good (Prove name asked) told next (m, there, (reply, step, made)) = proof-good reply told next made
    line-good (Join numbers) told next (two, (files, there, inl none)) = subst Good (sym none.1.1) later
    line-good (Join numbers) told next (two, (files, there, inr (proofs, spelled, (joined, joins, is)))) =
        joined-good joined told next is
    line-good (Anchor name step) told next (m, there, inl (within, text, same)) =
        subst Good (sym same) (ordered-anchor dig w.members w.hostile w.messages w.anchors (w.place + 1) later _
        (record { from = name; step = step; auth = auth dig m.history step })
        (record { member = m; is = there; some = within.0; within = within.1; present = refl }))
    line-good (Anchor name step) told next (m, there, inr (past, text, same)) = subst Good (sym same) later
    line-good (Verify number) told next is = subst Good (sym is.0) later

  -- ---- runs

  pub runs-good : (lines : List Line) (told : List Told) (w end : World) → Good w → RunsLines dig may_claim w lines told
      end → Good end
  unfolding RunsLines
  runs-good [] [] w end o is = subst Good is o
  runs-good [] (t ∷ told) w end o is = absurd is
  runs-good (line ∷ lines) [] w end o is = absurd is
  runs-good (line ∷ lines) (t ∷ told) w end o (next, first, rest) = runs-good lines told next end
      (line-good w o line t next first) rest

  no-world-good : Good no_world
  no-world-good = record {
    distinct = tt;
    sound = tt;
    births = tt;
    apart = λ name m is. cc;
    received = λ name step e has. absurd (nobody name has.0 has.1);
    honest = tt;
    anchored = tt;
  }
    where
      nobody : (name : List ℕ) (m : Member) → None ≡ Some m → ⊥
      nobody name m is = cc

  pub reached-good : (w : World) → IsReached dig may_claim w → Good w
  reached-good w (lines, told, runs) = runs-good lines told no_world w no-world-good runs
