use Rattle.std.proofs.Common.{◌≡◌, ◌∙◌, ℕ, List, Bool, ap, sym, refl, false}
use Rattle.std.specs.Prelude.{is_some, Option, None, Some}
use Rattle.tw_base.proofs.lemmas.kinds.DigestBytes.{IsDigest}
use Rattle.tw_msg.specs.declared.message.Message.{Message}
use Rattle.tw_msg.specs.Messages.{message_bytes}
use Rattle.tw_base.specs.declared.history.refusal.Refusal.{Refusal}
use Rattle.tw_answers.specs.Limits.{thread_refusal}
use Rattle.tw_answers.proofs.FoundAnswers.{of_disk_fault}
use Rattle.tw_answers.proofs.TableAnswers.{IsTold, NoFault, of_some, thread_no_fault, thread_told}
use Rattle.tw_base.specs.declared.history.question.Question.TheVariants.{ThreadOut}
use Rattle.tw_service.specs.Machine.Reply.{OfBytes}
use Rattle.tw_service.specs.Questions.{message_told}
use Rattle.tw_service.proofs.Asked.{asked_err, asked_ok, asked_refused}
use Rattle.tw_service.proofs.Questions.{ask_made, ask_refused, message_good, message_makes, message_own, thread_whole}
use Rattle.tw_service.proofs.service.Service.thread_out.Goals as goal

-- the table of a served history
to_table : (broken : Bool) (last since n : ℕ) (o : Option Refusal) → o ≡ thread_refusal broken last since
    → broken ≡ false → last ≡ n → o ≡ thread_refusal false n since
to_table broken last since n o is whole ends = is ∙ (λ j. thread_refusal (whole j) (ends j) since)

pub returns-in-Some-clause-asks : goal.returns-in-Some-clause-asks
returns-in-Some-clause-asks g c =
    let s = c.args.self.now in
    let since = c.args.since in
    let r = s.recorded.kept.root in
    let is = sym c.in-Some.is ∙ c.thread_refusal.ensures.answer in
    asked_refused g.D.Disk.view g.met.D.Disk.only_now g.H.Hasher.dig _ _ (λ (m : Message). OfBytes (message_bytes m))
    (thread_refusal s.is_broken r.head.step since) (λ ps. message_told g.H.Hasher.dig ps r.name r.head since) s
    c.in-Some.refusal is (of_some NoFault _ c.in-Some.refusal is (thread_no_fault s.is_broken r.head.step since))
    (λ whole h served.
    let told = to_table s.is_broken r.head.step since _ (Some c.in-Some.refusal) is whole served.keeps.whole.steps.step
    in (
      of_some IsTold _ c.in-Some.refusal told (thread_told _ since),
      ask_refused g.H.Hasher.dig h (ThreadOut since) c.in-Some.refusal (thread_whole h since (Some c.in-Some.refusal)
          told),
    ))

pub returns-in-Ok-clause-made : goal.returns-in-Ok-clause-made
returns-in-Ok-clause-made g c = λ h served.
    message_own g.H.Hasher.dig g.D.Disk.view (λ text. (g.met.H.Hasher.size text, g.met.H.Hasher.bytes text))
    c.args.self.now h served c.args.since (c.thread_refusal.ensures.order (ap is_some c.in_default.is)) c.in-Ok.message
    (λ ps list. c.in-Ok.ensures.reads.answer ps list)

pub returns-in-Ok-clause-asks : goal.returns-in-Ok-clause-asks
returns-in-Ok-clause-asks g c =
    let s = c.args.self.now in
    let r = s.recorded.kept.root in
    let since = c.args.since in
    let none = sym c.in_default.is ∙ c.thread_refusal.ensures.answer in
    asked_ok g.D.Disk.view g.met.D.Disk.only_now g.H.Hasher.dig _ _ (λ (m : Message). OfBytes (message_bytes m)) _
    (λ ps. message_told g.H.Hasher.dig ps r.name r.head since) s _ none refl
    c.in-Ok.ensures.reads.kept.same_kept c.in-Ok.ensures.reads.faults.later c.in-Ok.message refl
    (λ ps list. c.in-Ok.ensures.reads.answer ps list)
    (λ whole h served.
    let size : (text : List ℕ) → IsDigest (g.H.Hasher.dig text) =
    λ text. (g.met.H.Hasher.size text, g.met.H.Hasher.bytes text) in
    ask_made g.H.Hasher.dig h (ThreadOut since) (message_bytes c.in-Ok.message)
    (thread_whole h since None (to_table s.is_broken r.head.step since _ None none whole served.keeps.whole.steps.step))
    (message_makes g.H.Hasher.dig size served.pages h r served.keeps.whole served.keeps.sound r.name served.keeps.named
    since c.in-Ok.message (message_own g.H.Hasher.dig g.D.Disk.view size s h served since
    (c.thread_refusal.ensures.order (ap is_some c.in_default.is)) c.in-Ok.message
    (λ ps list. c.in-Ok.ensures.reads.answer ps list))))

pub returns-in-Err-clause-asks : goal.returns-in-Err-clause-asks
returns-in-Err-clause-asks g c =
    let s = c.args.self.now in
    let order = c.thread_refusal.ensures.order (ap is_some c.in_default.is) in
    let reads = c.in-Err.ensures.reads in
    asked_err g.D.Disk.view g.met.D.Disk.only_now g.H.Hasher.dig _ _ (λ (m : Message). OfBytes (message_bytes m)) _
    (λ ps. message_told g.H.Hasher.dig ps s.recorded.kept.root.name s.recorded.kept.root.head c.args.since) s _
    (sym c.in_default.is ∙ c.thread_refusal.ensures.answer) refl reads.kept.same_kept reads.faults.later
    c.in-Err.refusal reads.own (c.thread_refusal.ensures.whole (ap is_some c.in_default.is))
    c.is_disk_fault-self.ensures (λ ps list. reads.answer ps list)
    (λ h served. message_good g.H.Hasher.dig g.D.Disk.view
    (λ text. (g.met.H.Hasher.size text, g.met.H.Hasher.bytes text)) s h served c.args.since order c.in-Err.refusal
    (λ ps list. reads.answer ps list))
    (λ is. reads.faults.rose (of_disk_fault c.in-Err.refusal is))
