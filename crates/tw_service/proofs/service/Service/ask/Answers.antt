use Rattle.std.proofs.Common.{◌≡◌, ◌∙◌, ℕ, List, length, Bool, ap, sym, refl, false, ⊎_elim}
use Rattle.std.specs.Prelude.{is_some, Option, None, Some}
use Rattle.tw_base.specs.history.History.{History}
use Rattle.tw_base.specs.declared.history.refusal.Refusal.{Refusal}
use Rattle.tw_answers.specs.Limits.{or_else}
use Rattle.tw_answers.proofs.FoundAnswers.{of_disk_fault}
use Rattle.tw_answers.proofs.TableAnswers.{IsTold, NoFault, of_some}
use Rattle.tw_base.specs.declared.history.question.Question.{Question}
use Rattle.tw_service.specs.Machine.Reply.{OfBytes}
use Rattle.tw_service.specs.Questions.{found_bytes, history_refusal, pages_refusal, question_refusal}
use Rattle.tw_service.specs.Serves.{Serves}
use Rattle.tw_service.proofs.Asked.{asked_err, asked_ok, asked_own, asked_refused}
use Rattle.tw_service.proofs.Questions.{ask_made, ask_refused, besides_told, question_no_fault, question_told}
use Rattle.tw_service.proofs.Questions.{served_good, served_ok, served_own}
use Rattle.tw_service.proofs.service.Service.ask.Goals as goal

-- the table of a served history
to_table : (q : Question) (broken : Bool) (last n : ℕ) (o : Option Refusal) → o ≡ question_refusal broken last q
    → broken ≡ false → last ≡ n → o ≡ question_refusal false n q
to_table q broken last n o is whole ends = is ∙ (λ j. question_refusal (whole j) (ends j) q)

-- the whole table of one
whole_table : (h : History) (q : Question) (o p : Option Refusal) → o ≡ question_refusal false (length h.steps) q
    → pages_refusal h q ≡ p → or_else o p ≡ history_refusal h q
whole_table h q o p one other = λ j. or_else (one j) (sym other j)

pub returns-in-Some : goal.returns-in-Some
returns-in-Some g c =
    let s = c.args.self.now in
    let r = s.recorded.kept.root in
    let q = c.args.question.now in
    let is = sym c.in-Some.is ∙ c.question_refusal.ensures.answer in
    record {
      asks = asked_refused g.D.Disk.view g.met.D.Disk.only_now g.H.Hasher.dig _ _ (λ (b : List ℕ). OfBytes b)
          (question_refusal s.is_broken r.head.step q) (λ ps. found_bytes g.H.Hasher.dig ps r.name r.head q) s
          c.in-Some.refusal is
          (of_some NoFault _ c.in-Some.refusal is (question_no_fault s.is_broken r.head.step q))
          (λ whole h served.
          let told = to_table q s.is_broken r.head.step _ (Some c.in-Some.refusal) is whole
          served.keeps.whole.steps.step in (
            of_some IsTold _ c.in-Some.refusal told (question_told _ q),
            ask_refused g.H.Hasher.dig h q c.in-Some.refusal (whole_table h q (Some c.in-Some.refusal) _ told refl),
          ));
      made = tt;
      accepted = tt;
      few = tt;
    }

pub returns-in-Ok : goal.returns-in-Ok
returns-in-Ok g c =
    let s = c.args.self.now in
    let q = c.args.question.now in
    let none = sym c.in_default.is ∙ c.question_refusal.ensures.answer in
    let own = λ (h : History) (served : Serves g.H.Hasher.dig g.D.Disk.view s h).
    served_ok g.H.Hasher.dig g.D.Disk.view (λ text. (g.met.H.Hasher.size text, g.met.H.Hasher.bytes text)) s h served q
    c.requires c.see_names.ensures (c.question_refusal.ensures.order (ap is_some c.in_default.is)) c.in-Ok.bytes
    (λ ps list. c.in-Ok.ensures.reads.answer ps list) in
    record {
      asks = asked_ok g.D.Disk.view g.met.D.Disk.only_now g.H.Hasher.dig _ _ (λ (b : List ℕ). OfBytes b) _
          (λ ps. found_bytes g.H.Hasher.dig ps s.recorded.kept.root.name s.recorded.kept.root.head q) s _ none refl
          c.in-Ok.ensures.reads.kept.same_kept c.in-Ok.ensures.reads.faults.later c.in-Ok.bytes refl
          (λ ps list. c.in-Ok.ensures.reads.answer ps list)
          (λ whole h served.
          ask_made g.H.Hasher.dig h q c.in-Ok.bytes (whole_table h q None None
          (to_table q s.is_broken s.recorded.kept.root.head.step _ None none whole served.keeps.whole.steps.step)
          (own h served).0) (own h served).1);
      made = λ h served. (own h served).1;
      accepted = λ h served. (own h served).2;
      few = λ h served. (own h served).3;
    }

pub returns-in-Err : goal.returns-in-Err
returns-in-Err g c =
    let s = c.args.self.now in
    let q = c.args.question.now in
    let none = sym c.in_default.is ∙ c.question_refusal.ensures.answer in
    let reads = c.in-Err.ensures.reads in
    let whole = c.question_refusal.ensures.whole (ap is_some c.in_default.is) in
    let order = c.question_refusal.ensures.order (ap is_some c.in_default.is) in
    record {
      asks = ⊎_elim
          (λ fault. asked_err g.D.Disk.view g.met.D.Disk.only_now g.H.Hasher.dig _ _ (λ (b : List ℕ). OfBytes b) _
          (λ ps. found_bytes g.H.Hasher.dig ps s.recorded.kept.root.name s.recorded.kept.root.head q) s _ none refl
          reads.kept.same_kept reads.faults.later c.in-Err.refusal fault whole c.is_disk_fault-self.ensures
          (λ ps list. reads.answer ps list)
          (λ h served. served_good g.H.Hasher.dig g.D.Disk.view
          (λ text. (g.met.H.Hasher.size text, g.met.H.Hasher.bytes text)) s h served q c.requires c.see_names.ensures
          order c.in-Err.refusal (λ ps list. reads.answer ps list))
          (λ is. reads.faults.rose (of_disk_fault c.in-Err.refusal is)))
          (λ own. asked_own g.D.Disk.view g.met.D.Disk.only_now g.H.Hasher.dig _ _ (λ (b : List ℕ). OfBytes b) _
          (λ ps. found_bytes g.H.Hasher.dig ps s.recorded.kept.root.name s.recorded.kept.root.head q) s _ none refl
          reads.kept.same_kept reads.faults.later c.in-Err.refusal own (besides_told q c.in-Err.refusal own) whole
          c.is_disk_fault-self.ensures (λ ps list. reads.answer ps list)
          (λ good h served.
          ask_refused g.H.Hasher.dig h q c.in-Err.refusal (whole_table h q None (Some c.in-Err.refusal)
          (to_table q s.is_broken s.recorded.kept.root.head.step _ None none good served.keeps.whole.steps.step)
          (served_own g.H.Hasher.dig g.D.Disk.view (λ text. (g.met.H.Hasher.size text, g.met.H.Hasher.bytes text)) s h
          served q c.requires c.see_names.ensures order c.in-Err.refusal (λ ps list. reads.answer ps list)
          (besides_told q c.in-Err.refusal own).0))))
          reads.own;
      made = tt;
      accepted = tt;
      few = tt;
    }
