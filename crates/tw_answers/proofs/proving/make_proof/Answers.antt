use Rattle.std.proofs.Common.{◌≡◌, ◌∙◌, List, ℕ, ap, arith, inr, refl, sym}
use Rattle.std.specs.Prelude.{Option, Result, Ok}
use Rattle.tw_disk.specs.Image.{Image}
use Rattle.tw_disk.proofs.AnswerLaws.{as_or, stopped}
use Rattle.tw_disk.proofs.FoundLaws.{bad_ends, is_on}
use Rattle.tw_disk.proofs.ReadingLaws.{only_reads_on, reads_weaker}
use Rattle.tw_disk.specs.Found.{Found, ◌>>=◌}
use Rattle.tw_disk.specs.Found.Found.{Is}
use Rattle.tw_skiplist.specs.declared.info.StepProof.{StepProof}
use Rattle.tw_skiplist.specs.declared.head.Head.{Head}
use Rattle.tw_skiplist.specs.Events.{events_of_info}
use Rattle.tw_skiplist.specs.ListFaults.{list_faults, list_refusal}
use Rattle.tw_skiplist.specs.Readings.{found_proof}
use Rattle.tw_base.specs.declared.history.refusal.Refusal.{Refusal}
use Rattle.tw_answers.specs.Finds.{event_proof, event_proof_bytes, unless}
use Rattle.tw_answers.specs.Limits.{event_refusal}
use Rattle.tw_answers.specs.Refusals.{IsNoEvent, service_refusals}
use Rattle.tw_answers.proofs.TableAnswers.{event_told, no_event_told, of_some}
use Rattle.tw_answers.proofs.FoundAnswers.{fault_own, of_disk, same_sort, table_found}
use Rattle.tw_answers.proofs.proving.make_proof.Goals as goal

-- what follows the step and its path
abbrev events_then : (dig : List ℕ → List ℕ) (ps : Image) (name : List ℕ) (index top : ℕ) → StepProof
    → Found (Result (List ℕ) Refusal)
events_then dig ps name index top proof = events_of_info ps proof.info
    >>= (λ events. Is (Ok (event_proof_bytes dig name top index proof events)))

-- where the proof is there, what the table of events comes to
step_told : (dig : List ℕ → List ℕ) (ps : Image) (name : List ℕ) (head : Head) (step index top : ℕ) (proof : StepProof)
    (o : Option Refusal) → found_proof dig ps head top step ≡ Is proof → event_refusal proof.info.count index ≡ o
    → event_proof dig ps name head step index top ≡ unless o (events_then dig ps name index top proof)
unfolding event_proof
step_told dig ps name head step index top proof o found is =
    is_on (found_proof dig ps head top step) (λ proof. unless (event_refusal proof.info.count index)
    (events_then dig ps name index top proof)) proof found
    ∙ ap (λ (q : Option Refusal). unless q (events_then dig ps name index top proof)) is

pub returns-in-Some : goal.returns-in-Some
returns-in-Some g c =
    let is = sym c.in-Some.is ∙ c.event_refusal.ensures.answer in
    let none = of_some IsNoEvent _ c.in-Some.refusal is (event_told c.in_ok-proof.proof.info.count c.args.index) in
    let reads = c.in_ok-proof.ensures.reads in
    record {
      reads = record {
        answer = λ ps told.
            table_found c.in-Some.refusal (event_proof g.H.Hasher.dig ps c.args.name.now c.args.head.now c.args.step
            c.args.index c.args.top) (no_event_told c.in-Some.refusal none).0
            (step_told g.H.Hasher.dig ps c.args.name.now c.args.head.now c.args.step c.args.index c.args.top
            c.in_ok-proof.proof _ (reads.answer ps told) (sym is));
        own = inr none;
        kept = reads_weaker g.P.Pages.view g.P.Pages.same _ _ _ _ (λ good. refl) reads.kept;
        faults = record {
          later = reads.faults.later;
          rose = λ failed. absurd ((no_event_told c.in-Some.refusal none).0 (of_disk c.in-Some.refusal failed));
        };
      };
    }

pub returns-in_err-events : goal.returns-in_err-events
returns-in_err-events g c =
    let dig = g.H.Hasher.dig in
    let proof = c.in_ok-proof.proof in
    let name = c.args.name.now in
    let head = c.args.head.now in
    let index = c.args.index in
    let top = c.args.top in
    let step = c.args.step in
    let fault = c.in_err-events.field-0.0 in
    let result = c.from_residual-in_err-events.result in
    let handed = c.from_residual-in_err-events.ensures.1 in
    let before = c.in_ok-proof.ensures.reads in
    let whole : Image → Found (Result (List ℕ) Refusal) = λ ps. event_proof dig ps name head step index top in
    record {
      reads = as_or service_refusals g.P.Pages.view g.P.Pages.same _ _ (λ bytes. Ok bytes) (λ bytes. bytes) result _
          whole _ handed (fault_own result fault handed c.in_err-events.ensures.reads.own)
          (stopped list_faults service_refusals g.P.Pages.view g.P.Pages.same g.met.P.Pages.same_on _ _ _ _
          (λ bytes. Ok bytes) (λ ps. events_of_info ps proof.info) whole fault (list_refusal fault) result
          (reads_weaker g.P.Pages.view g.P.Pages.same _ _ _ _ (λ good. refl) before.kept) before.faults.later
          (same_sort fault) handed
          (λ ps told page bad.
          step_told dig ps name head step index top proof _ (before.answer ps told)
          (sym (sym c.in_default.is ∙ c.event_refusal.ensures.answer))
          ∙ bad_ends (events_of_info ps proof.info)
          (λ events. Is (Ok (event_proof_bytes dig name top index proof events))) page bad)
          c.in_err-events.ensures.reads);
    }

pub returns : goal.returns
returns g c =
    let dig = g.H.Hasher.dig in
    let proof = c.in_ok-proof.proof in
    let name = c.args.name.now in
    let index = c.args.index in
    let top = c.args.top in
    let before = c.in_ok-proof.ensures.reads in
    let reads = c.in_ok-events.ensures.reads in
    record {
      reads = record {
        answer = λ ps told.
            step_told dig ps name c.args.head.now c.args.step index top proof _ (before.answer ps told)
            (sym (sym c.in_default.is ∙ c.event_refusal.ensures.answer))
            ∙ is_on (events_of_info ps proof.info)
            (λ events. Is (Ok (event_proof_bytes dig name top index proof events))) c.in_ok-events.events
            (reads.answer ps (before.kept.list_kept ∙ told))
            ∙ ap (λ (b : List ℕ). Is (Ok b)) (sym c.in_ok-write_event.ensures.bytes);
        own = tt;
        kept = only_reads_on g.P.Pages.view g.P.Pages.same _ _ _ _ _ _ g.met.P.Pages.same_on (λ good. refl)
            (λ good. refl) before.kept reads.kept;
        faults = record { later = omega (arith, before.faults.later, reads.faults.later); rose = λ failed. cc };
      };
    }
