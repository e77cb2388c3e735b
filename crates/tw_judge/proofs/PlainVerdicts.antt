-- What is told of a proof with status 0 says, by the lines alone.
use Rattle.std.proofs.Common.{◌≡◌, ℕ, List, refl, sym, ◌∙◌, subst, arith, inl, inr}
use Rattle.std.specs.Prelude.{Bool, IfOk, Result, Ok, Err, map}
use Rattle.sha2.specs.Sha256.{sha256}
use Rattle.tw_base.specs.declared.kinds.failure.NoMemory.{NoMemory}
use Rattle.tw_base.specs.format.Formats.{Spells}
use Rattle.tw_chain.specs.declared.proof.Proof.{Proof}
use Rattle.tw_chain.specs.declared.verdict.Verdict.{Verdict}
use Rattle.tw_chain.specs.declared.verdict.Verdict.TheVariants.{Yes, No}
use Rattle.tw_chain.specs.Accepting.{IsAccepted, report_of}
use Rattle.tw_chain.specs.Proofs.{proof_layout}
use Rattle.tw_chain.specs.Reasons.{IsVerdict}
use Rattle.tw_msg.specs.AnchorsFile.{anchor_on, lines}
use Rattle.tw_plain.specs.Hashed.{hashed_texts}
use Rattle.tw_plain.specs.Plain.{IsPlain, IsReport, IsSoByLines, file_lines}
use Rattle.tw_text.specs.declared.fault.CommandFault.{CommandFault}
use Rattle.tw_text.specs.declared.fault.CommandFault.TheVariants.{InputFault}
use Rattle.tw_text.specs.Faults.{fault_status}
use Rattle.tw_judge.specs.declared.told.Told.{Told}
use Rattle.tw_judge.specs.Told.{IsTold, verdict_status, verdict_text}

pub no_fault : (f : CommandFault) → fault_status f ≡ 0 → ⊥
no_fault InputFault zeroth = omega (arith, zeroth)
no_fault _ zeroth = omega (arith, zeroth)

module _ (so : (bytes file : List ℕ) (p : Proof) → Spells proof_layout bytes p → IsAccepted sha256 (map anchor_on (lines file)) p
    → IsSoByLines sha256 (file_lines file) (hashed_texts sha256 bytes) (report_of p))
    (readable : (bytes : List ℕ) (p : Proof) → Spells proof_layout bytes p → IsReport (report_of p)) where
  verdict-plain : (strict : Bool) (proof anchors : List ℕ) (v : Verdict) → IsVerdict sha256 (map anchor_on (lines anchors)) strict proof v
      → verdict_status v ≡ 0 → IsPlain sha256 proof (file_lines anchors) (verdict_text v)
  verdict-plain strict proof anchors (Yes report) is zeroth =
      let accepts = is.0 in
      record {
        report = report;
        readable = subst IsReport (sym is.2) (readable proof accepts.0 accepts.1);
        tells = refl;
        so = subst (IsSoByLines sha256 (file_lines anchors) (hashed_texts sha256 proof)) (sym is.2) (so proof anchors accepts.0 accepts.1 accepts.2);
      }
  verdict-plain strict proof anchors (No reason) is zeroth = absurd (omega (arith, zeroth))

  told-plain : (file : List ℕ) (strict : Bool) (proof anchors : List ℕ) (status : ℕ) (text : List ℕ) → IsTold file strict proof anchors status text
      → status ≡ 0 → IsPlain sha256 proof (file_lines anchors) text
  told-plain file strict proof anchors status text (inl judged) zeroth =
      subst (IsPlain sha256 proof (file_lines anchors)) (sym judged.text_is)
      (verdict-plain strict proof anchors judged.verdict judged.judged.is_verdict (sym judged.status_is ∙ zeroth))
  told-plain file strict proof anchors status text (inr why) zeroth = absurd (no_fault why.fault (sym why.status_is ∙ zeroth))

  pub result-plain : (file : List ℕ) (strict : Bool) (proof anchors : List ℕ) (r : Result Told NoMemory)
      → IfOk r (λ told. IsTold file strict proof anchors told.status told.text)
      → IfOk r (λ told. told.status ≡ 0 → IsPlain sha256 proof (file_lines anchors) told.text)
  result-plain file strict proof anchors (Ok told) is =
      λ zeroth. told-plain file strict proof anchors told.status told.text is zeroth
  result-plain file strict proof anchors (Err fault) is = tt
