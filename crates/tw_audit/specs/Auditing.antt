-- What is found when a proof is held against histories.
use Rattle.std.specs.Prelude.{◌≡◌, ℕ, List, ◌++◌, Bool, false, not, Option, Some, None, option_and_then, find, Result, Ok, Err}
use Rattle.std.specs.Option.{option_map_or}
use Rattle.std.specs.Str.{bytes_eq}
use Rattle.tw_base.specs.declared.history.report.Report.{Report}
use Rattle.tw_base.specs.declared.history.thread.Thread.{Thread}
use Rattle.tw_base.specs.history.Auth.{auth_within}
use Rattle.tw_base.specs.history.Family.{family_texts, history_of}
use Rattle.tw_base.specs.history.History.{History}
use Rattle.tw_base.specs.kinds.Clash.{Pair, clash_pair}
use Rattle.tw_chain.specs.declared.proof.Proof.{Proof}
use Rattle.tw_chain.specs.declared.verdict.Verdict.TheVariants.{No}
use Rattle.tw_chain.specs.Accepting.{Accepts, held, proof_texts, report_of}
use Rattle.tw_chain.specs.Reasons.{IsVerdict}
use Rattle.tw_audit.specs.declared.finding.AuditFault.{AuditFault}
use Rattle.tw_audit.specs.declared.finding.AuditFault.TheVariants.{NotHeld, NoMemory}
use Rattle.tw_audit.specs.declared.finding.Finding.{Finding}
use Rattle.tw_audit.specs.declared.finding.Finding.TheVariants.{Stands, Clash, NotAccepted}

-- the authenticator that was found is the thread's
abbrev pub is_found : Option (List ℕ) → Thread → Bool
is_found found t = option_map_or (λ auth. bytes_eq auth t.auth) found false

-- a clash where there is a pair of texts, and else that the report stands
abbrev pub of_pair : (dig : List ℕ → List ℕ) → Report → Option Pair → Finding
of_pair dig report None = Stands report
of_pair dig report (Some pair) = Clash pair.one pair.other (dig pair.one)

module _ (dig : List ℕ → List ℕ) (family : List History) where
  -- what the family has at the thread's step: none where it has no history of the thread's service, or one that is too short
  abbrev pub auth_in : Thread → Option (List ℕ)
  auth_in t = option_and_then (λ h. auth_within dig h t.step) (history_of family t.from)

  -- that is the thread's authenticator
  abbrev pub agrees_with : Thread → Bool
  agrees_with t = is_found (auth_in t) t

  -- the texts of the histories, in their order, and then those of the proof
  abbrev pub audited_texts : Proof → List (List ℕ)
  audited_texts p = family_texts dig family ++ proof_texts dig p

  -- of an accepted proof: the first of the threads held with which the family doesn't agree, and what it has there; where there is
  -- none, the first clash of the texts, or that the proof's report stands
  abbrev pub audit_answer : (anchors : List Thread) → Proof → Result Finding AuditFault
  audit_answer anchors p =
      option_map_or (λ t. Err (NotHeld t (auth_in t))) (find (λ t. not (agrees_with t)) (held anchors p))
      (Ok (of_pair dig (report_of p) (clash_pair dig (audited_texts p))))

  -- the answer is that, or there was no memory
  abbrev pub IsAuditAnswer : (anchors : List Thread) → Proof → Result Finding AuditFault → Type 0
  IsAuditAnswer anchors p (Err NoMemory) = Unit {0}
  IsAuditAnswer anchors p result = result ≡ audit_answer anchors p

  -- what an audit of the bytes answers: that they aren't accepted, with the lowest reason; else what is found of the proof that
  -- they spell. Want of memory is free
  abbrev pub IsAudit : (anchors : List Thread) → List ℕ → Result Finding AuditFault → Type 0
  IsAudit anchors bytes (Ok (NotAccepted reason)) = IsVerdict dig anchors false bytes (No reason)
  IsAudit anchors bytes (Err NoMemory) = Unit {0}
  IsAudit anchors bytes result = (accepts : Accepts dig anchors bytes) × (result ≡ audit_answer anchors accepts.0)
