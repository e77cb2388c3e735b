-- What the answers of an audit mean, of sound histories and of the proof that was held against them. At most one kind of answer is so
-- of given histories and a proof: so each kind comes exactly where it is.
use Rattle.std.specs.Prelude.{◌≡◌, ℕ, List, ◌∷◌, ◌++◌, false, Option, Some, Result, Ok, Err}
use Rattle.tw_base.specs.declared.history.report.Report.{Report}
use Rattle.tw_base.specs.declared.history.thread.Thread.{Thread}
use Rattle.tw_base.specs.history.Facts.{Facts, TimesRise}
use Rattle.tw_base.specs.history.Family.{HasThread, HasThreads}
use Rattle.tw_base.specs.history.History.{History}
use Rattle.tw_base.specs.kinds.Clash.{Clash as Clashing, clash_pair}
use Rattle.tw_chain.specs.declared.proof.Proof.{Proof}
use Rattle.tw_chain.specs.Accepting.{IsAccepted, held, report_of}
use Rattle.tw_chain.specs.Reasons.{StandsAgainst}
use Rattle.tw_audit.specs.declared.finding.AuditFault.{AuditFault}
use Rattle.tw_audit.specs.declared.finding.AuditFault.TheVariants.{NotHeld, NoMemory}
use Rattle.tw_audit.specs.declared.finding.Finding.{Finding}
use Rattle.tw_audit.specs.declared.finding.Finding.TheVariants.{Stands, Clash, NotAccepted}
use Rattle.tw_audit.specs.Auditing.{audited_texts, auth_in}

-- two texts that differ, both among these and of bytes, and their one digest: the first text that clashes with an earlier one, and the
-- earliest with which it does
pub record IsClashPair (dig : List ℕ → List ℕ) (texts : List (List ℕ)) (one other digest : List ℕ) : Type 0 where
  pub first : clash_pair dig texts ≡ Some (record { one = one; other = other })
  pub clash : (c : Clashing dig texts) × (c.one ≡ one) × (c.other ≡ other)
  pub digests : (dig one ≡ digest) × (dig other ≡ digest)

module _ (dig : List ℕ → List ℕ) (family : List History) (anchors : List Thread) (p : Proof) where
  -- the proof is accepted, the histories have the threads held, no two of their texts and the proof's clash, and what the
  -- proof's report claims is so of them, by the report's own hops; where it has no hops the times rise
  pub record ReportHolds (report : Report) : Type 0 where
    pub accepted : IsAccepted dig anchors p
    pub is_report : report ≡ report_of p
    pub has_held : HasThreads dig family (held anchors p)
    pub no_clash : Clashing dig (audited_texts dig family p) → ⊥
    pub facts : Facts dig family report.hops report.claim
    pub times : TimesRise report.hops report.claim

  -- the proof is accepted, the histories have the threads held, and of their texts and the proof's these are the pair that clashes
  pub record TextsClash (one other digest : List ℕ) : Type 0 where
    pub accepted : IsAccepted dig anchors p
    pub has_held : HasThreads dig family (held anchors p)
    pub pair : IsClashPair dig (audited_texts dig family p) one other digest

  -- the proof is accepted, and of the threads held this is the first that the histories don't have; they have this authenticator
  -- at its step, or none
  pub record ThreadMissing (t : Thread) (found : Option (List ℕ)) : Type 0 where
    pub accepted : IsAccepted dig anchors p
    pub first : (before after : List Thread) × (held anchors p ≡ before ++ t ∷ after) × HasThreads dig family before
    pub missing : HasThread dig family t → ⊥
    pub is_found : found ≡ auth_in dig family t

  abbrev pub AnswerMeans : Result Finding AuditFault → Type 0
  AnswerMeans (Ok (Stands report)) = ReportHolds report
  AnswerMeans (Ok (Clash one other digest)) = TextsClash one other digest
  AnswerMeans (Ok (NotAccepted reason)) = (IsAccepted dig anchors p → ⊥) × StandsAgainst dig anchors false p reason
  AnswerMeans (Err (NotHeld t found)) = ThreadMissing t found
  AnswerMeans (Err NoMemory) = Unit {0}

-- want of memory, or the pair of these texts that clashes, which the answer tells with its digest
abbrev pub TellsClash : (dig : List ℕ → List ℕ) (texts : List (List ℕ)) → Result Finding AuditFault → Type 0
TellsClash dig texts (Ok (Clash one other digest)) = IsClashPair dig texts one other digest
TellsClash dig texts (Err NoMemory) = Unit {0}
TellsClash dig texts _ = ⊥
