use Rattle.std.proofs.Common.{◌≡◌, List, ℕ, subst}
use Rattle.std.specs.Prelude.{Result}
use Rattle.tw_audit.specs.Auditing.{IsAudit}
use Rattle.tw_audit.specs.declared.finding.AuditFault.{AuditFault}
use Rattle.tw_audit.specs.declared.finding.Finding.{Finding}
use Rattle.tw_base.specs.declared.history.thread.Thread.{Thread}
use Rattle.tw_base.specs.history.History.{History}
use Rattle.tw_generate.proofs.Results.{if-ok}
use Rattle.tw_generate.proofs.judging.stands.Goals as goal

same_audit : (dig : List ℕ → List ℕ) (fam other : List History) (heads anchors : List Thread) (proof bytes : List ℕ)
    (result : Result Finding AuditFault) → fam ≡ other → heads ≡ anchors → proof ≡ bytes
    → IsAudit dig fam heads proof result → IsAudit dig other anchors bytes result
same_audit dig fam other heads anchors proof bytes result one two three is =
    subst (λ (b : List ℕ). IsAudit dig other anchors b result) three
    (subst (λ (hs : List Thread). IsAudit dig other hs proof result) two
    (subst (λ (f : List History). IsAudit dig f heads proof result) one is))

pub returns : goal.returns
returns g c =
    let dig = g.H.Hasher.dig in
    if-ok c.stands_told.result (λ stands told.
    let audited = same_audit dig _ c.args.histories.now _ c.args.heads.now _ c.args.proof.now c.audit.result
    c.as_slice-3.ensures c.as_slice-2.ensures c.as_slice.ensures c.audit.ensures.answer in (
      told.0,
      subst (λ (r : Result Finding AuditFault). IsAudit dig c.args.histories.now c.args.heads.now c.args.proof.now r)
          told.1 audited,
      told.2,
    )) c.stands_told.ensures.stands

pub stands_told-requires : goal.stands_told-requires
stands_told-requires g c =
    c.requires c.audit.result (same_audit g.H.Hasher.dig _ c.args.histories.now _ c.args.heads.now _ c.args.proof.now
    c.audit.result c.as_slice-3.ensures c.as_slice-2.ensures c.as_slice.ensures c.audit.ensures.answer)
