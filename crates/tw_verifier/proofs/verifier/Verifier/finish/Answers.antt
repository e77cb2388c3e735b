use Rattle.std.proofs.Common.{ℕ, ◌∙◌, subst, ap, sym}
use Rattle.std.specs.Prelude.{Bool, Err}
use Rattle.tw_base.specs.declared.kinds.failure.ReadFault.{ReadFault}
use Rattle.tw_base.specs.declared.kinds.failure.ReadFault.TheVariants.{Malformed}
use Rattle.tw_base.specs.declared.history.report.Reason.TheVariants as reason
use Rattle.tw_base.specs.format.Formats.{ReadsAs}
use Rattle.tw_chain.specs.declared.verdict.Verdict.TheVariants.{No}
use Rattle.tw_verifier.specs.Judgements.{judged_layout, verdict_of}
use Rattle.tw_chain.specs.Reasons.{IsVerdict}
use Rattle.tw_chain.proofs.Headline.{verdict-binds}
use Rattle.tw_verifier.proofs.JudgedFronts.{judged-nothing, judged-place}
use Rattle.tw_verifier.proofs.Verdicts.{judged-verdict, malformed_bytes}
use Rattle.tw_verifier.proofs.verifier.Verifier.finish.Goals as goal

pub returns-in-Ok-clause-verdict : goal.returns-in-Ok-clause-verdict
returns-in-Ok-clause-verdict g c = λ anchors strict pieces is.
    judged-verdict g.H.Hasher.dig anchors strict pieces c.in-Ok.judgement c.verdict.result
    (c.in-Ok.ensures.whole (judged_layout g.H.Hasher.dig anchors) pieces is.fed)
    (λ few. c.verdict.ensures few ∙ ap (λ (form : Bool). verdict_of form c.in-Ok.judgement) is.form)

pub returns-in-Ok-clause-binds : goal.returns-in-Ok-clause-binds
returns-in-Ok-clause-binds g c = λ anchors strict pieces is.
    verdict-binds g.H.Hasher.dig g.met.H.Hasher.size g.met.H.Hasher.bytes anchors strict pieces c.verdict.result
    (returns-in-Ok-clause-verdict g c anchors strict pieces is)

pub returns-in-Err-Malformed-clause-verdict : goal.returns-in-Err-Malformed-clause-verdict
returns-in-Err-Malformed-clause-verdict g c = λ anchors strict pieces is.
    let layout = judged_layout g.H.Hasher.dig anchors in
    let Reads : ReadFault → Type 0 = λ fault. ReadsAs (λ x. x) layout pieces (Err fault) in
    let read : Reads (Malformed c.in-Err-Malformed.place) = subst Reads c.in-Err-Malformed.field-0-is
    (c.in-Err-Malformed.ensures.whole layout pieces is.fed) in
    let verdict = malformed_bytes g.H.Hasher.dig anchors strict pieces c.in-Err-Malformed.place
    (judged-nothing g.H.Hasher.dig anchors pieces read.0)
    (judged-place g.H.Hasher.dig anchors pieces c.in-Err-Malformed.place read.1) in
    subst (λ (place : ℕ). IsVerdict g.H.Hasher.dig anchors strict pieces (No (reason.Malformed place)))
    (sym c.in-Err-Malformed.place-is) verdict
