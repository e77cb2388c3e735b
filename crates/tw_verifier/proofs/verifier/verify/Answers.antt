use Rattle.std.proofs.Common.{ℕ, subst, sym}
use Rattle.std.specs.Prelude.{Err}
use Rattle.tw_base.specs.declared.history.report.Reason.TheVariants as reason
use Rattle.tw_base.specs.declared.kinds.failure.ReadFault.{ReadFault}
use Rattle.tw_base.specs.declared.kinds.failure.ReadFault.TheVariants.{Malformed}
use Rattle.tw_base.specs.format.Formats.{ReadsAs, Spells}
use Rattle.tw_base.proofs.lemmas.format.CodecLaws.{spelled-fits}
use Rattle.tw_chain.specs.declared.verdict.Verdict.TheVariants.{No}
use Rattle.tw_chain.specs.Proofs.{proof_codec, proof_layout}
use Rattle.tw_chain.specs.Reasons.{IsVerdict}
use Rattle.tw_chain.proofs.Headline.{verdict-binds}
use Rattle.tw_chain.proofs.ProofCodec.{proof-lawful}
use Rattle.tw_verifier.specs.Judgements.{judged_layout}
use Rattle.tw_verifier.proofs.JudgedFronts.{word-judged}
use Rattle.tw_verifier.proofs.Verdicts.{judged-verdict, malformed_bytes}
use Rattle.tw_verifier.proofs.verifier.verify.Goals as goal

pub judge_proof-requires : goal.judge_proof-requires
judge_proof-requires g c = spelled-fits proof_codec proof-lawful c.args.bytes.now c.in-Ok.proof c.in-Ok.ensures

pub returns-in_ok-judgement-in-Ok-clause-verdict : goal.returns-in_ok-judgement-in-Ok-clause-verdict
returns-in_ok-judgement-in-Ok-clause-verdict g c =
    let dig = g.H.Hasher.dig in
    let anchors = c.args.anchors.now in
    let bytes = c.args.bytes.now in
    let word = word-judged dig anchors bytes c.in-Ok.proof c.in-Ok.ensures in
    judged-verdict dig anchors c.args.strict bytes c.in_ok-judgement-in-Ok.judgement c.verdict.result
    (subst (Spells (judged_layout dig anchors) bytes) (sym c.in_ok-judgement-in-Ok.ensures) word) c.verdict.ensures

pub returns-in_ok-judgement-in-Ok-clause-binds : goal.returns-in_ok-judgement-in-Ok-clause-binds
returns-in_ok-judgement-in-Ok-clause-binds g c =
    verdict-binds g.H.Hasher.dig g.met.H.Hasher.size g.met.H.Hasher.bytes c.args.anchors.now c.args.strict
    c.args.bytes.now c.verdict.result (returns-in_ok-judgement-in-Ok-clause-verdict g c)

pub returns-in-Err-Malformed-clause-verdict : goal.returns-in-Err-Malformed-clause-verdict
returns-in-Err-Malformed-clause-verdict g c =
    let dig = g.H.Hasher.dig in
    let anchors = c.args.anchors.now in
    let bytes = c.args.bytes.now in
    let Reads : ReadFault → Type 0 = λ fault. ReadsAs (λ p. p) proof_layout bytes (Err fault) in
    let read : Reads (Malformed c.in-Err-Malformed.place) = subst Reads c.in-Err-Malformed.field-0-is
    c.in-Err-Malformed.ensures in
    let verdict = malformed_bytes dig anchors c.args.strict bytes c.in-Err-Malformed.place read.0 read.1 in
    subst (λ (place : ℕ). IsVerdict dig anchors c.args.strict bytes (No (reason.Malformed place)))
    (sym c.in-Err-Malformed.place-is) verdict
