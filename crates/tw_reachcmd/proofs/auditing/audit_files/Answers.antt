use Rattle.std.proofs.Common.{◌∙◌, Err, ap, subst, sym}
use Rattle.tw_base.specs.kinds.Lists.{Each}
use Rattle.tw_base.proofs.lemmas.kinds.ListLemmas.{Each-map}
use Rattle.tw_outside.specs.Asked.{asked}
use Rattle.tw_outside.specs.Files.{IsThere}
use Rattle.tw_outside.proofs.Counting.{Rose-earlier}
use Rattle.tw_reachcmd.specs.Anchors.{AreAnchorsOf}
use Rattle.tw_reachcmd.proofs.AuditFiles.{audit_failed, audits_since, refuses_line}
use Rattle.tw_reachcmd.proofs.EvidenceFiles.{anchors_held}
use Rattle.tw_reachcmd.proofs.auditing.audit_files.Goals as goal

pub returns-in-Ok : goal.returns-in-Ok
returns-in-Ok g c =
    let told = g.I.Inputs.told c.args.inputs.now in
    let lines = c.in_ok-lines.ensures in
    let held = c.as_slice-in-Ok.result.now in
    audits_since told (g.I.Inputs.told c.read_all.new.inputs) (g.I.Inputs.faults c.args.inputs.now)
    (g.I.Inputs.faults c.read_all.new.inputs)
    (g.I.Inputs.faults c.audit_under.new.inputs) c.args.proof.now c.args.anchors.now held c.args.histories.now
    c.audit_under.result lines.kept lines.later
    (anchors_held told c.args.anchors.now c.as_slice.result.now lines.there (λ bytes tells. c.as_slice.ensures.value
    ∙ lines.read bytes tells)
    held (subst (AreAnchorsOf c.as_slice.result.now) (sym c.as_slice-in-Ok.ensures) c.in-Ok.ensures.anchors))
    c.audit_under.ensures

pub returns-in-Ok-read_rest : goal.returns-in-Ok-read_rest
returns-in-Ok-read_rest g c =
    let told = g.I.Inputs.told c.args.inputs.now in
    let lines = c.in_ok-lines.ensures in
    refuses_line (asked told (g.I.Inputs.faults c.args.inputs.now) (g.I.Inputs.faults c.read_rest.new.inputs))
    c.args.proof.now c.args.anchors.now
    c.as_slice.result.now c.args.histories.now c.in-Err.fault (subst (λ t. IsThere t c.args.proof.now) lines.kept
    c.in-Ok-read_rest.ensures.proof_there)
    lines.there (λ bytes tells. c.as_slice.ensures.value ∙ lines.read bytes tells)
    (subst (λ t. Each (IsThere t) c.args.histories.now) lines.kept c.in-Ok-read_rest.ensures.histories_there)
    c.in-Err.ensures.bad

pub returns : goal.returns
returns g c =
    audit_failed (asked (g.I.Inputs.told c.args.inputs.now) (g.I.Inputs.faults c.args.inputs.now)
    (g.I.Inputs.faults c.read_rest.new.inputs))
    c.args.proof.now c.args.anchors.now c.args.histories.now c.in-Err-read_rest.failed c.into.result
    (λ is. Rose-earlier (g.I.Inputs.faults c.args.inputs.now) (g.I.Inputs.faults c.read_all.new.inputs)
    (g.I.Inputs.faults c.read_rest.new.inputs)
    c.in_ok-lines.ensures.later (c.in-Err-read_rest.ensures.failed (ap Err is))) c.into.ensures

pub audit_under-requires-clause-histories : goal.audit_under-requires-clause-histories
audit_under-requires-clause-histories g c =
    Each-map (g.I.Inputs.may_ask c.args.inputs.now) (g.I.Inputs.may_ask c.read_all.new.inputs) c.args.histories.now
    (λ other may. (c.read_all.ensures.same_names other).1 may) c.requires.histories

pub read_rest-requires-clause-histories : goal.read_rest-requires-clause-histories
read_rest-requires-clause-histories g c =
    Each-map (g.I.Inputs.may_ask c.args.inputs.now) (g.I.Inputs.may_ask c.read_all.new.inputs) c.args.histories.now
    (λ other may. (c.read_all.ensures.same_names other).1 may) c.requires.histories
