use Rattle.std.proofs.Common.{◌∙◌, subst, sym}
use Rattle.tw_outside.specs.Asked.{asked}
use Rattle.tw_reachcmd.specs.Anchors.{AreAnchorsOf}
use Rattle.tw_reachcmd.proofs.EvidenceFiles.{anchors_held, fork_judged, refuses_anchors}
use Rattle.tw_reachcmd.proofs.check_fork.check_fork_files.Goals as goal

pub returns : goal.returns
returns g c =
    let read = c.in_ok-lines.ensures in
    refuses_anchors (asked (g.I.Inputs.told c.args.inputs.now) (g.I.Inputs.faults c.args.inputs.now)
    (g.I.Inputs.faults c.read_both.new.inputs))
    c.args.file.now c.args.anchors.now c.as_slice.result.now c.in-Err.fault read.second_there read.first_there
    (λ bytes tells. c.as_slice.ensures.value ∙ read.first_read bytes tells) c.in-Err.ensures.bad

pub returns-in-Ok : goal.returns-in-Ok
returns-in-Ok g c =
    let told = g.I.Inputs.told c.args.inputs.now in
    let read = c.in_ok-lines.ensures in
    let judged = c.in_ok-check_evidence-in-Ok in (
      c.as_slice-in-Ok-2.result.now,
      anchors_held told c.args.anchors.now c.as_slice.result.now read.first_there
          (λ bytes tells. c.as_slice.ensures.value ∙ read.first_read bytes tells)
          c.as_slice-in-Ok-2.result.now (subst (AreAnchorsOf c.as_slice.result.now) (sym c.as_slice-in-Ok-2.ensures)
          c.in-Ok.ensures.anchors),
      fork_judged told c.args.file.now c.as_slice-in-Ok.result.now read.second_there
          (λ bytes tells. c.as_slice-in-Ok.ensures.value ∙ read.second_read bytes tells)
          c.as_slice-in-Ok-2.result.now judged.field-0 judged.ensures.verdict judged.ensures.binds,
    )
