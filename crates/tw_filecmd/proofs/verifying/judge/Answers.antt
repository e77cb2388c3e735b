use Rattle.tw_filecmd.proofs.Judging.{judged_by}
use Rattle.tw_filecmd.proofs.verifying.judge.Goals as goal

pub returns : goal.returns
returns g c =
    let far = c.in_ok-verifier.ensures.fed in
    judged_by (g.I.Inputs.told c.args.inputs.now) c.args.proof.now c.args.anchors.now c.args.strict
    c.in_ok-verifier.verifier c.in_ok-finish.field-0
    c.in_ok-verifier.ensures.there far (c.in_ok-finish.ensures.verdict c.args.anchors.now c.args.strict far.front
    far.fed)
    (c.in_ok-finish.ensures.binds c.args.anchors.now c.args.strict far.front far.fed)
