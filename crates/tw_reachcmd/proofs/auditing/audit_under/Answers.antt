use Rattle.std.proofs.Common.{Err, ap, subst}
use Rattle.tw_base.specs.kinds.Lists.{Each}
use Rattle.tw_base.proofs.lemmas.kinds.ListLemmas.{Each-map}
use Rattle.tw_outside.specs.Asked.{asked}
use Rattle.tw_outside.specs.Files.{IsThere}
use Rattle.tw_outside.proofs.Counting.{Rose-earlier}
use Rattle.tw_reachcmd.specs.Reading.{AreHistoriesRead}
use Rattle.tw_reachcmd.proofs.AuditFiles.{under_failed, under_of}
use Rattle.tw_reachcmd.proofs.auditing.audit_under.Goals as goal

pub returns-in-Ok : goal.returns-in-Ok
returns-in-Ok g c =
    let judged = c.in_ok-judged in
    under_of (asked (g.I.Inputs.told c.args.inputs.now) (g.I.Inputs.faults c.args.inputs.now)
    (g.I.Inputs.faults c.read_family.new.inputs))
    c.args.proof.now c.args.anchors.now c.args.histories.now judged.judged.bytes.items c.in-Ok.family
    c.audit_read.result judged.ensures.there
    judged.ensures.front (subst (λ t. Each (IsThere t) c.args.histories.now) judged.ensures.kept c.in-Ok.ensures.there)
    (subst (λ t. AreHistoriesRead t c.args.histories.now c.in-Ok.family) judged.ensures.kept c.in-Ok.ensures.read)
    c.audit_read.ensures

pub returns-in-Err : goal.returns-in-Err
returns-in-Err g c =
    under_failed (asked (g.I.Inputs.told c.args.inputs.now) (g.I.Inputs.faults c.args.inputs.now)
    (g.I.Inputs.faults c.read_family.new.inputs))
    c.args.proof.now c.args.anchors.now c.args.histories.now c.in-Err.fault c.into.result
    (λ is. Rose-earlier (g.I.Inputs.faults c.args.inputs.now) (g.I.Inputs.faults c.judge_front.new.inputs)
    (g.I.Inputs.faults c.read_family.new.inputs)
    c.in_ok-judged.ensures.later (c.in-Err.ensures.failed (ap Err is))) c.into.ensures

pub read_family-requires : goal.read_family-requires
read_family-requires g c =
    Each-map (g.I.Inputs.may_ask c.args.inputs.now) (g.I.Inputs.may_ask c.judge_front.new.inputs) c.args.histories.now
    (λ other may. (c.judge_front.ensures.same_names other).1 may) c.requires.histories
