use Rattle.std.proofs.Common.{sym, ◌∙◌}
use Rattle.tw_base.specs.declared.history.thread.Key.{Key}
use Rattle.tw_tmap.proofs.MapChecks.{anchor-held, anchor-missing}
use Rattle.tw_tmap.proofs.finding.with_anchor.Goals as goal

pub returns-in-None : goal.returns-in-None
returns-in-None c = λ dig.
    let key : Key = record { from = c.args.service.now; step = c.args.step } in
    c.lower.ensures ∙ anchor-missing dig c.args.anchors.now c.args.found key (sym c.find_anchor.ensures ∙ c.in-None.is)

pub returns-in-Some : goal.returns-in-Some
returns-in-Some c = λ dig.
    let key : Key = record { from = c.args.service.now; step = c.args.step } in
    anchor-held dig c.args.anchors.now c.args.found key _ (sym c.find_anchor.ensures ∙ c.in-Some.is)
