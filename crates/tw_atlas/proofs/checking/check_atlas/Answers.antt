use Rattle.std.proofs.Common.{◌≡◌, ◌∙◌, List, ap, sym}
use Rattle.tw_base.specs.declared.history.report.Hop.{Hop}
use Rattle.tw_atlas.specs.Checks.{atlas_passes}
use Rattle.tw_atlas.proofs.CheckLaws.{passes-decides}
use Rattle.tw_atlas.proofs.Leastness.{earliest}
use Rattle.tw_atlas.proofs.checking.check_atlas.Goals as goal

pub returns-clause-exact : goal.returns-clause-exact
returns-clause-exact c =
    let law = passes-decides c.args.hops.now (record { from = c.args.from.now; step = c.args.step }) c.args.atlas.now in
    let test : c.all_pass.result ≡ atlas_passes c.args.hops.now (record { from = c.args.from.now; step = c.args.step })
    c.args.atlas.now =
    c.all_pass.ensures ∙ ap (λ (hs : List Hop). atlas_passes hs (record { from = c.args.from.now; step = c.args.step })
    c.args.atlas.now) c.as_slice.ensures in
    ((λ passed. law.0 (sym test ∙ passed)), (λ is. test ∙ law.1 is))

pub returns-clause-earliest : goal.returns-clause-earliest
returns-clause-earliest c passed =
    earliest c.args.hops.now (record { from = c.args.from.now; step = c.args.step }) c.args.atlas.now
    ((returns-clause-exact c).0 passed)
