use Rattle.std.proofs.Common.{◌∙◌}
use Rattle.tw_chain.specs.Checks.Check.{PathOf}
use Rattle.tw_chain.specs.Checks.Upper.{Known}
use Rattle.tw_chain.proofs.FoundSteps.{found-one}
use Rattle.tw_chain.proofs.finding.with_path.Goals as goal

pub returns : goal.returns
returns g c = λ anchors.
    c.unless.ensures
    ∙ found-one g.H.Hasher.dig anchors c.args.found (PathOf c.args.part c.args.at.now (Known c.args.upper.now))
    c.reaches.result c.reaches.ensures
