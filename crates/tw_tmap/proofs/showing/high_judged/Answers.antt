use Rattle.std.proofs.Common.{◌∙◌}
use Rattle.tw_chain.specs.Checks.{Check, under_anchor}
use Rattle.tw_chain.specs.Checks.Check.{AnswerOf}
use Rattle.tw_tmap.specs.declared.map_file.HighFile.{HighFile}
use Rattle.tw_tmap.specs.Checking.{high_ask, high_part}
use Rattle.tw_tmap.proofs.MapChecks.{found-failing, found-passing}
use Rattle.tw_tmap.proofs.showing.high_judged.Goals as goal

abbrev answer : HighFile → Check
answer f = AnswerOf 1 f.opening.archive_root (high_ask f) f.shown

pub returns-in-Some-clause-found : goal.returns-in-Some-clause-found
returns-in-Some-clause-found g c =
    found-passing g.H.Hasher.dig c.args.anchors.now c.high_under-found.result
    (under_anchor 1 (high_part c.args.high.now)) (answer c.args.high.now)
    c.high_under-found.ensures c.in-Some.ensures.0

pub returns-in-None-clause-found : goal.returns-in-None-clause-found
returns-in-None-clause-found g c =
    c.lower.ensures
    ∙ found-failing g.H.Hasher.dig c.args.anchors.now c.high_under-found.result
    (under_anchor 1 (high_part c.args.high.now)) (answer c.args.high.now)
    c.high_under-found.ensures c.in-None.ensures
