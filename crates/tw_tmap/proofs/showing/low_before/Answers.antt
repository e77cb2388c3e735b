use Rattle.std.proofs.Common.{◌∙◌}
use Rattle.tw_chain.specs.Checks.{Check, under_anchor}
use Rattle.tw_chain.specs.Checks.Check.{AnswerOf}
use Rattle.tw_tmap.specs.declared.map_file.LowFile.{LowFile}
use Rattle.tw_tmap.specs.declared.map_file.LowPart.{LowPart}
use Rattle.tw_tmap.specs.Checking.{low_ask, low_file_part}
use Rattle.tw_tmap.proofs.MapChecks.{found-failing, found-passing}
use Rattle.tw_tmap.proofs.showing.low_before.Goals as goal

abbrev answer : LowFile → LowPart → Check
answer f p = AnswerOf 0 p.opening.archive_root (low_ask f) p.shown

pub returns-in-Some-clause-found : goal.returns-in-Some-clause-found
returns-in-Some-clause-found g c =
    found-passing g.H.Hasher.dig c.args.anchors.now c.low_under-found.result
    (under_anchor 0 (low_file_part c.args.low.now c.args.part.now)) (answer c.args.low.now c.args.part.now)
    c.low_under-found.ensures c.in-Some.ensures.0

pub returns-in-None-clause-found : goal.returns-in-None-clause-found
returns-in-None-clause-found g c =
    c.lower.ensures
    ∙ found-failing g.H.Hasher.dig c.args.anchors.now c.low_under-found.result
    (under_anchor 0 (low_file_part c.args.low.now c.args.part.now)) (answer c.args.low.now c.args.part.now)
    c.low_under-found.ensures c.in-None.ensures
