use Rattle.std.proofs.Common.{List, [], ◌∷◌, ◌++◌, ◌∙◌}
use Rattle.std.specs.Prelude.{None}
use Rattle.tw_chain.specs.Checks.{Check, under_anchor}
use Rattle.tw_chain.specs.Checks.Check.{AnswerOf}
use Rattle.tw_chain.proofs.FoundSteps.{found-onto}
use Rattle.tw_contradict.specs.ArchiveFiles.{order_checks}
use Rattle.tw_contradict.proofs.judging.found_of.Goals as goal

pub returns : goal.returns
returns g c =
    let order : List Check = order_checks c.args.proof.now.ask c.args.proof.now.at.step in
    let answer : Check = AnswerOf 0 c.args.proof.now.at.opening.archive_root c.args.proof.now.ask c.args.proof.now.shown
    in
    c.with_answer.ensures c.args.anchors.now
    ∙ found-onto g.H.Hasher.dig c.args.anchors.now c.under_anchor-found.result c.with_own_order-found.result order
    (answer ∷ [])
    (c.with_own_order-found.ensures g.H.Hasher.dig c.args.anchors.now)
    ∙ found-onto g.H.Hasher.dig c.args.anchors.now None c.under_anchor-found.result (under_anchor 0 c.args.proof.now.at)
    (order ++ answer ∷ [])
    c.under_anchor-found.ensures
