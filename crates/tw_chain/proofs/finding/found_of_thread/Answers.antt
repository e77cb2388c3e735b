use Rattle.std.proofs.Common.{List, [], ◌∷◌, ◌∙◌}
use Rattle.std.specs.Prelude.{None}
use Rattle.tw_base.specs.declared.history.tree_proof.Ask.TheVariants.{Present}
use Rattle.tw_chain.specs.Checks.{Check, under_anchor}
use Rattle.tw_chain.specs.Checks.Check.{AnswerOf, InOrder}
use Rattle.tw_chain.proofs.FoundSteps.{found-onto}
use Rattle.tw_chain.proofs.finding.found_of_thread.Goals as goal

pub returns : goal.returns
returns g c =
    let order : List Check = InOrder c.args.proof.now.entry.archived c.args.proof.now.at.step ∷ [] in
    let answer : Check = AnswerOf 0 c.args.proof.now.at.opening.archive_root (Present c.args.proof.now.entry)
    c.args.proof.now.shown in
    c.with_answer.ensures c.args.anchors.now
    ∙ found-onto g.H.Hasher.dig c.args.anchors.now c.under_anchor-found.result c.with_order-found.result order
    (answer ∷ [])
    (c.with_order-found.ensures g.H.Hasher.dig c.args.anchors.now)
    ∙ found-onto g.H.Hasher.dig c.args.anchors.now None c.under_anchor-found.result (under_anchor 0 c.args.proof.now.at)
    (InOrder c.args.proof.now.entry.archived c.args.proof.now.at.step ∷ answer ∷ []) c.under_anchor-found.ensures
