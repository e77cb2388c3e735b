use Rattle.std.proofs.Common.{[], ◌∷◌, ◌∙◌}
use Rattle.std.specs.Prelude.{None}
use Rattle.tw_base.specs.declared.history.tree_proof.Ask.TheVariants.{Absent}
use Rattle.tw_chain.specs.Checks.{Check, under_anchor}
use Rattle.tw_chain.specs.Checks.Check.{AnswerOf}
use Rattle.tw_chain.proofs.FoundSteps.{found-onto}
use Rattle.tw_verifier.proofs.judgement.found_of_absence.Goals as goal

pub returns : goal.returns
returns g c =
    let answer : Check = AnswerOf 0 c.args.proof.now.at.opening.archive_root (Absent c.args.proof.now.key)
    c.args.proof.now.shown in
    c.with_answer.ensures c.args.anchors.now
    ∙ found-onto g.H.Hasher.dig c.args.anchors.now None c.under_anchor-found.result (under_anchor 0 c.args.proof.now.at)
    (answer ∷ []) c.under_anchor-found.ensures
