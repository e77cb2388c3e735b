use Rattle.std.proofs.Common.{◌∙◌}
use Rattle.tw_base.specs.declared.history.tree_proof.Ask.TheVariants.{Present}
use Rattle.tw_chain.specs.Checks.{bind_checks, opening_checks, opening_root}
use Rattle.tw_chain.specs.Checks.Check.{AnswerOf, InOrder}
use Rattle.tw_chain.proofs.FoundSteps.{found-four}
use Rattle.tw_verifier.proofs.chain.with_hop_checks.Goals as goal

pub returns : goal.returns
returns g c =
    c.with_opening.ensures c.args.anchors.now
    ∙ found-four g.H.Hasher.dig c.args.anchors.now c.args.found c.with_order-found.result c.with_entry-found.result
    c.with_bind-found.result
    (InOrder c.args.hop.now.entry.archived c.args.step) (AnswerOf c.args.part (opening_root c.args.opening.now)
    (Present c.args.hop.now.entry) c.args.hop.now.shown)
    (bind_checks c.args.part c.args.hop.now) (opening_checks c.args.part c.args.hop.now.entry.thread
    c.args.hop.now.opening)
    (c.with_order-found.ensures g.H.Hasher.dig c.args.anchors.now) (c.with_entry-found.ensures c.args.anchors.now)
    c.with_bind-found.ensures
