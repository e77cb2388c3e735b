use Rattle.std.proofs.Common.{◌∙◌, sym, arith}
use Rattle.tw_verifier.specs.Stages.{behind_tree}
use Rattle.tw_verifier.proofs.StageForms.{nodes-more, nodes-none}
use Rattle.tw_verifier.proofs.following.along_tree.Goals as goal

pub returns-then-more-gt0 : goal.returns-then-more-gt0
returns-then-more-gt0 g c =
    sym (nodes-more g.H.Hasher.dig c.args.anchors.now (behind_tree g.H.Hasher.dig c.args.anchors.now c.args.asked)
    c.args.shown c.args.more (omega (arith, c.if-more-gt0.true)))

pub returns : goal.returns
returns g c =
    c.behind_tree.ensures
    ∙ sym (nodes-none g.H.Hasher.dig c.args.anchors.now (behind_tree g.H.Hasher.dig c.args.anchors.now c.args.asked)
    c.args.shown c.args.more (omega (arith, c.if-more-gt0.false)))
