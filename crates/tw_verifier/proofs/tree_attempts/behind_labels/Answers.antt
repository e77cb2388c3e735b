use Rattle.std.proofs.Common.{List, ◌∙◌, ap}
use Rattle.tw_base.specs.declared.history.tree_proof.Ancestor.{Ancestor}
use Rattle.tw_base.specs.declared.history.tree_proof.TreeProof.TheVariants.{Present}
use Rattle.tw_verifier.specs.Stages.{behind_tree, nodes_of}
use Rattle.tw_verifier.proofs.tree_attempts.behind_labels.Goals as goal

pub returns : goal.returns
returns g c =
    c.along_tree.ensures
    ∙ ap (λ (up : List Ancestor). nodes_of g.H.Hasher.dig c.args.anchors.now (behind_tree g.H.Hasher.dig
    c.args.anchors.now c.args.asked) (Present c.args.head.1.0 c.args.head.1.1 up) c.args.head.0) c.new.ensures
