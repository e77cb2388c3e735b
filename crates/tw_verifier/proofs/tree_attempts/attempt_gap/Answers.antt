use Rattle.std.proofs.Common.{ℕ, List, [], ◌∙◌, refl, sym, ap}
use Rattle.tw_base.specs.declared.history.tree_proof.Ancestor.{Ancestor}
use Rattle.tw_base.specs.declared.history.tree_proof.TreeProof.TheVariants.{Gap}
use Rattle.tw_pieces.proofs.SegmentLaws.{attempts-ended, attempts-missed}
use Rattle.tw_verifier.specs.declared.stage.Stage.TheVariants.{Tree}
use Rattle.tw_verifier.specs.Stages.{behind_tree, gap_head, nodes_of, rest}
use Rattle.tw_verifier.proofs.StageForms.{gap-flat}
use Rattle.tw_verifier.proofs.StageLaws.{gap-head-lawful, gap-head-nothing, nodes-goes, tree-goes}
use Rattle.tw_verifier.proofs.tree_attempts.attempt_gap.Goals as goal

pub returns-in-Ok : goal.returns-in-Ok
unfolding gap_head
returns-in-Ok g c =
    let next = behind_tree g.H.Hasher.dig c.args.anchors.now c.args.asked in
    attempts-ended (rest g.H.Hasher.dig c.args.anchors.now) gap_head gap-head-lawful
    (λ (n : ℕ). nodes_of g.H.Hasher.dig c.args.anchors.now next (Gap []) n) gap-head-nothing
    (Tree c.args.asked) c.along_tree.result c.args.held.now c.take_number.new.at c.in-Ok.more
    (c.requires ∙ gap-flat next)
    (sym (c.along_tree.ensures ∙ ap (λ (up : List Ancestor). nodes_of g.H.Hasher.dig c.args.anchors.now next (Gap up)
    c.in-Ok.more) c.new.ensures)) c.in-Ok.ensures.takes.0

pub returns-in-Err : goal.returns-in-Err
unfolding gap_head
returns-in-Err g c =
    let next = behind_tree g.H.Hasher.dig c.args.anchors.now c.args.asked in
    attempts-missed (rest g.H.Hasher.dig c.args.anchors.now) gap_head gap-head-lawful
    (λ (n : ℕ). nodes_of g.H.Hasher.dig c.args.anchors.now next (Gap []) n)
    (λ n fits. nodes-goes g.H.Hasher.dig c.args.anchors.now next (tree-goes g.H.Hasher.dig c.args.anchors.now
    c.args.asked) (Gap []) n)
    (λ n. n) (Tree c.args.asked) c.args.held.now c.take_number.new.at c.in-Err.fault c.missed.result
    (c.requires ∙ gap-flat next) c.in-Err.ensures.takes c.missed.ensures
