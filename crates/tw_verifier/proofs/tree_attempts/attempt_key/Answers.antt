use Rattle.std.proofs.Common.{refl}
use Rattle.tw_base.specs.declared.history.thread.Key.{Key as AnyKey}
use Rattle.tw_pieces.proofs.SegmentLaws.{attempts-ended, attempts-missed}
use Rattle.tw_verifier.specs.declared.stage.Asked.TheVariants.{Absent}
use Rattle.tw_verifier.specs.declared.stage.Stage.TheVariants.{Key, Tree}
use Rattle.tw_chain.specs.Proofs.{key_codec}
use Rattle.tw_verifier.specs.Stages.{behind_absent, rest}
use Rattle.tw_chain.proofs.ProofCodec.{key-lawful}
use Rattle.tw_verifier.proofs.StageLaws.{absent-goes, key-nothing}
use Rattle.tw_verifier.proofs.tree_attempts.attempt_key.Goals as goal

pub returns-in-Ok : goal.returns-in-Ok
returns-in-Ok c = λ dig anchors.
    attempts-ended (rest dig anchors) key_codec key-lawful (behind_absent dig anchors c.args.reached.part) key-nothing
    (Key c.args.reached) (Tree (Absent c.args.reached c.in-Ok.key)) c.args.held.now
    c.take_key.new.at c.in-Ok.key refl refl c.in-Ok.ensures.0

pub returns-in-Err : goal.returns-in-Err
returns-in-Err c = λ dig anchors.
    attempts-missed (rest dig anchors) key_codec key-lawful (behind_absent dig anchors c.args.reached.part)
    (λ key fits. absent-goes dig anchors c.args.reached.part key) (λ (k : AnyKey). k)
    (Key c.args.reached) c.args.held.now c.take_key.new.at c.in-Err.fault c.missed.result refl c.in-Err.ensures
    c.missed.ensures
