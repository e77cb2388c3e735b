use Rattle.std.proofs.Common.{refl, sym}
use Rattle.tw_pieces.proofs.SegmentLaws.{attempts-ended, attempts-missed}
use Rattle.tw_verifier.specs.declared.stage.Stage.TheVariants.{Begun}
use Rattle.tw_verifier.specs.Stages.{behind_kind, kind_head, rest}
use Rattle.tw_verifier.proofs.StageLaws.{kind-goes, kind-lawful, kind-nothing}
use Rattle.tw_verifier.proofs.attempts.attempt_begun.Goals as goal

pub returns-in-Ok : goal.returns-in-Ok
returns-in-Ok c = λ dig anchors.
    attempts-ended (rest dig anchors) kind_head kind-lawful (behind_kind dig anchors) kind-nothing Begun
    c.behind_kind.result c.args.held.now c.take_kind_head.new.at c.in-Ok.kind refl
    (sym (c.behind_kind.ensures dig anchors)) c.in-Ok.ensures.0

pub returns-in-Err : goal.returns-in-Err
returns-in-Err c = λ dig anchors.
    attempts-missed (rest dig anchors) kind_head kind-lawful (behind_kind dig anchors)
    (λ kind fits. kind-goes dig anchors kind) (λ kind. kind) Begun c.args.held.now c.take_kind_head.new.at
    c.in-Err.fault c.missed.result refl c.in-Err.ensures c.missed.ensures
