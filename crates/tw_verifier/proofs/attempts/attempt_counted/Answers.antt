use Rattle.std.proofs.Common.{ℕ, refl, sym}
use Rattle.tw_base.specs.declared.kinds.limits.TheConstants.{MOST_HOPS}
use Rattle.tw_base.specs.format.Codecs.{number_codec}
use Rattle.tw_pieces.proofs.SegmentLaws.{attempts-ended, attempts-missed}
use Rattle.tw_verifier.specs.declared.stage.Stage.TheVariants.{Counted, Head}
use Rattle.tw_verifier.specs.Stages.{behind_second, event_stage, head_stage, rest}
use Rattle.tw_verifier.proofs.StageLaws.{counted-goes, hops-number, number-nothing}
use Rattle.tw_verifier.proofs.attempts.attempt_counted.Goals as goal

pub returns-in-Ok : goal.returns-in-Ok
returns-in-Ok c = λ dig anchors.
    attempts-ended (rest dig anchors) (number_codec 1 0 MOST_HOPS) (hops-number dig anchors)
    (λ (n : ℕ). head_stage 1 (event_stage (behind_second dig anchors n))) (number-nothing 0 MOST_HOPS) Counted
    c.behind_count.result c.args.held.now
    c.take_number.new.at c.in-Ok.hops refl (sym (c.behind_count.ensures dig anchors)) c.in-Ok.ensures.takes.0

pub returns-in-Err : goal.returns-in-Err
returns-in-Err c = λ dig anchors.
    attempts-missed (rest dig anchors) (number_codec 1 0 MOST_HOPS) (hops-number dig anchors)
    (λ (n : ℕ). head_stage 1 (event_stage (behind_second dig anchors n))) (λ n fits. counted-goes dig anchors n)
    (λ n. n) Counted
    c.args.held.now c.take_number.new.at c.in-Err.fault c.missed.result refl c.in-Err.ensures.takes c.missed.ensures
