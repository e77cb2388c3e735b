use Rattle.std.proofs.Common.{ℕ, refl, sym}
use Rattle.tw_pieces.proofs.SegmentLaws.{attempts-ended, attempts-missed}
use Rattle.tw_skipproof.specs.Codecs.{step_number_codec}
use Rattle.tw_verifier.specs.declared.stage.Stage.TheVariants.{Tail}
use Rattle.tw_verifier.specs.Stages.{behind_first, event_stage, part_stage, rest}
use Rattle.tw_verifier.proofs.StageLaws.{first-goes, step-lawful, step-nothing}
use Rattle.tw_base.specs.declared.kinds.limits.TheConstants.{LAST_STEP}
use Rattle.tw_verifier.proofs.tree_attempts.attempt_tail.Goals as goal

pub returns-in_ok-next-in-Ok : goal.returns-in_ok-next-in-Ok
returns-in_ok-next-in-Ok g c =
    let chain = c.args.onward.chain.value in
    let step : ℕ = c.in-Ok.step in
    attempts-ended (rest g.H.Hasher.dig c.args.anchors.now) step_number_codec step-lawful
    (λ (step : ℕ). part_stage 1 (event_stage (behind_first g.H.Hasher.dig c.args.anchors.now chain)) chain.known.from
    step chain.known.step) (step-nothing 1 LAST_STEP) (Tail c.args.onward)
    c.in_ok-next-in-Ok.next c.args.held.now c.take_number.new.at step refl
    (sym c.in_ok-next-in-Ok.ensures)
    c.in-Ok.ensures.takes.0

pub returns-in-Err : goal.returns-in-Err
returns-in-Err g c =
    let chain = c.args.onward.chain.value in
    attempts-missed (rest g.H.Hasher.dig c.args.anchors.now) step_number_codec step-lawful
    (λ (step : ℕ). part_stage 1 (event_stage (behind_first g.H.Hasher.dig c.args.anchors.now chain)) chain.known.from
    step chain.known.step)
    (λ step fits. first-goes g.H.Hasher.dig c.args.anchors.now chain chain.known.from step chain.known.step) (λ n. n)
    (Tail c.args.onward) c.args.held.now c.take_number.new.at c.in-Err.fault
    c.missed.result refl c.in-Err.ensures.takes c.missed.ensures
