use Rattle.std.proofs.Common.{refl, sym, subst, arith}
use Rattle.tw_base.specs.format.Formats.{Format}
use Rattle.tw_pieces.specs.Resuming.{StaysFront}
use Rattle.tw_pieces.proofs.SegmentLaws.{attempts-ended, attempts-missed, stays-then}
use Rattle.tw_skipproof.specs.declared.opening.Opening.{Opening as AnyOpening}
use Rattle.tw_skipproof.specs.Codecs.{opening_codec}
use Rattle.tw_skipproof.proofs.LawfulCodecs.{opening-few, opening-lawful}
use Rattle.tw_verifier.specs.declared.judgement.Judgement.{Judgement}
use Rattle.tw_verifier.specs.declared.stage.Stage.TheVariants.{Opening}
use Rattle.tw_verifier.specs.Stages.{behind_opening, rest}
use Rattle.tw_base.specs.format.Formats.{then_by}
use Rattle.tw_verifier.proofs.StageLaws.{opened-goes, opening-nothing}
use Rattle.tw_verifier.proofs.attempts.attempt_opening.Goals as goal

pub returns-then-held-until : goal.returns-then-held-until
returns-then-held-until g c =
    let o = c.args.opens in
    let next = behind_opening g.H.Hasher.dig c.args.anchors.now o in
    let least = c.opened-least.result.0 in
    let step = c.opened-least.result.1 in
    let lawful = opening-lawful least step (omega (arith, c.opened-least.ensures.least_few)) in
    let P : Format Judgement → Type 0 = λ f. StaysFront f c.args.held.now c.opening_until-until.result in (
      refl,
      subst P (λ k. then_by (opening_codec (c.opened-least.ensures.least k) (c.opened-least.ensures.step k)).format
          next)
          (stays-then (opening_codec least step).format next (λ word x s. opened-goes g.H.Hasher.dig c.args.anchors.now
          o x (opening-few least step x (lawful.words word x s).1)) c.args.held.now
          c.opening_until-until.result (c.opening_until-until.ensures c.if-held-until.true)),
    )

pub returns-in_ok-next-in-Ok : goal.returns-in_ok-next-in-Ok
returns-in_ok-next-in-Ok g c =
    let o = c.args.opens in
    let next = behind_opening g.H.Hasher.dig c.args.anchors.now o in
    let least = c.opened-least.result.0 in
    let step = c.opened-least.result.1 in
    attempts-ended (rest g.H.Hasher.dig c.args.anchors.now) (opening_codec least step)
    (opening-lawful least step (omega (arith, c.opened-least.ensures.least_few))) next (opening-nothing least step)
    (Opening o)
    c.in_ok-next-in-Ok.next c.args.held.now c.take_opening.new.at c.in-Ok.opening
    (sym (λ k. then_by (opening_codec (c.opened-least.ensures.least k) (c.opened-least.ensures.step k)).format next))
    (sym c.in_ok-next-in-Ok.ensures) c.in-Ok.ensures.takes.0

pub returns-in-Err : goal.returns-in-Err
returns-in-Err g c =
    let o = c.args.opens in
    let next = behind_opening g.H.Hasher.dig c.args.anchors.now o in
    let least = c.opened-least.result.0 in
    let step = c.opened-least.result.1 in
    attempts-missed (rest g.H.Hasher.dig c.args.anchors.now) (opening_codec least step)
    (opening-lawful least step (omega (arith, c.opened-least.ensures.least_few))) next
    (λ x fits. opened-goes g.H.Hasher.dig c.args.anchors.now o x (opening-few least step x fits))
    (λ (x : AnyOpening). x) (Opening o) c.args.held.now c.take_opening.new.at c.in-Err.fault c.missed.result
    (sym (λ k. then_by (opening_codec (c.opened-least.ensures.least k) (c.opened-least.ensures.step k)).format next))
    c.in-Err.ensures.takes c.missed.ensures
