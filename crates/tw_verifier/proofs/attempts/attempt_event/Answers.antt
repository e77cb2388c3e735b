use Rattle.std.proofs.Common.{refl, sym}
use Rattle.tw_base.specs.declared.events.event_part.EventPart.{EventPart}
use Rattle.tw_pieces.proofs.SegmentLaws.{attempts-ended, attempts-missed, stays-then}
use Rattle.tw_skipproof.specs.Codecs.{event_part_codec}
use Rattle.tw_skipproof.proofs.LawfulCodecs.{event-lawful}
use Rattle.tw_verifier.specs.declared.stage.Stage.TheVariants.{Event}
use Rattle.tw_verifier.specs.Stages.{behind_event, rest}
use Rattle.tw_verifier.proofs.StageLaws.{event-nothing, event-small, role-goes}
use Rattle.tw_verifier.proofs.attempts.attempt_event.Goals as goal

pub returns-then-held-until : goal.returns-then-held-until
returns-then-held-until g c =
    let e = c.args.event_at in (
      refl,
      stays-then (event_part_codec e.at.part.opening.count).format (behind_event g.H.Hasher.dig c.args.anchors.now
          e.role e.at.part)
          (λ word x s. role-goes g.H.Hasher.dig c.args.anchors.now e.role e.at.part x) c.args.held.now
          c.event_until-until.result (c.event_until-until.ensures c.if-held-until.true),
    )

pub behind_event-requires : goal.behind_event-requires
behind_event-requires g c = event-small c.args.event_at.at.part.opening.count c.in-Ok.event c.in-Ok.ensures.1

pub returns-in_ok-next-in-Ok : goal.returns-in_ok-next-in-Ok
returns-in_ok-next-in-Ok g c =
    let e = c.args.event_at in
    attempts-ended (rest g.H.Hasher.dig c.args.anchors.now) (event_part_codec e.at.part.opening.count)
    (event-lawful e.at.part.opening.count e.at.few)
    (behind_event g.H.Hasher.dig c.args.anchors.now e.role e.at.part) (event-nothing e.at.part.opening.count) (Event e)
    c.in_ok-next-in-Ok.next c.args.held.now c.take_event.new.at c.in-Ok.event refl
    (sym c.in_ok-next-in-Ok.ensures) c.in-Ok.ensures.0

pub returns-in-Err : goal.returns-in-Err
returns-in-Err g c =
    let e = c.args.event_at in
    attempts-missed (rest g.H.Hasher.dig c.args.anchors.now) (event_part_codec e.at.part.opening.count)
    (event-lawful e.at.part.opening.count e.at.few)
    (behind_event g.H.Hasher.dig c.args.anchors.now e.role e.at.part) (λ event fits. role-goes g.H.Hasher.dig
    c.args.anchors.now e.role e.at.part event) (λ (event : EventPart). event) (Event e)
    c.args.held.now c.take_event.new.at c.in-Err.fault c.missed.result refl c.in-Err.ensures c.missed.ensures
