use Rattle.std.proofs.Common.{subst}
use Rattle.tw_adopt.specs.Hearing.{AreHeard}
use Rattle.tw_adopt.proofs.AdoptionLaws.{adoption-binds}
use Rattle.tw_adopt.proofs.HearingLaws.{heard-some}
use Rattle.tw_adopt.proofs.adopting.adopt.Goals as goal

pub adopt_heard-answer-requires : goal.adopt_heard-answer-requires
adopt_heard-answer-requires g c = λ none.
    heard-some g.H.Hasher.dig c.args.anchors.now c.args.history.now c.args.proofs.now c.in-Ok.heard.shown.items
    c.in-Ok.heard.fault
    (subst (λ ps. AreHeard g.H.Hasher.dig c.args.anchors.now c.args.history.now 1 ps c.in-Ok.heard.shown.items
    c.in-Ok.heard.fault) c.as_slice.ensures c.in-Ok.ensures) c.requires none

pub returns-in-Ok-clause-answer : goal.returns-in-Ok-clause-answer
returns-in-Ok-clause-answer g c =
    c.adopt_heard-answer.ensures c.args.anchors.now c.args.proofs.now
    (subst (λ ps. AreHeard g.H.Hasher.dig c.args.anchors.now c.args.history.now 1 ps c.in-Ok.heard.shown.items
    c.in-Ok.heard.fault) c.as_slice.ensures c.in-Ok.ensures)

pub returns-in-Ok-clause-binds : goal.returns-in-Ok-clause-binds
returns-in-Ok-clause-binds g c = λ sound.
    adoption-binds g.H.Hasher.dig c.args.anchors.now c.args.history.now g.met.H.Hasher.size g.met.H.Hasher.bytes sound
    c.args.proofs.now c.adopt_heard-answer.result (returns-in-Ok-clause-answer g c)
