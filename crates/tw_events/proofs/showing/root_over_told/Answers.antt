use Rattle.std.proofs.Common.{ap, ◌∙◌, ◌∷◌}
use Rattle.std.specs.Prelude.{reverse}
use Rattle.tw_base.specs.events.AuditPath.{node_texts_above}
use Rattle.tw_base.specs.kinds.Texts.{event_leaf_text}
use Rattle.tw_base.proofs.lemmas.kinds.HandedTexts.{hands-same, hands-then}
use Rattle.tw_events.proofs.NodeTexts.{leaf-then}
use Rattle.tw_events.proofs.showing.root_over_told.Goals as goal

pub returns-clause-took : goal.returns-clause-took
returns-clause-took g c =
    let dig = g.T.Transcript.dig in
    let part = c.args.part.now in
    hands-same g.T.Transcript.took _ _ _ _
    (ap (λ e. event_leaf_text e ∷ node_texts_above dig (reverse c.sides_of-sides.result.items) c.as_slice-2.result.now
    c.event_leaf_told-leaf.result) c.as_slice.ensures
    ∙ ap (λ p. event_leaf_text part.event ∷ node_texts_above dig (reverse c.sides_of-sides.result.items) p
    c.event_leaf_told-leaf.result) c.as_slice-2.ensures.value
    ∙ leaf-then dig (reverse c.sides_of-sides.result.items) c.args.count part.index part.event part.path
    c.event_leaf_told-leaf.result c.sides_of-sides.ensures.sides
    (c.event_leaf_told-leaf.ensures.label ∙ ap (λ e. dig (event_leaf_text e)) c.as_slice.ensures))
    (hands-then g.T.Transcript.took _ _ _ _ _ c.event_leaf_told-leaf.ensures.took c.root_above_leaf.ensures.took)
