use Rattle.std.proofs.Common.{sym, ◌∙◌, arith}
use Rattle.tw_events.proofs.EventTexts.{same_default, texts-none, texts-one}
use Rattle.tw_events.proofs.Steps.{root-none, root-one}
use Rattle.tw_base.proofs.lemmas.kinds.HandedTexts.{hands-same}
use Rattle.tw_events.proofs.told_root.event_root_told.Goals as goal

pub returns-in-empty-clause-root : goal.returns-in-empty-clause-root
returns-in-empty-clause-root g c = c.no_events_told.ensures.label ∙ sym (root-none g.T.Transcript.dig c.args.events.now
    (omega arith))

pub returns-in-empty-clause-took : goal.returns-in-empty-clause-took
returns-in-empty-clause-took g c =
    hands-same g.T.Transcript.took _ _ _ _ (texts-none g.T.Transcript.dig c.args.events.now (omega arith))
    c.no_events_told.ensures.took

pub returns-in-len1-clause-root : goal.returns-in-len1-clause-root
returns-in-len1-clause-root g c =
    c.event_leaf_told.ensures.label ∙ sym (root-one g.T.Transcript.dig c.args.events.now c.as_slice.result.now
    (omega arith) (c.as_slice.ensures ∙ c.event-item.is ∙ same_default c.args.events.now c.event-item.result
    c.as_slice.result.now (omega arith)))

pub returns-in-len1-clause-took : goal.returns-in-len1-clause-took
returns-in-len1-clause-took g c =
    hands-same g.T.Transcript.took _ _ _ _ (texts-one g.T.Transcript.dig c.args.events.now c.as_slice.result.now
    (omega arith)
    (c.as_slice.ensures ∙ c.event-item.is ∙ same_default c.args.events.now c.event-item.result c.as_slice.result.now
    (omega arith))) c.event_leaf_told.ensures.took
