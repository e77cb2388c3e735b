use Rattle.std.proofs.Common.{sym, ◌∙◌, arith}
use Rattle.tw_base.proofs.lemmas.events.EventTrees.{event_texts-some}
use Rattle.tw_events.proofs.EventTexts.{length-labels}
use Rattle.tw_base.proofs.lemmas.kinds.HandedTexts.{hands-same, hands-then}
use Rattle.tw_events.proofs.told_root.root_of_many.Goals as goal

pub root_over_leaves-requires-clause-some : goal.root_over_leaves-requires-clause-some
root_over_leaves-requires-clause-some g c =
    let size = length-labels g.T.Transcript.dig c.args.events.now c.as_slice.result.now
    (c.as_slice.ensures.value ∙ c.leaves_of-leaves.ensures.labels) in omega (arith, size)

pub returns-clause-took : goal.returns-clause-took
returns-clause-took g c =
    hands-same g.T.Transcript.took _ _ _ _ (sym (event_texts-some g.T.Transcript.dig c.args.events.now (omega arith)))
    (hands-then g.T.Transcript.took _ _ _ _ _ c.leaves_of-leaves.ensures.took
    (c.root_over_leaves.ensures.took c.args.events.now (c.as_slice.ensures.value ∙ c.leaves_of-leaves.ensures.labels)))
