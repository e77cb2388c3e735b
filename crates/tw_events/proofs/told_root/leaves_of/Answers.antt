use Rattle.std.proofs.Common.{◌++◌, ◌∷◌, [], take, ap, sym, ◌∙◌, arith}
use Rattle.tw_base.specs.events.EventTree.{event_leaf_texts}
use Rattle.tw_base.specs.kinds.Texts.{event_leaf_text}
use Rattle.tw_events.proofs.EventTexts.{labels-step, leaf_texts-more}
use Rattle.tw_base.proofs.lemmas.kinds.HandedTexts.{hands-same, hands-then}
use Rattle.tw_events.proofs.told_root.leaves_of.Goals as goal

pub loop-event-preserved : goal.loop-event-preserved
loop-event-preserved g c =
    let events = c.args.events.now in
    let i = c.loop-event.event-index in
    let is = c.as_slice.ensures ∙ c.event-item.is in
    record {
      count = omega (arith, c.push.ensures.len, c.loop-event.invariant.count);
      labels = labels-step g.T.Transcript.dig events c.loop-event.leaves.items c.push.new.self.items i
          c.event-item.result c.as_slice.result.now c.event_leaf_told-leaf.result
          c.loop-event-test.true is c.event_leaf_told-leaf.ensures.label c.loop-event.invariant.labels
          c.push.ensures.items;
      took = hands-same g.T.Transcript.took _ _ (event_leaf_texts (take i events) ++ event_leaf_text
          c.as_slice.result.now ∷ []) _
          (ap (λ e. event_leaf_texts (take i events) ++ event_leaf_text e ∷ []) is
          ∙ sym (leaf_texts-more events i c.event-item.result c.loop-event-test.true))
          (hands-then g.T.Transcript.took _ _ _ _ _ c.loop-event.invariant.took c.event_leaf_told-leaf.ensures.took);
    }
