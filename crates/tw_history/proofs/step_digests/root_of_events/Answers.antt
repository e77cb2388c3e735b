use Rattle.std.proofs.Common.{ap, sym, ◌∙◌}
use Rattle.tw_base.specs.events.EventTree.{event_root, event_texts}
use Rattle.tw_base.proofs.lemmas.events.EventTrees.{event_root-none}
use Rattle.tw_events.proofs.EventTexts.{no_event_texts}
use Rattle.tw_base.proofs.lemmas.kinds.HandedTexts.{hands-same}
use Rattle.tw_history.specs.PassSteps.{passed_events}
use Rattle.tw_history.proofs.step_digests.root_of_events.Goals as goal

pub returns-in-Received : goal.returns-in-Received
returns-in-Received g c = record {
  root = c.no_events_told.ensures.label ∙ sym (event_root-none g.T.Transcript.dig)
      ∙ ap (λ x. event_root g.T.Transcript.dig (passed_events x)) (sym c.in-Received.is);
  took = hands-same g.T.Transcript.took _ _ _ _ (no_event_texts g.T.Transcript.dig
      ∙ ap (λ x. event_texts g.T.Transcript.dig (passed_events x)) (sym c.in-Received.is))
      c.no_events_told.ensures.took;
}
