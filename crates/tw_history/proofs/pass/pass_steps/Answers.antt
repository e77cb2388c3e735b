use Rattle.std.proofs.Common.{ap, sym, ◌∙◌}
use Rattle.tw_base.specs.events.EventTree.{event_root, event_texts}
use Rattle.tw_base.proofs.lemmas.kinds.HandedTexts.{hands-same, hands-then}
use Rattle.tw_history.proofs.Passes.{events-then, handed-none, handed-step}
use Rattle.tw_history.proofs.pass.pass_steps.Goals as goal

pub pass_step-requires-clause-event_root : goal.pass_step-requires-clause-event_root
pass_step-requires-clause-event_root g c = c.root_of_events-event_root.ensures.root ∙ ap (event_root g.T.Transcript.dig)
    (sym c.content_behind.ensures.events)

pub loop-index-init : goal.loop-index-init
loop-index-init g c = record {
  passed = c.requires.passed;
  took = handed-none g.T.Transcript.dig c.args.history.now g.T.Transcript.took c.args.texts.now c.args.from;
}

pub loop-index-preserved : goal.loop-index-preserved
loop-index-preserved g c = record {
  passed = c.in_ok-pass_step.ensures.passed;
  took =
      handed-step g.T.Transcript.dig c.args.history.now g.T.Transcript.took _ _ _ c.args.from c.loop-index.index
      c.loop-index.invariant.took
      (hands-same g.T.Transcript.took _ _ _ _ (events-then g.T.Transcript.dig c.args.history.now c.loop-index.index)
      (hands-then g.T.Transcript.took _ _ _ _ _
      (hands-same g.T.Transcript.took _ _ _ _ (ap (event_texts g.T.Transcript.dig)
      (sym c.content_behind.ensures.events)) c.root_of_events-event_root.ensures.took)
      c.in_ok-pass_step.ensures.took));
}
