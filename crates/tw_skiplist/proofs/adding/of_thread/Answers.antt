use Rattle.std.proofs.Common.{◌≡◌, List, ℕ, [], ◌∙◌, refl, sym, Some}
use Rattle.tw_base.specs.events.EventTree.{event_root, tree_hash}
use Rattle.tw_base.specs.kinds.Texts.{no_events_text}
use Rattle.tw_skiplist.proofs.adding.of_thread.Goals as goal

none_root : (dig : List ℕ → List ℕ) → event_root dig [] ≡ dig no_events_text
unfolding event_root tree_hash
none_root dig = refl

pub returns-clause-step : goal.returns-clause-step
returns-clause-step g c = (λ j. record {
  stream = c.new.ensures j;
  count = 0;
  event_root = (c.no_events.ensures ∙ sym (none_root g.H.Hasher.dig)) j;
  archive = c.args.archive.now;
  received = Some c.args.thread.now;
  time = c.args.time;
})
