use Rattle.tw_skiplist.proofs.Copying.{SpellsFront}
use Rattle.tw_skiplist.proofs.event_pages.are_events.Given as goal

abbrev pub invariant-loop-index : goal.invariant-loop-index
invariant-loop-index l = SpellsFront l.bytes l.at l.index
