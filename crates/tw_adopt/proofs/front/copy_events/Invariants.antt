-- The copies so far are the front of the events.
use Rattle.std.proofs.Common.{◌≡◌, take}
use Rattle.tw_adopt.proofs.front.copy_events.Given as goal

abbrev pub invariant-loop-event : goal.invariant-loop-event
invariant-loop-event l = l.copies ≡ take l.event-index l.events
