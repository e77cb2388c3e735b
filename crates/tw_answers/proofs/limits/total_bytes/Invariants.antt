use Rattle.std.proofs.Common.{◌≡◌, ◌+◌, drop}
use Rattle.tw_answers.specs.Limits.{events_size}
use Rattle.tw_answers.proofs.limits.total_bytes.Given as goal

abbrev pub invariant-loop-event : goal.invariant-loop-event
invariant-loop-event l = l.bytes + events_size (drop l.event-index l.events) ≡ events_size l.events
