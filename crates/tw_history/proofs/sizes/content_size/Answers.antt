use Rattle.std.proofs.Common.{arith, length, ap, sum_by, sym, ◌∙◌, ◌+◌}
use Rattle.std.proofs.lemmas.List.Concat.{length-flat_map}
use Rattle.tw_base.specs.history.HistoryCodec.{event_codec}
use Rattle.tw_history.proofs.ByteCounts.{events-size, thread-size}
use Rattle.tw_history.proofs.sizes.content_size.Goals as goal

pub returns-in-Events-clause-size : goal.returns-in-Events-clause-size
returns-in-Events-clause-size c =
    rw c.in-Events.is
    (ap (λ n. 4 + n) (c.events_size.ensures.size ∙ ap (sum_by (λ event. length (event_codec.write event)))
    c.as_slice.ensures ∙ sym (length-flat_map event_codec.write c.in-Events.events))
    ∙ sym (events-size c.in-Events.events))

pub returns-in-Received-clause-size : goal.returns-in-Received-clause-size
returns-in-Received-clause-size c =
    let name = ap length c.as_bytes-name.ensures.value in
    rw (c.in-Received.is, ← c.get-thread.ensures, ← c.thread.view_is)
    (sym (thread-size _ (omega (arith, c.as_bytes-name.ensures.size, name)) c.thread.invariant))
