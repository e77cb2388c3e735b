use Rattle.std.proofs.Common.{◌≡◌, ◌++◌, List, ℕ, ap, ◌∙◌, sym, length, take, arith}
use Rattle.std.proofs.lemmas.List.{take_all}
use Rattle.std.specs.Int.{to_be_bytes, w32}
use Rattle.tw_steppage.specs.StepBytes.{stream}
use Rattle.tw_skiplist.proofs.Streams.{length-stream}
use Rattle.tw_skiplist.proofs.Streams.{stream-more}
use Rattle.tw_skiplist.proofs.pieces.stream_of.Goals as goal

pub loop-event-preserved : goal.loop-event-preserved
loop-event-preserved c =
    let i = c.loop-event.event-index in
    let items = c.as_slice-items.result.now in
    let event = c.event-item.result in
    c.in_ok-put_event.ensures
    ∙ ap (λ (t : List ℕ). t ++ (to_be_bytes w32 (length event) ++ event)) c.loop-event.invariant
    ∙ ap (λ (e : List ℕ). stream (take i items) ++ (to_be_bytes w32 (length e) ++ e)) c.event-item.is
    ∙ sym (stream-more items i event c.loop-event-test.true)

pub returns-clause-size : goal.returns-clause-size
returns-clause-size c =
    let items = c.as_slice-items.result.now in
    let whole : take c.loop-event.event-index items ≡ items = take_all c.loop-event.event-index items
    (omega (arith, c.loop-event-test.false)) in
    let is : c.loop-event.bytes ≡ stream c.args.events.now = c.loop-event.invariant ∙ ap stream whole ∙ ap stream
    c.as_slice-items.ensures in
    omega (arith, ap length is, length-stream c.args.events.now, c.requires.are.count, c.requires.fit)
