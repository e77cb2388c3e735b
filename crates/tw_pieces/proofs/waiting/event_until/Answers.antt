use Rattle.std.proofs.Common.{ℕ, arith, ap, ◌*◌, ◌+◌}
use Rattle.tw_base.proofs.lemmas.kinds.ByteLemmas.{AreBytes-from}
use Rattle.tw_pieces.proofs.Waits.{event-waits}
use Rattle.tw_pieces.proofs.waiting.event_until.Goals as goal

pub returns-in-Ok : goal.returns-in-Ok
returns-in-Ok c =
    event-waits c.args.count c.args.held.now c.take_sizes.new.at _ (c.in-Ok.index, c.in-Ok.size) c.requires.few
    (AreBytes-from c.args.held.now (λ i. omega (arith, c.type_inv.held i)))
    c.in-Ok.ensures.takes.0 (ap (λ (n : ℕ). c.take_sizes.new.at + (c.in-Ok.size + 32 * n)) c.path_length.ensures.value)
