use Rattle.std.proofs.Common.{◌+◌, ap, sym, ◌∙◌}
use Rattle.tw_history.proofs.ByteCounts.{event-size}
use Rattle.tw_history.proofs.sizes.event_size.Goals as goal

pub returns-clause-size : goal.returns-clause-size
returns-clause-size c = ap (λ n. 4 + n) c.len.ensures ∙ sym (event-size c.args.event.now)
