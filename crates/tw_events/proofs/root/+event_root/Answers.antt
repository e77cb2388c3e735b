use Rattle.std.proofs.Common.{arith}
use Rattle.tw_events.proofs.Steps.{root-joined}
use Rattle.tw_events.proofs.root.+event_root.Goals as goal

pub returns-in_default : goal.returns-in_default
returns-in_default g t c =
    root-joined g.H.Hasher.dig c.args.events.now c.split_at.result.0.now c.split_at.result.1.now c.left_count.result
    c.event_root-left_root.result c.event_root-right_root.result c.event_node.result (omega arith)
    c.left_count.ensures.value
    c.split_at.ensures.front c.split_at.ensures.back c.event_root-left_root.ensures c.event_root-right_root.ensures
    c.event_node.ensures.label
