use Rattle.std.proofs.Common.{◌≡◌, drop}
use Rattle.tw_base.specs.history.Anchors.{anchor_of}
use Rattle.tw_base.proofs.history.anchor.find_anchor.Given as goal

abbrev pub invariant-loop-thread : goal.invariant-loop-thread
invariant-loop-thread l = anchor_of (drop l.thread-index l.anchors) l.service l.step ≡ anchor_of l.anchors l.service
    l.step
