use Rattle.std.proofs.Common.{subst, sym}
use Rattle.std.specs.Prelude.{Ok}
use Rattle.tw_pieces.specs.Resuming.{Attempts}
use Rattle.tw_verifier.specs.declared.stage.Stage.{Stage}
use Rattle.tw_verifier.specs.Stages.{rest}
use Rattle.tw_verifier.proofs.judging.attempt_stage.Goals as goal

pub returns-in-Begun : goal.returns-in-Begun
returns-in-Begun g c = rw c.in-Begun.is (c.attempt_begun.ensures g.H.Hasher.dig c.args.anchors.now)

pub returns-in-Counted : goal.returns-in-Counted
returns-in-Counted g c = rw c.in-Counted.is (c.attempt_counted.ensures g.H.Hasher.dig c.args.anchors.now)

pub returns-in-Head : goal.returns-in-Head
returns-in-Head g c = rw c.in-Head.is c.attempt_head.ensures

pub returns-in-LinkHead : goal.returns-in-LinkHead
returns-in-LinkHead g c = rw c.in-LinkHead.is c.attempt_link_head.ensures

pub returns-in-Path : goal.returns-in-Path
returns-in-Path g c = rw c.in-Path.is c.attempt_link.ensures

pub returns-in-Opening : goal.returns-in-Opening
returns-in-Opening g c = rw c.in-Opening.is c.attempt_opening.ensures

pub returns-in-Event : goal.returns-in-Event
returns-in-Event g c = rw c.in-Event.is c.attempt_event.ensures

pub returns-in-Entry : goal.returns-in-Entry
returns-in-Entry g c = rw c.in-Entry.is (c.attempt_entry.ensures g.H.Hasher.dig c.args.anchors.now)

pub returns-in-Key : goal.returns-in-Key
returns-in-Key g c = rw c.in-Key.is (c.attempt_key.ensures g.H.Hasher.dig c.args.anchors.now)

pub returns-in-Tree : goal.returns-in-Tree
returns-in-Tree g c = rw c.in-Tree.is c.attempt_tree.ensures

pub returns-in-Nodes : goal.returns-in-Nodes
returns-in-Nodes g c = rw c.in-Nodes.is c.attempt_node.ensures

pub returns-in-Bind : goal.returns-in-Bind
returns-in-Bind g c = rw c.in-Bind.is c.attempt_bind.ensures

pub returns-in-Tail : goal.returns-in-Tail
returns-in-Tail g c = rw c.in-Tail.is c.attempt_tail.ensures

pub returns-in-Done : goal.returns-in-Done
returns-in-Done g c =
    let P : Stage → Type 0 = λ s. Attempts (rest g.H.Hasher.dig c.args.anchors.now) s c.args.held.now
    (Ok c.attempt_end.result) in
    subst P (sym c.in-Done.is) (c.attempt_end.ensures g.H.Hasher.dig c.args.anchors.now)
