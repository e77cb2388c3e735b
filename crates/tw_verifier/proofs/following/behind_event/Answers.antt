use Rattle.tw_verifier.proofs.following.behind_event.Goals as goal

pub returns-in-First : goal.returns-in-First
returns-in-First g c = rw c.in-First.is (c.closed.ensures c.args.anchors.now)
