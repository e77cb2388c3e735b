use Rattle.std.proofs.Common.{sym}
use Rattle.tw_follow.proofs.Following.{rest_head}
use Rattle.tw_follow.proofs.follower.Follower.head.Goals as goal

pub returns-clause-follows : goal.returns-clause-follows
returns-clause-follows g c = λ k follows.
    let s = c.args.self.now.recorded in
    sym (rest_head g.D.Disk.view g.met.D.Disk.only_now g.H.Hasher.dig s.store s.root k follows)
