use Rattle.std.proofs.Common.{refl}
use Rattle.tw_follow.proofs.Answering.{reopened_heads, told_heads, untold_heads}
use Rattle.tw_follow.proofs.follower.Follower.heads.Goals as goal

pub returns-then-self : goal.returns-then-self
returns-then-self g c = reopened_heads g.D.Disk.view g.met.D.Disk.only_now g.H.Hasher.dig c.args.self.now c.if-self.true

pub returns-in-Ok : goal.returns-in-Ok
returns-in-Ok g c = told_heads g.D.Disk.view g.met.D.Disk.only_now g.H.Hasher.dig c.args.self.now _ c.if-self.false
    c.in-Ok.ensures.reads.kept.same_kept c.in-Ok.ensures.reads.kept.used_kept refl c.in-Ok.ensures.reads.faults.later
    c.in-Ok.heads c.in-Ok.ensures.reads.answer c.in-Ok.ensures.rises refl

pub returns-in-Err : goal.returns-in-Err
returns-in-Err g c = untold_heads g.D.Disk.view g.met.D.Disk.only_now g.H.Hasher.dig c.args.self.now _ c.if-self.false
    c.in-Err.ensures.reads.kept.same_kept c.in-Err.ensures.reads.kept.used_kept refl c.in-Err.ensures.reads.faults.later
    c.in-Err.refusal c.in-Err.ensures.reads.answer c.in-Err.ensures.reads.own c.is_disk_fault-self.ensures
    c.in-Err.ensures.reads.faults.rose
