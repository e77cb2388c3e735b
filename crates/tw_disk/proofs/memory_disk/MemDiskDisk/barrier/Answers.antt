use Rattle.std.proofs.Common.{◌-◌, refl, arith}
use Rattle.tw_disk.specs.Model.{Barrier as BarrierCall}
use Rattle.tw_disk.proofs.KeptCallLaws.{one_more, nothing_else, keeps, gains_call, one_longer, barrier_durable}
use Rattle.tw_disk.proofs.KeptCallLaws.{barrier_crash}
use Rattle.tw_disk.specs.declared.call.Call.TheVariants.{Barrier}
use Rattle.tw_disk.proofs.memory_disk.MemDiskDisk.barrier.Goals as goal

pub invariant_of-self-in-Ok : goal.invariant_of-self-in-Ok
invariant_of-self-in-Ok c =
    let pages = c.args.self.now.pages.items in
    let gains = gains_call _ _ Barrier pages pages c.in-Ok.ensures.ok refl tt in
    record {
      calls_fit = gains.fits c.args.self.now.calls_fit;
      counted = omega (arith, c.in-Ok.ensures.counted, one_longer _ _ _ _ BarrierCall gains);
    }

pub returns-in-Ok-clause-durable : goal.returns-in-Ok-clause-durable
returns-in-Ok-clause-durable c =
    let pages = c.args.self.now.pages.items in
    barrier_durable _ _ _ _ c.args.self.now.calls_fit (gains_call _ _ Barrier pages pages c.in-Ok.ensures.ok refl tt)

pub returns-in-Ok-clause-crash : goal.returns-in-Ok-clause-crash
returns-in-Ok-clause-crash c =
    let pages = c.args.self.now.pages.items in
    barrier_crash _ _ _ _ c.args.self.now.calls_fit (gains_call _ _ Barrier pages pages c.in-Ok.ensures.ok refl tt)

pub returns-in-Ok-clause-time : goal.returns-in-Ok-clause-time
returns-in-Ok-clause-time c =
    let pages = c.args.self.now.pages.items in
    let gains = gains_call _ _ Barrier pages pages c.in-Ok.ensures.ok refl tt in
    record {
      later = omega (arith, one_more _ _ _ _ BarrierCall gains);
      nothing_else = λ t i le. nothing_else _ _ _ _ BarrierCall gains (t - c.args.self.now.crashed_at) i;
      keeps = λ t i le. keeps _ _ _ _ BarrierCall gains (t - c.args.self.now.crashed_at) i;
    }
