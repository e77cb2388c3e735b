use Rattle.std.proofs.Common.{ℕ, ◌+◌, ◌-◌, ◌^◌, refl, sym, subst}
use Rattle.std.specs.Prelude.{Option, Some, min}
use Rattle.tw_disk.specs.MemDisk.{IsPlanned, failing_calls, failing_reads_of, made_of}
use Rattle.tw_world.specs.OnDisks.{StartsOn}
use Rattle.tw_world.specs.declared.host.Planned.{Planned}
use Rattle.tw_world.proofs.Resting.{stands-same}
use Rattle.tw_world.proofs.serving.stopping.Goals as goal

pub returns-in-Some-clause-stands : goal.returns-in-Some-clause-stands
returns-in-Some-clause-stands c h stands = stands-same c.args.disk c.stop_at.new.self h c.stop_at.ensures.same stands

pub returns-in-Some-clause-starts : goal.returns-in-Some-clause-starts
returns-in-Some-clause-starts c =
    let disk = c.args.disk in
    let start = c.stop_at.new.self in
    let plan =
    subst (λ (k : ℕ). IsPlanned start (failing_calls disk) (failing_reads_of disk) (Some (min (made_of disk + k) (2 ^ 64 - 1))))
    c.saturating_add.ensures c.stop_at.ensures.stop in
    subst (λ (crash : Option Planned). StartsOn crash disk start) (sym c.in-Some.is) (c.stop_at.ensures.same, plan)

pub returns-in-None-clause-starts : goal.returns-in-None-clause-starts
returns-in-None-clause-starts c =
    subst (λ (crash : Option Planned). StartsOn crash c.args.disk c.args.disk) (sym c.in-None.is) refl
