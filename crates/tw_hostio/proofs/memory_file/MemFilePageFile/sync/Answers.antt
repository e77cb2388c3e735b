use Rattle.std.proofs.Common.{subst, sym}
use Rattle.std.specs.Prelude.{List}
use Rattle.tw_hostio.specs.FileSteps.{LeftOf}
use Rattle.tw_hostio.specs.PageFile.{OnlyBytes, KeepsOutcomes}
use Rattle.tw_hostio.specs.declared.file_step.FileStep.{FileStep}
use Rattle.tw_hostio.specs.declared.file_step.FileStep.TheVariants.{Synced}
use Rattle.tw_hostio.proofs.StepLaws.{kept_sync, synced_only, synced_crash, push_time}
use Rattle.tw_hostio.proofs.memory_file.MemFilePageFile.sync.Goals as goal

pub invariant_of-self-in-Ok : goal.invariant_of-self-in-Ok
invariant_of-self-in-Ok c = record {
  kept = rw c.in-Ok.ensures.ok (kept_sync c.args.self.now.first.items c.args.self.now.bytes.items c.args.self.now.steps.items c.args.self.now.kept);
  transfers = c.args.self.now.transfers;
}

pub returns-in-Ok-clause-durable : goal.returns-in-Ok-clause-durable
returns-in-Ok-clause-durable c =
    subst (λ (s : List FileStep). OnlyBytes c.args.self.now.bytes.items (LeftOf c.args.self.now.first.items s)) (sym c.in-Ok.ensures.ok)
    (synced_only c.args.self.now.first.items c.args.self.now.bytes.items c.args.self.now.steps.items c.args.self.now.kept)

pub returns-in-Ok-clause-crash : goal.returns-in-Ok-clause-crash
returns-in-Ok-clause-crash c =
    subst (λ (s : List FileStep). KeepsOutcomes (LeftOf c.args.self.now.first.items s) (LeftOf c.args.self.now.first.items c.args.self.now.steps.items)) (sym c.in-Ok.ensures.ok)
    (synced_crash c.args.self.now.first.items c.args.self.now.steps.items)

pub returns-in-Ok-clause-time : goal.returns-in-Ok-clause-time
returns-in-Ok-clause-time c = push_time c.args.self.now.first.items c.args.self.now.steps.items _ Synced _ _ _ _ _ _ c.in-Ok.ensures.ok
