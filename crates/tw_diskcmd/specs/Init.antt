-- `init`: what the command comes to, and what it leaves of the disk.
use Rattle.std.specs.Prelude.{ℕ, List, Result}
use Rattle.sha2.specs.Sha256.{sha256}
use Rattle.tw_base.specs.declared.history.thread.Thread.{Thread}
use Rattle.tw_disk.specs.Disk.{DiskView}
use Rattle.tw_answers.specs.Roots.{root_kind}
use Rattle.tw_service.specs.Machine.{last_thread}
use Rattle.tw_service.specs.Stands.{IsImageOfHistory, no_history}
use Rattle.tw_diskcmd.specs.Comes.{MakeComes}
use Rattle.tw_diskcmd.specs.Leaves.{MakeLeaves, MakeSafe}
use Rattle.tw_text.specs.declared.fault.CommandFault.{CommandFault}
use Rattle.tw_diskcmd.specs.Disks.{FoundDisk}

-- the thread of the new service is that of the history of this name without a step
abbrev pub InitComes : FoundDisk → (name : List ℕ) → Result Thread CommandFault → Type 0
InitComes t name result = MakeComes t (last_thread sha256 (no_history name)) result

module _ {D : Type 0} (view : D → DiskView) (old new : D) where
  -- its store stands for that history
  abbrev pub InitSafe : (name : List ℕ) → Type 0
  InitSafe name = MakeSafe root_kind (IsImageOfHistory sha256) view old new (no_history name)

  abbrev pub InitLeaves : (name : List ℕ) → Result Thread CommandFault → Type 0
  InitLeaves name result = MakeLeaves root_kind (IsImageOfHistory sha256) view old new (no_history name) result
