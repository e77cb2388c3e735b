-- `watch`: what the command comes to, and what it leaves of the disk.
use Rattle.std.specs.Prelude.{ℕ, List, Result}
use Rattle.sha2.specs.Sha256.{sha256}
use Rattle.tw_base.specs.declared.history.thread.Thread.{Thread}
use Rattle.tw_disk.specs.Disk.{DiskView}
use Rattle.tw_follow.specs.HeadLists.{first_thread, no_heads}
use Rattle.tw_follow.specs.Stands.{root_kind}
use Rattle.tw_diskcmd.specs.Comes.{MakeComes}
use Rattle.tw_diskcmd.specs.Leaves.{MakeLeaves, MakeSafe}
use Rattle.tw_text.specs.declared.fault.CommandFault.{CommandFault}
use Rattle.tw_diskcmd.specs.FollowerDisks.{FoundDisk, IsImageOfHeads}

-- the thread of the new follower is step 0 of the name
abbrev pub WatchComes : FoundDisk → (name : List ℕ) → Result Thread CommandFault → Type 0
WatchComes t name result = MakeComes t (first_thread sha256 name) result

module _ {D : Type 0} (view : D → DiskView) (old new : D) where
  -- its store stands for the list of this name that has no head
  abbrev pub WatchSafe : (name : List ℕ) → Type 0
  WatchSafe name = MakeSafe (root_kind sha256) IsImageOfHeads view old new (no_heads name)

  abbrev pub WatchLeaves : (name : List ℕ) → Result Thread CommandFault → Type 0
  WatchLeaves name result = MakeLeaves (root_kind sha256) IsImageOfHeads view old new (no_heads name) result
