-- `heads`: what the heads of a follower are, what the command comes to, and what it leaves of the disk.
use Rattle.std.specs.Prelude.{◌≡◌, ℕ, List, flat_map, Option, Some, Result, Ok, Err}
use Rattle.sha2.specs.Sha256.{sha256}
use Rattle.tw_base.specs.declared.history.thread.Thread.{Thread}
use Rattle.tw_base.specs.kinds.Faults.{Rose}
use Rattle.tw_disk.specs.Disk.{DiskView}
use Rattle.tw_disk.specs.Found.{Found}
use Rattle.tw_disk.specs.Found.Found.{Is, Bad}
use Rattle.tw_disk.specs.Image.{Image}
use Rattle.tw_follow.specs.declared.root.RootRecord.{RootRecord}
use Rattle.tw_follow.specs.HeadLists.{Kept, RiseTo}
use Rattle.tw_follow.specs.HeadPages.{found_heads}
use Rattle.tw_follow.specs.Stands.{IsServed, root_kind}
use Rattle.tw_pages.specs.Records.{Served}
use Rattle.tw_pages.specs.Records.Served.{Opened, Unopened}
use Rattle.tw_text.specs.Lines.{anchor_text}
use Rattle.tw_text.specs.declared.refusal.StoreCause.TheVariants.{BadPage}
use Rattle.tw_text.specs.declared.fault.CommandFault.{CommandFault}
use Rattle.tw_text.specs.declared.fault.CommandFault.TheVariants as fault
use Rattle.tw_diskcmd.specs.StoreFaults.{fault_of_store}
use Rattle.tw_diskcmd.specs.Leaves.{ReadLeaves, ReadSafe}
use Rattle.tw_diskcmd.specs.FollowerDisks.{FoundDisk, IsImageOfHeads, ReadsAsHeads}

-- the anchor line of each
abbrev pub head_lines : List Thread → List ℕ
head_lines heads = flat_map (λ head. anchor_text head) heads

-- what is found in the pages, as the command's result
abbrev pub as_lines : Found (List Thread) → Result (List ℕ) CommandFault
as_lines (Is heads) = Ok (head_lines heads)
as_lines (Bad page) = Err (fault.Unserved (BadPage page))

-- of the follower that the disk is served as, or why there is none
abbrev pub lines_over : Served RootRecord → Result (List ℕ) CommandFault
lines_over (Opened w) = as_lines (found_heads w.pages w.root)
lines_over (Unopened why) = Err (fault_of_store why)

-- the lines are those of heads that rise to this one
abbrev pub ListsTo : (head : Thread) → (lines : List ℕ) → Type 0
ListsTo head lines = (heads : List Thread) × RiseTo head heads × (lines ≡ head_lines heads)

-- over whatever disk, also one that contradicts itself: the lines are those of heads that rise to one
abbrev pub TableLists : Result (List ℕ) CommandFault → Type 0
TableLists (Ok lines) = (head : Thread) × ListsTo head lines
TableLists _ = Unit {0}

-- where what the disk read as is told, the result is that of the follower that it is served as; the table allows it; and where the disk
-- reads as a list of heads, it is the list's lines
pub record IsListed (found : Option Image) (result : Result (List ℕ) CommandFault) : Type 0 where
  pub answer : (image : Image) → found ≡ Some image → (served : Served RootRecord) × IsServed sha256 image served × (result ≡ lines_over served)
  pub table : TableLists result
  pub list : (kept : Kept) → ReadsAsHeads found kept → result ≡ Ok (head_lines kept.heads)

-- what it comes to; want of memory is free
abbrev pub HeadsComes : FoundDisk → Result (List ℕ) CommandFault → Type 0
HeadsComes t (Ok lines) = IsListed t.found (Ok lines)
HeadsComes t (Err (fault.Unserved cause)) = IsListed t.found (Err (fault.Unserved cause))
HeadsComes t (Err fault.DiskFault) = Rose t.before t.after
HeadsComes t (Err fault.NoMemory) = Unit {0}
HeadsComes t _ = ⊥

module _ {D : Type 0} (view : D → DiskView) (old new : D) where
  -- it only reads
  abbrev pub HeadsLeaves : Result (List ℕ) CommandFault → Type 0
  HeadsLeaves result = ReadLeaves (root_kind sha256) IsImageOfHeads view old new result

  abbrev pub HeadsSafe : Type 0
  HeadsSafe = ReadSafe (root_kind sha256) IsImageOfHeads view old new
