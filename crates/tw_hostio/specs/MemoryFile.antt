-- What a file in memory tells.
use Rattle.std.specs.Prelude.{ℕ, List, Bool, true, false, length, Some}
use Rattle.tw_hostio.specs.FileSteps.{LeftOf, LeftSince}
use Rattle.tw_hostio.specs.PageFile.{FileView}
use Rattle.tw_hostio.specs.declared.access.Access.{Access}
use Rattle.tw_hostio.specs.declared.access.Access.TheVariants.{Read, Write}
use Rattle.tw_hostio.specs.declared.memory_file.MemFile.{MemFile}
use Rattle.tw_hostio.specs.declared.file_stage.FileStage.{FileStage}
use Rattle.tw_hostio.specs.declared.file_stage.FileStage.TheVariants.{Closed, Locked, Named}

-- how far a file is opened that is open or isn't, and is to be read alone or written too
abbrev pub stage_by : (is_open : Bool) → Access → FileStage
stage_by false access = Closed
stage_by true Read = Locked
stage_by true Write = Named

abbrev pub file_bytes_of : MemFile → List ℕ
file_bytes_of file = file.bytes.items

-- the calls that are to fail, counted from now
abbrev pub failing_of : MemFile → List ℕ
failing_of file = file.failing

-- the calls that are to be interrupted, counted from now
abbrev pub interrupted_of : MemFile → List ℕ
interrupted_of file = file.interrupted

-- the most bytes that a call transfers
abbrev pub most_of : MemFile → ℕ
most_of file = file.most

abbrev pub mem_file_view : MemFile → FileView
mem_file_view file = record {
  bytes = Some file.bytes.items;
  may_leave = LeftOf file.first.items file.steps.items;
  moment = length file.steps.items;
  left_since = LeftSince file.first.items file.steps.items;
  stage = stage_by file.is_open file.access;
  faults = file.faults;
}
