-- What stands under a disk and under a sink.
use Rattle.std.specs.Prelude.{ℕ}
use Rattle.tw_hostio.specs.declared.file_disk.FileDisk.{FileDisk}
use Rattle.tw_hostio.specs.declared.host_sink.HostSink.{HostSink}
use Rattle.tw_hostio.specs.declared.page_file.PageFile as files

-- the file of the disk
abbrev pub file_under : {F : Type 0} {g : files.Ghosts F} → FileDisk F g → F
file_under disk = disk.file

-- how often the disk has failed
abbrev pub disk_faults : {F : Type 0} {g : files.Ghosts F} → FileDisk F g → ℕ
disk_faults disk = disk.faults

-- the output of the sink
abbrev pub output_under : {O : Type 0} → HostSink O → O
output_under sink = sink.output
