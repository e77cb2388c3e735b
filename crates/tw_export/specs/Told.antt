-- What is told so far, as it is defined.
use Rattle.std.specs.BTreeMap.{get}
use Rattle.std.specs.Ordering.{nat_cmp}
use Rattle.tw_export.specs.declared.archive.ArchiveSoFar.{ArchiveSoFar}
use Rattle.tw_export.specs.declared.file.HistoryFile.{HistoryFile}
use Rattle.tw_export.specs.declared.numbers.PageNumbers.{PageNumbers}
use Rattle.tw_export.specs.declared.so_far.StepsSoFar.{StepsSoFar}
use Rattle.tw_export.specs.Exporting.{SoFar}
use Rattle.tw_export.specs.Files.{File}
use Rattle.tw_export.specs.NodeNumbers.{Archive, Numbers}

abbrev pub numbers_in : PageNumbers → Numbers
numbers_in pages page = get nat_cmp pages.nodes page

abbrev pub archive_so_far : ArchiveSoFar → Archive
archive_so_far a = record { count = a.count; numbers = numbers_in a.pages; root = a.root; since = a.since }

abbrev pub file_of : HistoryFile → File
file_of f = record { bytes = f.bytes; size = f.size; is_short = f.is_short }

abbrev pub so_far_of : StepsSoFar → SoFar
so_far_of s = record { file = file_of s.file; archive = archive_so_far s.archive }
