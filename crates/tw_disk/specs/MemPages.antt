-- What a list of pages in memory shows.
use Rattle.std.specs.Prelude.{ℕ, List, length, drop, Option, Some}
use Rattle.tw_disk.specs.declared.limits.TheConstants.{FIRST_PAGE}
use Rattle.tw_disk.specs.Image.{Image}
use Rattle.tw_disk.specs.Pages.{PagesView}
use Rattle.tw_disk.specs.declared.memory_pages.MemPages.{MemPages}

-- all its pages, the first four among them
abbrev pub all_pages_of : MemPages → Image
all_pages_of pages = pages.pages.items

-- the pages from number 4 on, which it always tells
abbrev pub mem_list : MemPages → Option Image
mem_list pages = Some (drop FIRST_PAGE pages.pages.items)

-- the number of pages, the first four among them
abbrev pub mem_count : MemPages → ℕ
mem_count pages = length pages.pages.items

-- nothing but the list, which its own clauses tell, has to be the same
abbrev pub IsSame : MemPages → MemPages → Type 0
IsSame old new = Unit {0}

-- there is no device whose call might have failed
abbrev pub ArePagesUnbroken : MemPages → Type 0
ArePagesUnbroken pages = Unit {0}

-- how many calls of read it has had since it was made
abbrev pub page_reads : MemPages → ℕ
page_reads pages = pages.reads

-- the reads that are to fail, counted from now
abbrev pub failing_pages : MemPages → List ℕ
failing_pages pages = pages.failing

-- how often a read has failed
abbrev pub faults_of : MemPages → ℕ
faults_of pages = pages.faults

-- all that they tell of themselves
abbrev pub mem_pages_view : MemPages → PagesView
mem_pages_view pages = record { list = mem_list pages; used = mem_count pages; faults = faults_of pages; unbroken = ArePagesUnbroken pages }
