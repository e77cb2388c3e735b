-- `generate`: what is written of three services that play by a number, and what the command comes to.
use Rattle.std.specs.Prelude.{ℕ, List, Result, Ok, Err}
use Rattle.sha2.specs.Sha256.{sha256}
use Rattle.tw_disk.specs.MemDisk.{mem_disk_view}
use Rattle.tw_disk.specs.declared.memory_disk.MemDisk.{MemDisk}
use Rattle.tw_generate.specs.Generating.{IsGenerated}
use Rattle.tw_text.specs.declared.fault.CommandFault.{CommandFault}
use Rattle.tw_text.specs.declared.fault.CommandFault.TheVariants.{NoMemory}

-- the text is that of the run by this number of so many rounds, on three disks
abbrev pub IsGeneratedText : (number rounds : ℕ) (text : List ℕ) → Type 0
IsGeneratedText number rounds text =
    (alpha : MemDisk) × (beta : MemDisk) × (gamma : MemDisk) × IsGenerated sha256 number rounds text (mem_disk_view alpha) (mem_disk_view beta) (mem_disk_view gamma)

-- what it comes to; want of memory is free
abbrev pub GenerateComes : (number rounds : ℕ) → Result (List ℕ) CommandFault → Type 0
GenerateComes number rounds (Ok text) = IsGeneratedText number rounds text
GenerateComes number rounds (Err NoMemory) = Unit {0}
GenerateComes number rounds _ = ⊥
