-- What is around a run: its words, and what was outside before it and after it.
use Rattle.std.specs.Prelude.{ℕ, List, Option}
use Rattle.tw_disk.specs.Disk.{DiskView}
use Rattle.tw_outside.specs.Asked.{Asked}
use Rattle.tw_outside.specs.TakenBytes.{Appends}
use Rattle.tw_diskcmd.specs.Comes.{FoundDisk, found_disk}

-- a value before the run, and after it
pub record Span (A : Type 0) : Type 0 where
  pub before : A
  pub after : A

abbrev pub span : {A : Type 0} → (before after : A) → Span A
span before after = record { before = before; after = after }

-- what a command has outside: what its inputs told and counted, and the disk that it was handed and handed back
pub record Outside (D : Type 0) : Type 0 where
  pub inputs : Asked
  pub disk : Span D

abbrev pub outside : {D : Type 0} → (inputs : Asked) → (old new : D) → Outside D
outside inputs old new = record { inputs = inputs; disk = span old new }

-- what was met of that disk
abbrev pub found_around : {D : Type 0} → (view : D → DiskView) → Outside D → FoundDisk
found_around view o = found_disk (view o.disk.before).content (view o.disk.before).faults (view o.disk.after).faults

pub record Around (D : Type 0) : Type 0 where
  pub words : List (List ℕ)
  pub outside : Outside D
  -- what the sink has taken, where it tells that, and how often it has failed
  pub taken : Span (Option (List ℕ))
  pub sink_faults : Span ℕ

-- the text was written whole
abbrev pub Writes : {D : Type 0} → Around D → (text : List ℕ) → Type 0
Writes around text = Appends around.taken.before around.taken.after text

abbrev pub around : {D : Type 0} → (words : List (List ℕ)) → Outside D → (taken : Span (Option (List ℕ))) (sink_faults : Span ℕ) → Around D
around words outside taken sink_faults = record { words = words; outside = outside; taken = taken; sink_faults = sink_faults }
