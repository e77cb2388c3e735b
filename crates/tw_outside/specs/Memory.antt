-- What the inputs and the sink in memory hold.
use Rattle.std.specs.Prelude.{ℕ, List, map}
use Rattle.std.specs.String.{string_bytes}
use Rattle.std.specs.FinMap.{from_entries}
use Rattle.tw_outside.specs.Files.{Files}
use Rattle.tw_outside.specs.declared.mem_inputs.StoredFile.{StoredFile}
use Rattle.tw_outside.specs.declared.mem_inputs.MemInputs.{MemInputs}
use Rattle.tw_outside.specs.declared.mem_sink.MemSink.{MemSink}

-- the newest first, which counts
abbrev pub files_in : List StoredFile → Files
files_in stored = from_entries (map (λ file. (string_bytes file.name, file.bytes.items)) stored)

abbrev pub mem_files : MemInputs → Files
mem_files inputs = files_in inputs.files.items

-- the reads that are to fail, counted from now
abbrev pub failing_reads : MemInputs → List ℕ
failing_reads inputs = inputs.failing

abbrev pub input_faults : MemInputs → ℕ
input_faults inputs = inputs.faults

abbrev pub bytes_taken : MemSink → List ℕ
bytes_taken sink = sink.taken.items

-- the writes that are to fail, counted from now
abbrev pub failing_writes : MemSink → List ℕ
failing_writes sink = sink.failing

abbrev pub sink_faults : MemSink → ℕ
sink_faults sink = sink.faults
