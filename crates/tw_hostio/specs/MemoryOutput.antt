-- What an output in memory tells.
use Rattle.std.specs.Prelude.{ℕ, List}
use Rattle.tw_hostio.specs.declared.memory_output.MemOutput.{MemOutput}
use Rattle.tw_outside.specs.declared.mem_sink.MemSink.{MemSink}

-- the sink that takes what is written
abbrev pub sink_under : MemOutput → MemSink
sink_under output = output.sink

-- the writes that are to be interrupted, counted from now
abbrev pub interrupted_writes : MemOutput → List ℕ
interrupted_writes output = output.interrupted

-- the most bytes that a write takes
abbrev pub most_taken : MemOutput → ℕ
most_taken output = output.most
