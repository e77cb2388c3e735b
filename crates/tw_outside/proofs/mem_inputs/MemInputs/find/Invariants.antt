use Rattle.std.proofs.Common.{◌≡◌, map}
use Rattle.std.specs.Ordering.{nat_cmp}
use Rattle.std.specs.Cmp.Lexicographic.{slice_cmp}
use Rattle.std.specs.FinMap.{get, find}
use Rattle.std.specs.String.{string_bytes}
use Rattle.std.specs.VecDeque.Iter.{deque_iter_rest}
use Rattle.tw_outside.specs.Memory.{mem_files}
use Rattle.tw_outside.proofs.mem_inputs.MemInputs.find.Given as goal

abbrev pub invariant-loop-file : goal.invariant-loop-file
invariant-loop-file l =
    get (mem_files l.self) l.name ≡ find (slice_cmp nat_cmp) l.name
    (map (λ file. (string_bytes file.name, file.bytes.items)) (deque_iter_rest l.file-iterator))
