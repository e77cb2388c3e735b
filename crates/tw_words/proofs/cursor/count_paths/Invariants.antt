use Rattle.std.proofs.Common.{◌≡◌, ◌+◌, map, drop}
use Rattle.std.specs.String.{string_bytes}
use Rattle.tw_words.specs.Forms.{count_paths}
use Rattle.tw_words.proofs.cursor.count_paths.Given as goal

-- the words before this one are paths
abbrev pub invariant-loop-i : goal.invariant-loop-i
invariant-loop-i l = count_paths (map string_bytes l.words) ≡ l.i + count_paths (map string_bytes (drop l.i l.words))
