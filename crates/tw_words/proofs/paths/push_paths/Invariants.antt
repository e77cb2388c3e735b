use Rattle.std.proofs.Common.{◌≡◌, ◌++◌, map, drop}
use Rattle.std.specs.String.{string_bytes}
use Rattle.tw_words.proofs.paths.push_paths.Given as goal

-- the paths so far, and the words that are left
abbrev pub invariant-loop-word : goal.invariant-loop-word
invariant-loop-word l = l.paths ++ map string_bytes (drop l.word-index l.words) ≡ l.initial.paths ++ map string_bytes
    l.words
