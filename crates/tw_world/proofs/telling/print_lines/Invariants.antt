use Rattle.std.proofs.Common.{◌≡◌, ◌++◌, drop}
use Rattle.tw_world.specs.Telling.{told_lines}
use Rattle.tw_world.proofs.telling.print_lines.Given as goal

-- the text so far, and the lines that are left
abbrev pub invariant-loop-index : goal.invariant-loop-index
invariant-loop-index l = l.text ++ told_lines (drop l.index l.lines) (drop l.index l.told) ≡ told_lines l.lines l.told
