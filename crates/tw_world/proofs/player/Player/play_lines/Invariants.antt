use Rattle.std.proofs.Common.{take}
use Rattle.tw_world.specs.PlayedLines.{HasPlayed}
use Rattle.tw_world.specs.Playing.{script_lines}
use Rattle.tw_world.proofs.player.Player.play_lines.Given as goal

-- the lines so far were played
abbrev pub invariant-loop-numbered : goal.invariant-loop-numbered
invariant-loop-numbered l = HasPlayed (script_lines (take l.numbered-index l.lines)) l.told l.self
