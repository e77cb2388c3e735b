use Rattle.std.proofs.Common.{length}
use Rattle.tw_msg.specs.AnchorsFile.{is_line_feed}
use Rattle.tw_script.specs.Takings.{parts_left}
use Rattle.tw_script.proofs.ReadingSteps.{AreRead}
use Rattle.tw_script.proofs.script.read_lines.Given as goal

abbrev pub invariant-loop-text : goal.invariant-loop-text
invariant-loop-text l = AreRead l.bytes l.made l.script l.number (parts_left is_line_feed l.texts.more l.texts.text.now)

abbrev pub decreases-loop-text : goal.decreases-loop-text
decreases-loop-text l = length (parts_left is_line_feed l.texts.more l.texts.text.now)
