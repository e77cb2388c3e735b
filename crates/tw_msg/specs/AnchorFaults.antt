-- What a fault of an anchors file tells.
use Rattle.std.specs.Prelude.{ℕ, List}
use Rattle.tw_msg.specs.AnchorsFile.{IsFirstBadLine}
use Rattle.tw_msg.specs.declared.anchors.AnchorFault.{AnchorFault}
use Rattle.tw_msg.specs.declared.anchors.AnchorFault.TheVariants.{BadLine, NoMemory}

abbrev pub TellsBadLine : List (List ℕ) → AnchorFault → Type 0
TellsBadLine lines (BadLine line) = IsFirstBadLine lines line
TellsBadLine lines NoMemory = Unit {0}
