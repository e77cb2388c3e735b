-- The anchors of lines that were read.
use Rattle.std.specs.Prelude.{◌≡◌, ℕ, List, map}
use Rattle.tw_base.specs.declared.history.thread.Thread.{Thread}
use Rattle.tw_msg.specs.AnchorsFile.{AllGood, anchor_on, lines}

-- all lines are good, and these are their anchors
pub record AreAnchorsOf (bytes : List ℕ) (anchors : List Thread) : Type 0 where
  pub good : AllGood (lines bytes)
  pub are : anchors ≡ map anchor_on (lines bytes)
