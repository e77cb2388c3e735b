-- The ranges that a history file gives the numbers of nodes.
use Rattle.std.specs.Prelude.{◌<◌, ◌^◌, length}
use Rattle.tw_base.specs.kinds.Lists.{Each}
use Rattle.tw_base.specs.history.History.{History, Node, Step}

abbrev pub IsNodeInRange : Node → Type 0
IsNodeInRange n = (n.left < 2 ^ 32) × (n.entry < 2 ^ 64) × (n.right < 2 ^ 32)

-- fewer than 2^16 new nodes, each in its range, and a root in its own
pub record IsStepInRange (s : Step) : Type 0 where
  pub count : length s.fresh < 2 ^ 16
  pub nodes : Each IsNodeInRange s.fresh
  pub root : s.root < 2 ^ 32

-- each number of the nodes fits its field
abbrev pub IsInFileRange : History → Type 0
IsInFileRange h = Each IsStepInRange h.steps
