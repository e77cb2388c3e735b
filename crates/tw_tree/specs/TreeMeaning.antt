-- What a tree of the code stands for.
use Rattle.tw_base.specs.history.Tree.{Tree as TreeOfEntries}
use Rattle.tw_base.specs.history.Tree.Tree.{Empty as NoEntry, Branch as RootedAt}
use Rattle.tw_tree.specs.declared.tree.Tree.{Tree}
use Rattle.tw_tree.specs.declared.tree.Tree.TheVariants.{Empty, Branch'}

-- the tree as the definitions of archives have it
abbrev pub meant_tree : Tree → TreeOfEntries
meant_tree Empty = NoEntry
meant_tree (Branch' _ left entry _ right) = RootedAt (meant_tree left) entry (meant_tree right)
