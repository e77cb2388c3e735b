-- The order of listed nodes: those of a node's left side, those of its right side, and then the node.
use Rattle.std.specs.Prelude.{◌≡◌, ℕ, ◌+◌, List, [], ◌∷◌, ◌++◌, length}
use Rattle.tw_rbtree.specs.declared.new_node.NewNode.{NewNode}
use Rattle.tw_rbtree.specs.declared.new_node.Side.{Side}
use Rattle.tw_rbtree.specs.declared.new_node.Side.TheVariants.{Empty, New, Old}

-- what is listed of a tree: nothing of the empty one, and of that of an older page; else a node between what is listed of its sides
pub data ListedTree : Type 0 where
  NoTree : ListedTree
  OldTree : (page : ℕ) → ListedTree
  Between : (left : ListedTree) → NewNode → (right : ListedTree) → ListedTree

abbrev pub postorder : ListedTree → List NewNode
postorder NoTree = []
postorder (OldTree page) = []
postorder (Between left n right) = postorder left ++ (postorder right ++ n ∷ [])

-- how a node names the tree at its side, where so many nodes are listed before that tree's: by the number of its last one
abbrev pub side_of : (before : ℕ) → ListedTree → Side
side_of before NoTree = Empty
side_of before (OldTree page) = Old page
side_of before (Between left n right) = New (before + length (postorder (Between left n right)))

-- each node names its sides
abbrev pub NamesSides : (before : ℕ) → ListedTree → Type 0
NamesSides before NoTree = Unit {0}
NamesSides before (OldTree page) = Unit {0}
NamesSides before (Between left n right) =
    (n.left ≡ side_of before left) × (n.right ≡ side_of (before + length (postorder left)) right)
    × NamesSides before left × NamesSides (before + length (postorder left)) right
