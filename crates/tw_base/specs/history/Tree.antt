-- The archive's trees: the binary trees that the node numbers of a history stand for.
use Rattle.std.specs.Prelude.{ℕ, suc, zero, max, List, [], ◌∷◌, ◌++◌, slice_index_or, Option, Some, None}
use Rattle.tw_base.specs.declared.history.thread.Entry.{Entry}
use Rattle.tw_base.specs.kinds.Lists.{Each}
use Rattle.tw_base.specs.history.Entries.{IsFit, KeyBelow, key_of}
use Rattle.tw_base.specs.history.History.{History, Node, entry_to, fresh_of, root_of, step_at}

pub data Tree : Type 0 where
  Empty : Tree
  Branch : Tree → Entry → Tree → Tree

-- the entries in order
abbrev pub entries : Tree → List Entry
entries Empty = []
entries (Branch left e right) = entries left ++ e ∷ entries right

-- the most nodes on a way down
unfoldable pub height : Tree → ℕ
height Empty = 0
height (Branch left e right) = suc (max (height left) (height right))

-- each entry's key is below those of all later ones
abbrev pub IsRising : List Entry → Type 0
IsRising [] = Unit {0}
IsRising (e ∷ es) = Each (λ f. KeyBelow (key_of e) (key_of f)) es × IsRising es

-- the entries rise strictly by key, and their fields have the widths of the hashed text
pub record IsRisingTree (t : Tree) : Type 0 where
  pub rising : IsRising (entries t)
  pub fits : Each IsFit (entries t)

-- the tree of a node; one without an entry stands for the empty tree
abbrev pub branch : Option Entry → Tree → Tree → Tree
branch None left right = Empty
branch (Some e) left right = Branch left e right

-- the trees of new nodes, over the trees of the nodes before them
unfoldable pub planted : (entry : ℕ → Option Entry) → List Tree → List Node → List Tree
planted entry trees [] = []
planted entry trees (n ∷ ns) =
    let t = branch (entry n.entry) (slice_index_or trees n.left Empty) (slice_index_or trees n.right Empty) in
    t ∷ planted entry (trees ++ t ∷ []) ns

-- the trees of the nodes of the steps up to i, by their numbers; number 0 is the empty tree
unfoldable pub forest : History → ℕ → List Tree
forest h zero = Empty ∷ []
forest h (suc i) = forest h i ++ planted (entry_to h (suc i)) (forest h i) (fresh_of (step_at h (suc i)))

-- the trees of the new nodes of step i + 1
abbrev pub new_trees : History → ℕ → List Tree
new_trees h i = planted (entry_to h (suc i)) (forest h i) (fresh_of (step_at h (suc i)))

-- the archive after step i; a missing number stands for the empty tree
unfoldable pub tree : History → ℕ → Tree
tree h i = slice_index_or (forest h i) (root_of (step_at h i)) Empty
