-- The numbers that a history gives the nodes of its archive's tree pages. Nodes are numbered from 1 over the whole history.
use Rattle.std.specs.Prelude.{ℕ, suc, zero, ◌+◌, ◌==◌, List, [], ◌∷◌, ◌++◌, length, if◌then◌else◌}
use Rattle.tw_base.specs.declared.history.root.Root.{Root}
use Rattle.tw_base.specs.history.History.{Node}
use Rattle.tw_disk.specs.declared.limits.TheConstants.{FIRST_PAGE}
use Rattle.tw_disk.specs.Found.{Found}
use Rattle.tw_disk.specs.Found.Found.{Is, Bad}
use Rattle.tw_disk.specs.Image.{Image}
use Rattle.tw_rbtree.specs.declared.new_node.NewNode.{NewNode}
use Rattle.tw_rbtree.specs.declared.new_node.Side.{Side}
use Rattle.tw_rbtree.specs.declared.new_node.Side.TheVariants.{Empty as NoTree, New, Old}
use Rattle.tw_rbtree.specs.Listing.{listed}

-- a tree page, and the number of the node that is its root
pub record PageNumber : Type 0 where
  pub page : ℕ
  pub node : ℕ

abbrev pub PageNumbers : Type 0
PageNumbers = List PageNumber

-- the number of the page's root; 0 where the page has none, as page 0 has
abbrev pub number_of_page : PageNumbers → (page : ℕ) → ℕ
number_of_page [] page = 0
number_of_page (p ∷ ps) page = if p.page == page then p.node else number_of_page ps page

-- `known` are the numbers of older pages, and `before` is how many nodes were numbered before
module _ (known : PageNumbers) (before : ℕ) where
  -- the number of a listed node's side
  abbrev pub side_number : Side → ℕ
  side_number NoTree = 0
  side_number (New place) = before + place
  side_number (Old page) = number_of_page known page

  -- a listed node, as the history has it
  abbrev pub history_node : NewNode → Node
  history_node n = record { left = side_number n.left; entry = n.entry.archived; right = side_number n.right }

-- the pages whose roots these nodes are
abbrev pub numbers_of_nodes : (before : ℕ) → List NewNode → PageNumbers
numbers_of_nodes before [] = []
numbers_of_nodes before (n ∷ ns) =
    if n.page == 0 then numbers_of_nodes (suc before) ns else record { page = n.page; node = suc before } ∷ numbers_of_nodes (suc before) ns

-- how many nodes were numbered, and the pages of those that are a page's root
pub record Numbered : Type 0 where
  pub count : ℕ
  pub pages : PageNumbers

-- the same where these nodes are numbered too; their pages stand first
abbrev pub numbered_on : Numbered → List NewNode → Numbered
numbered_on n nodes = record { count = n.count + length nodes; pages = numbers_of_nodes n.count nodes ++ n.pages }

-- what is listed; nothing where pages are bad
abbrev pub nodes_in : Found (List NewNode) → List NewNode
nodes_in (Is nodes) = nodes
nodes_in (Bad page) = []

-- The page behind that of step k. The tree pages from it on that are in the tree of step k + 1 are new there.
abbrev pub new_from : (step_page : ℕ → ℕ) → ℕ → ℕ
new_from step_page zero = FIRST_PAGE
new_from step_page (suc k) = suc (step_page (suc k))

-- the number of each step's page, and the archive's root after each step
module _ (dig : List ℕ → List ℕ) (pages : Image) (step_page : ℕ → ℕ) (archive : ℕ → Root) where
  -- the nodes that are new in step k + 1
  abbrev pub archive_new_nodes : ℕ → List NewNode
  archive_new_nodes k = nodes_in (listed dig pages (new_from step_page k) (archive (suc k)))

  -- what is numbered after step k
  unfoldable pub numbered_archive : ℕ → Numbered
  numbered_archive zero = record { count = 0; pages = [] }
  numbered_archive (suc k) = numbered_on (numbered_archive k) (archive_new_nodes k)
