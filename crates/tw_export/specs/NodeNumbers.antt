-- The numbers that nodes of tree pages get in a history, whatever the pages keep.
use Rattle.std.specs.Prelude.{ℕ, suc, ◌+◌, ◌==◌, ◌&&◌, ◌||◌, List, [], ◌∷◌, length, nat_eq, Bool, true, is_some, unwrap_or, Option, Some, None, if◌then◌else◌}
use Rattle.std.specs.List.{list_all}
use Rattle.std.specs.Map.{update}
use Rattle.tw_base.specs.history.History.{Node}
use Rattle.tw_disk.specs.declared.limits.TheConstants.{FIRST_PAGE}
use Rattle.tw_rbtree.specs.declared.new_node.NewNode.{NewNode}
use Rattle.tw_rbtree.specs.declared.new_node.Side.{Side}
use Rattle.tw_rbtree.specs.declared.new_node.Side.TheVariants.{Empty as NoTree, New, Old}

-- of tree pages, the number of the node that is their root; none where it has none
abbrev pub Numbers : Type 0
Numbers = ℕ → Option ℕ

-- the number of a page's root; 0 where it has none, as page 0 has
abbrev pub node_number_at : Numbers → (page : ℕ) → ℕ
node_number_at numbers page = unwrap_or (numbers page) 0

-- what stands on a side of a listed node has a number: older pages have one where they were numbered
abbrev pub is_numbered : Numbers → Side → Bool
is_numbered numbers NoTree = true
is_numbered numbers (New place) = true
is_numbered numbers (Old page) = is_some (numbers page)

abbrev pub is_known : Numbers → NewNode → Bool
is_known numbers n = is_numbered numbers n.left && is_numbered numbers n.right

-- `before` many nodes were numbered before those that are listed
module _ (numbers : Numbers) (before : ℕ) where
  abbrev pub new_side_number : Side → ℕ
  new_side_number NoTree = 0
  new_side_number (New place) = before + place
  new_side_number (Old page) = node_number_at numbers page

  -- a listed node, as the history has it
  abbrev pub numbered_node : NewNode → Node
  numbered_node n = record { left = new_side_number n.left; entry = n.entry.archived; right = new_side_number n.right }

-- the numbers with those of the pages whose roots these nodes are; of two nodes that are told to be one page's root the first counts
abbrev pub with_pages : Numbers → (before : ℕ) → List NewNode → Numbers
with_pages numbers before [] = numbers
with_pages numbers before (n ∷ ns) =
    if n.page == 0 then with_pages numbers (suc before) ns else update nat_eq (with_pages numbers (suc before) ns) n.page (Some (suc before))

-- ---- an archive, step by step

-- how many nodes were numbered so far, the numbers of pages, that of the archive's root, and the page behind that of the last step
pub record Archive : Type 0 where
  pub count : ℕ
  pub numbers : Numbers
  pub root : ℕ
  pub since : ℕ

-- before the first step, whose new pages are those from the first one on
abbrev pub no_archive : Archive
no_archive = record { count = 0; numbers = λ page. None; root = 0; since = FIRST_PAGE }

-- these nodes are numbered too; then the page of the root, and that of the step
abbrev pub with_nodes : Archive → List NewNode → (root step : ℕ) → Archive
with_nodes a nodes root step = record {
  count = a.count + length nodes;
  numbers = with_pages a.numbers a.count nodes;
  root = node_number_at (with_pages a.numbers a.count nodes) root;
  since = step + 1;
}

-- each older page at a side of these nodes was numbered, and so is the page of the root then, where it has one
abbrev pub are_known : Archive → List NewNode → (root : ℕ) → Bool
are_known a nodes root = list_all (is_known a.numbers) nodes && ((root == 0) || is_some (with_pages a.numbers a.count nodes root))
