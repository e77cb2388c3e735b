-- The numbers of pages that a history's nodes have, as the functions that an export keeps.
use Rattle.std.proofs.Common.{◌≡◌, ◌≢◌, ℕ, suc, List, [], ◌∷◌, ◌++◌, Bool, true, false, refl, ap, sym, ◌∙◌}
use Rattle.std.specs.Prelude.{◌==◌, cond, is_some, map, nat_eq, unwrap_or, Option, Some, None}
use Rattle.std.specs.Map.{update}
use Rattle.tw_rbtree.specs.declared.new_node.NewNode.{NewNode}
use Rattle.tw_rbtree.specs.declared.new_node.Side.{Side}
use Rattle.tw_rbtree.specs.declared.new_node.Side.TheVariants.{Empty as NoTree, New, Old}
use Rattle.tw_archive.specs.Numbering.{PageNumbers, history_node, number_of_page, numbers_of_nodes, side_number}
use Rattle.tw_export.specs.NodeNumbers.{Numbers, numbered_node, with_pages}
use Rattle.tw_export.specs.NodeNumbers as told

-- the number of each page that has one in the list
abbrev pub numbers_of : PageNumbers → Numbers
numbers_of [] page = None
numbers_of (p ∷ ps) page = cond (p.page == page) (Some p.node) (numbers_of ps page)

pub number-same : (known : PageNumbers) (page : ℕ) → told.node_number_at (numbers_of known) page ≡ number_of_page known
    page
number-same [] page = refl
number-same (p ∷ ps) page = by (p.page == page) (number-same ps page)
  where
    by : (b : Bool) → unwrap_or (numbers_of ps page) 0 ≡ number_of_page ps page
        → unwrap_or (cond b (Some p.node) (numbers_of ps page)) 0 ≡ cond b p.node (number_of_page ps page)
    by true same = refl
    by false same = same

-- a page whose number isn't 0 has one
pub has-number : (known : PageNumbers) (page : ℕ) → number_of_page known page ≢ 0 → is_some (numbers_of known page)
    ≡ true
has-number known page some = by (numbers_of known page) (λ none. some (sym (number-same known page) ∙ none))
  where
    by : (o : Option ℕ) → unwrap_or o 0 ≢ 0 → is_some o ≡ true
    by None other = absurd (other refl)
    by (Some n) other = refl

-- with the pages of these nodes
pub with_pages-list : (known : PageNumbers) (before : ℕ) (nodes : List NewNode) → with_pages (numbers_of known) before
    nodes ≡ numbers_of (numbers_of_nodes before nodes ++ known)
with_pages-list known before [] = refl
with_pages-list known before (n ∷ ns) = by (n.page == 0) (with_pages-list known (suc before) ns)
  where
    by : (b : Bool) → with_pages (numbers_of known) (suc before) ns ≡ numbers_of
        (numbers_of_nodes (suc before) ns ++ known)
        → cond b (with_pages (numbers_of known) (suc before) ns)
        (update nat_eq (with_pages (numbers_of known) (suc before) ns) n.page (Some (suc before)))
        ≡ numbers_of (cond b (numbers_of_nodes (suc before) ns) (record { page = n.page; node = suc before } ∷ numbers_of_nodes
        (suc before) ns) ++ known)
    by true same = same
    by false same = ap (λ (f : Numbers). update nat_eq f n.page (Some (suc before))) same

-- a listed node is the history's
module _ (known : PageNumbers) (before : ℕ) where
  side-same : (s : Side) → told.new_side_number (numbers_of known) before s ≡ side_number known before s
  side-same NoTree = refl
  side-same (New place) = refl
  side-same (Old page) = number-same known page

  pub nodes-same : (nodes : List NewNode) → map (numbered_node (numbers_of known) before) nodes ≡ map
      (history_node known before) nodes
  nodes-same [] = refl
  nodes-same (n ∷ ns) = λ i. record { left = side-same n.left i; entry = n.entry.archived; right = side-same n.right i }
      ∷ nodes-same ns i
