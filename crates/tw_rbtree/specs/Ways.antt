-- The way down that a question takes through the pages of a tree.
use Rattle.std.specs.Prelude.{ℕ, suc, zero, ◌+◌, ◌-◌, ◌==◌, List, [], ◌∷◌, slice_index_or, map, Option, Some, None, if◌then◌else◌}
use Rattle.tw_base.specs.declared.history.root.Root.{Root}
use Rattle.tw_base.specs.declared.history.thread.Entry.{Entry}
use Rattle.tw_base.specs.declared.history.thread.Key.{Key}
use Rattle.tw_base.specs.declared.history.tree_proof.Ask.{Ask}
use Rattle.tw_base.specs.declared.history.tree_proof.Ask.TheVariants.{Absent, Above, Below}
use Rattle.tw_base.specs.history.Ways.{has_asked_key, is_left}
use Rattle.tw_disk.specs.Image.{Image}
use Rattle.tw_disk.specs.Found.{Found, ◌>>=◌}
use Rattle.tw_disk.specs.Found.Found.{Is}
use Rattle.tw_rbnode.specs.declared.child.Child.{Child as Link}
use Rattle.tw_rbnode.specs.declared.node.Found.{Found as Spot}
use Rattle.tw_rbnode.specs.declared.node.Found.TheVariants.{At, Between}
use Rattle.tw_rbnode.specs.Page.{TreePage}
use Rattle.tw_rbtree.specs.declared.descending.Down.{Down}
use Rattle.tw_rbtree.specs.declared.descending.Down.TheVariants.{Met, Leaf, Child}
use Rattle.tw_rbtree.specs.declared.seeking.Sought.{Sought}
use Rattle.tw_rbtree.specs.Reading.{child_in, node_in}

-- where the question leads among entries in order, of which the first has this number: to the slot of the asked key, or to the
-- place before the first entry at which the way goes left; and the entries on either side of the way
unfoldable pub seek : Ask → (base : ℕ) → (low high : Option Entry) → List Entry → Sought
seek ask base low high [] = record { at = Between base; low = low; met = None; high = high }
seek ask base low high (e ∷ es) =
    if has_asked_key ask e then record { at = At (base + 1); low = low; met = Some e; high = high }
    else (if is_left ask e then record { at = Between base; low = low; met = None; high = Some e } else seek ask (base + 1) (Some e) high es)

-- before any page
abbrev pub nowhere : Sought
nowhere = record { at = Between 0; low = None; met = None; high = None }

-- a page on the way, and where the way leads in it
pub record Stop : Type 0 where
  pub page : TreePage
  pub sought : Sought

-- where the way ends
abbrev pub end_of_way : Sought → List Stop → Sought
end_of_way here [] = here
end_of_way here (s ∷ stops) = end_of_way s.sought stops

-- the number of the page at a place
abbrev pub child_page : TreePage → (place : ℕ) → ℕ
child_page p place = slice_index_or (map (λ (c : Link). c.page) p.children) place 0

module _ (dig : List ℕ → List ℕ) (pages : Image) (ask : Ask) where
  -- on from a stop in a page, into the page at the place to which the way leads
  abbrev pub way_on : Stop → (Sought → (page : ℕ) → Found (List Stop)) → Spot → Found (List Stop)
  way_on stop into (At slot) = Is (stop ∷ [])
  way_on stop into (Between place) = into stop.sought (child_page stop.page place) >>= (λ stops. Is (stop ∷ stops))

  abbrev pub stop_in : (low high : Option Entry) → TreePage → Stop
  stop_in low high p = record { page = p; sought = seek ask 0 low high p.entries }

  -- the stops of the way from a page of this level down, which lies between these two entries
  unfoldable pub way_from : (level : ℕ) → (low high : Option Entry) → TreePage → Found (List Stop)
  way_from zero low high p = Is (stop_in low high p ∷ [])
  way_from (suc level) low high p =
      way_on (stop_in low high p) (λ s page. child_in dig pages level s.low s.high page >>= way_from level s.low s.high) (seek ask 0 low high p.entries).at

  -- the stops of the way from the root down; the empty tree has none
  unfoldable pub way : Root → Found (List Stop)
  way root = if root.page == 0 then Is [] else (node_in dig pages root.page >>= (λ p. way_from p.level None None p))

  -- one page further: the way from a page between these two entries meets the key, ends in a leaf page, or goes on into a child
  abbrev pub down_at : TreePage → Sought → Spot → Found Down
  down_at p s (At slot) = Is (Met s)
  down_at p s (Between place) = if p.level == 0 then Is (Leaf s place) else (child_in dig pages (p.level - 1) s.low s.high (child_page p place) >>= (λ q. Is (Child s place q)))

  unfoldable pub down_in : (low high : Option Entry) → TreePage → Found Down
  down_in low high p = down_at p (seek ask 0 low high p.entries) (seek ask 0 low high p.entries).at

  -- where the way from a page down ends, and where the way from the root does
  unfoldable pub end_from : (level : ℕ) → (low high : Option Entry) → TreePage → Found Sought
  end_from level low high p = way_from level low high p >>= (λ stops. Is (end_of_way nowhere stops))

  unfoldable pub way_end : Root → Found Sought
  way_end root = way root >>= (λ stops. Is (end_of_way nowhere stops))

-- ---- what is found of a key: its entry where the way to it ends, and the nearest entries on the left and on the right of the ways beside it
module _ (dig : List ℕ → List ℕ) (pages : Image) (root : Root) (key : Key) where
  unfoldable pub found_with : Found (Option Entry)
  found_with = way_end dig pages (Absent key) root >>= (λ end. Is end.met)

  unfoldable pub found_before : Found (Option Entry)
  found_before = way_end dig pages (Below key) root >>= (λ end. Is end.low)

  unfoldable pub found_after : Found (Option Entry)
  found_after = way_end dig pages (Above key) root >>= (λ end. Is end.high)
