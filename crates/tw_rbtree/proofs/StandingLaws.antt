-- What holds of the entries of a tree in pages, and of the way to an entry.
use Rattle.std.proofs.Common.{◌≡◌, ℕ, suc, zero, ◌+◌, List, [], ◌∷◌, refl, sym, ap, ◌∙◌, subst, inl, inr}
use Rattle.std.specs.Prelude.{Option, Some, None, map, ◌==◌, if◌then◌else◌}
use Rattle.tw_base.specs.declared.history.root.Root.{Root}
use Rattle.tw_base.specs.declared.history.thread.Entry.{Entry}
use Rattle.tw_base.specs.declared.history.tree_proof.Ask.TheVariants.{Absent, Present}
use Rattle.tw_base.specs.history.Entries.{key_of}
use Rattle.tw_base.specs.history.Limits.{IsEntryInRange}
use Rattle.tw_base.specs.history.Tree.{Tree, entries}
use Rattle.tw_base.specs.kinds.Lists.{Each}
use Rattle.tw_base.proofs.lemmas.kinds.ListLemmas.{Each-append}
use Rattle.tw_base.specs.history.Ways.{has_asked_key, is_left}
use Rattle.tw_disk.specs.Found.{Found, ◌>>=◌}
use Rattle.tw_disk.specs.Found.Found.{Is}
use Rattle.tw_disk.specs.Image.{Image}
use Rattle.tw_rbnode.specs.declared.child.Child.{Child}
use Rattle.tw_rbnode.specs.declared.node.Found.{Found as Spot}
use Rattle.tw_rbnode.specs.declared.node.Found.TheVariants.{At, Between}
use Rattle.tw_rbnode.specs.Page.{TreePage}
use Rattle.tw_rbnode.specs.Trees.{woven}
use Rattle.tw_rbnode.proofs.TreeLists.{page-list}
use Rattle.tw_rbtree.specs.declared.seeking.Sought.{Sought}
use Rattle.tw_rbtree.specs.Reading.{child_in, node_in}
use Rattle.tw_rbtree.specs.Standing.{AreTrees, IsRootTree, IsTreeBelow, IsTreePage, StandsForTree, any_page}
use Rattle.tw_rbtree.specs.Ways.{Stop, child_page, seek, way, way_from, way_on}
use Rattle.tw_rbtree.proofs.Standings.{trees-count}
use Rattle.tw_rbtree.proofs.WayLaws.{into, on_each}

-- ---- all entries are in range

woven-each : (P : Entry → Type 0) (cs : List (List Entry)) (es : List Entry) → Each (Each P) cs → Each P es
    → Each P (woven cs es)
woven-each P [] es lists own = own
woven-each P (c ∷ cs) [] lists own = lists.0
woven-each P (c ∷ cs) (e ∷ es) lists own = Each-append P c (e ∷ woven cs es) lists.0
    (own.0, woven-each P cs es lists.1 own.1)

all-ranges : (R : Child → Tree → Type 0) → ((c : Child) (t : Tree) → R c t → Each IsEntryInRange (entries t))
    → (cs : List Child) (ts : List Tree) → AreTrees R cs ts → Each (Each IsEntryInRange) (map entries ts)
all-ranges R each [] [] are = tt
all-ranges R each [] (t ∷ ts) are = absurd are
all-ranges R each (c ∷ cs) [] are = absurd are
all-ranges R each (c ∷ cs) (t ∷ ts) are = (each c t are.0, all-ranges R each cs ts are.1)

module _ (dig : List ℕ → List ℕ) (ps : Image) where
  page-ranges : (R : Child → Tree → Type 0) → ((c : Child) (t : Tree) → R c t → Each IsEntryInRange (entries t))
      → (level least page : ℕ) (t : Tree) → IsTreePage dig any_page ps R level least page t
      → Each IsEntryInRange (entries t)
  page-ranges R each level least page t is =
      let node = is.at.may_stand.node in
      let list = ap entries is.tree_is ∙ page-list is.node is.trees node (trees-count R is.node.children is.trees
      is.are_trees) in
      subst (Each IsEntryInRange) (sym list) (woven-each IsEntryInRange (map entries is.trees) is.node.entries
      (all-ranges R each is.node.children is.trees is.are_trees) node.ranges)

  below-ranges : (level : ℕ) (c : Child) (t : Tree) → IsTreeBelow dig any_page ps level c t
      → Each IsEntryInRange (entries t)
  unfolding IsTreeBelow
  below-ranges zero c t is = subst (λ (x : Tree). Each IsEntryInRange (entries x)) (sym is) tt
  below-ranges (suc level) c t is = page-ranges (IsTreeBelow dig any_page ps level) (below-ranges level) level 12 c.page
      t is.1

  pub stands-ranges : (root : Root) (t : Tree) → StandsForTree dig ps root t → Each IsEntryInRange (entries t)
  stands-ranges root t stands = by stands.tree
    where
      by : IsRootTree dig any_page ps root.page t → Each IsEntryInRange (entries t)
      by (inl none) = subst (λ (x : Tree). Each IsEntryInRange (entries x)) (sym none.1) tt
      by (inr (level, is)) = page-ranges (IsTreeBelow dig any_page ps level) (below-ranges level) level 1 root.page t is

-- ---- the way to an entry is that of its key

module _ (e : Entry) where
  seek-key : (base : ℕ) (low high : Option Entry) (es : List Entry) → seek (Present e) base low high es ≡ seek
      (Absent (key_of e)) base low high es
  unfolding seek
  seek-key base low high [] = refl
  seek-key base low high (f ∷ es) =
      ap (λ (rest : Sought). if has_asked_key (Present e) f
      then record { at = At (base + 1); low = low; met = Some f; high = high }
      else (if is_left (Present e) f then record { at = Between base; low = low; met = None; high = Some f } else rest))
      (seek-key (base + 1) (Some f) high es)

  module _ (dig : List ℕ → List ℕ) (ps : Image) where
    way-key : (level : ℕ) (low high : Option Entry) (p : TreePage) → way_from dig ps (Present e) level low high p
        ≡ way_from dig ps (Absent (key_of e)) level low high p
    unfolding way_from
    way-key zero low high p = ap (λ (s : Sought). Is (record { page = p; sought = s } ∷ []))
        (seek-key 0 low high p.entries)
    way-key (suc level) low high p =
        ap (λ (s : Sought). way_on dig ps (Present e) (record { page = p; sought = s }) (into dig ps (Present e) level)
        s.at) (seek-key 0 low high p.entries)
        ∙ by (record { page = p; sought = seek (Absent (key_of e)) 0 low high p.entries })
        (seek (Absent (key_of e)) 0 low high p.entries).at (way-key level)
      where
        by : (stop : Stop) (spot : Spot) → ((low high : Option Entry) (q : TreePage) → way_from dig ps (Present e) level
            low high q ≡ way_from dig ps (Absent (key_of e)) level low high q)
            → way_on dig ps (Present e) stop (into dig ps (Present e) level) spot ≡ way_on dig ps (Absent (key_of e))
            stop (into dig ps (Absent (key_of e)) level) spot
        by stop (At slot) same = refl
        by stop (Between place) same =
            ap (λ (found : Found (List Stop)). found >>= (λ stops. Is (stop ∷ stops)))
            (on_each (child_in dig ps level stop.sought.low stop.sought.high (child_page stop.page place))
            (way_from dig ps (Present e) level stop.sought.low stop.sought.high)
            (way_from dig ps (Absent (key_of e)) level stop.sought.low stop.sought.high)
            (same stop.sought.low stop.sought.high))

    pub root-key : (root : Root) → way dig ps (Present e) root ≡ way dig ps (Absent (key_of e)) root
    unfolding way
    root-key root =
        ap (λ (found : Found (List Stop)). if root.page == 0 then Is [] else found)
        (on_each (node_in dig ps root.page) (λ p. way_from dig ps (Present e) p.level None None p)
        (λ p. way_from dig ps (Absent (key_of e)) p.level None None p) (λ p. way-key p.level None None p))
