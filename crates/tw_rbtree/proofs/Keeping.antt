-- Pages that stand for a tree: others behind them, and that there is one tree.
use Rattle.std.proofs.Common.{◌≡◌, ℕ, suc, zero, ◌-◌, ◌<◌, ◌≤◌, List, [], ◌∷◌, ◌++◌, refl, ap, sym, ◌∙◌, subst, arith}
use Rattle.std.proofs.Common.{inl, inr, length, length-append}
use Rattle.std.proofs.lemmas.List.{get_or_append_left}
use Rattle.tw_base.specs.declared.history.root.Root.{Root}
use Rattle.tw_base.specs.format.PageBytes.{IsPageOf}
use Rattle.tw_base.specs.history.Tree.{Tree}
use Rattle.tw_disk.specs.Image.{Image, page_at}
use Rattle.tw_rbnode.specs.declared.child.Child.{Child}
use Rattle.tw_rbnode.specs.NodeBytes.{fields_of, page_node_codec}
use Rattle.tw_rbnode.specs.Page.{TreePage}
use Rattle.tw_rbnode.specs.Trees.{page_tree}
use Rattle.tw_rbtree.specs.Reading.{IsPageAt}
use Rattle.tw_rbtree.specs.Standing.{AreTrees, HasNamed, IsRootTree, IsTreeBelow, IsTreePage, Named, OfPage}
use Rattle.tw_rbtree.specs.Standing.{StandsForTree, StandsWith, any_page}
use Rattle.tw_rbtree.proofs.PageLaws.{one_page}

pub trees-map : (R S : Child → Tree → Type 0) → ((c : Child) (t : Tree) → R c t → S c t)
    → (cs : List Child) (ts : List Tree) → AreTrees R cs ts → AreTrees S cs ts
trees-map R S f [] [] are = tt
trees-map R S f [] (t ∷ ts) are = absurd are
trees-map R S f (c ∷ cs) [] are = absurd are
trees-map R S f (c ∷ cs) (t ∷ ts) are = (f c t are.0, trees-map R S f cs ts are.1)

trees-same : (R : Child → Tree → Type 0) → ((c : Child) (s t : Tree) → R c s → R c t → s ≡ t)
    → (cs : List Child) (ss ts : List Tree) → AreTrees R cs ss → AreTrees R cs ts → ss ≡ ts
trees-same R one [] [] [] a b = refl
trees-same R one [] [] (t ∷ ts) a b = absurd b
trees-same R one [] (s ∷ ss) ts a b = absurd a
trees-same R one (c ∷ cs) [] ts a b = absurd a
trees-same R one (c ∷ cs) (s ∷ ss) [] a b = absurd b
trees-same R one (c ∷ cs) (s ∷ ss) (t ∷ ts) a b = λ i. one c s t a.0 b.0 i ∷ trees-same R one cs ss ts a.1 b.1 i

-- a page of a tree, in other pages, with fewer keys asked for, and with other things said of its children and of it
pub tree_page-as : {dig : List ℕ → List ℕ} {Has Other : OfPage} {ps now : Image} {R S : Child → Tree → Type 0}
    {level least fewer page : ℕ} {t : Tree} (is : IsTreePage dig Has ps R level least page t)
    → fewer ≤ length is.node.entries → IsPageAt dig now page is.node → AreTrees S is.node.children is.trees
    → Other page t → IsTreePage dig Other now S level fewer page t
tree_page-as is keys at are has = record {
  node = is.node;
  at = at;
  level_is = is.level_is;
  least_keys = keys;
  trees = is.trees;
  are_trees = are;
  tree_is = is.tree_is;
  has = has;
}

module _ (dig : List ℕ → List ℕ) (Has : OfPage) (ps more : Image) where
  pub page-kept : (page : ℕ) (p : TreePage) → IsPageAt dig ps page p → IsPageAt dig (ps ++ more) page p
  page-kept page p is =
      let same : page_at (ps ++ more) (page - 4) ≡ page_at ps (page - 4) = get_or_append_left ps more [] (page - 4)
      (omega (arith, is.low, is.below)) in
      record {
        low = is.low;
        below = omega (arith, is.below, length-append ps more);
        may_stand = is.may_stand;
        bytes = subst (λ (b : List ℕ). IsPageOf page_node_codec b (fields_of p)) (sym same) is.bytes;
      }

  pub tree_page-kept : (R S : Child → Tree → Type 0) → ((c : Child) (t : Tree) → R c t → S c t) → (level least page : ℕ)
      (t : Tree) → IsTreePage dig Has ps R level least page t → IsTreePage dig Has (ps ++ more) S level least page t
  tree_page-kept R S f level least page t is = tree_page-as is is.least_keys (page-kept page is.node is.at)
      (trees-map R S f is.node.children is.trees is.are_trees) is.has

  pub below-kept : (level : ℕ) (c : Child) (t : Tree) → IsTreeBelow dig Has ps level c t
      → IsTreeBelow dig Has (ps ++ more) level c t
  unfolding IsTreeBelow
  below-kept zero c t is = is
  below-kept (suc level) c t is = (
    is.0,
    tree_page-kept (IsTreeBelow dig Has ps level) (IsTreeBelow dig Has (ps ++ more) level) (below-kept level) level 12
        c.page t is.1,
  )

  root-kept : (page : ℕ) (t : Tree) → IsRootTree dig Has ps page t → IsRootTree dig Has (ps ++ more) page t
  root-kept page t (inl none) = inl none
  root-kept page t (inr (level, is)) =
      inr (
        level,
        tree_page-kept (IsTreeBelow dig Has ps level) (IsTreeBelow dig Has (ps ++ more) level) (below-kept level) level
            1 page t is,
      )

  pub stands-kept : (root : Root) (t : Tree) → StandsWith dig Has ps root t → StandsWith dig Has (ps ++ more) root t
  stands-kept root t stands =
      record { rising = stands.rising; label = stands.label; tree = root-kept root.page t stands.tree }

module _ (dig : List ℕ → List ℕ) (Has : OfPage) (ps : Image) where
  pub tree_page-once : (R : Child → Tree → Type 0) → ((c : Child) (s t : Tree) → R c s → R c t → s ≡ t)
      → (level least page : ℕ) (s t : Tree) → IsTreePage dig Has ps R level least page s → IsTreePage dig Has ps R level
      least page t → s ≡ t
  tree_page-once R one level least page s t a b =
      let same : a.node ≡ b.node = one_page dig ps page a.node b.node a.at b.at in
      let trees : a.trees ≡ b.trees = trees-same R one b.node.children a.trees b.trees
      (subst (λ (p : TreePage). AreTrees R p.children a.trees) same a.are_trees) b.are_trees in
      a.tree_is ∙ (λ i. page_tree (same i) (trees i)) ∙ sym b.tree_is

  pub below-once : (level : ℕ) (c : Child) (s t : Tree) → IsTreeBelow dig Has ps level c s → IsTreeBelow dig Has ps
      level c t → s ≡ t
  unfolding IsTreeBelow
  below-once zero c s t a b = a ∙ sym b
  below-once (suc level) c s t a b = tree_page-once (IsTreeBelow dig Has ps level) (below-once level) level 12 c.page s
      t a.1 b.1

  pub root-once : (page : ℕ) (s t : Tree) → IsRootTree dig Has ps page s → IsRootTree dig Has ps page t → s ≡ t
  root-once page s t (inl a) (inl b) = a.1 ∙ sym b.1
  root-once page s t (inl a) (inr (level, b)) = absurd (omega (arith, a.0, b.at.low))
  root-once page s t (inr (level, a)) (inl b) = absurd (omega (arith, b.0, a.at.low))
  root-once page s t (inr (level, a)) (inr (other, b)) =
      let same : other ≡ level = sym b.level_is ∙ ap (λ (p : TreePage). p.level)
      (one_page dig ps page b.node a.node b.at a.at) ∙ a.level_is in
      tree_page-once (IsTreeBelow dig Has ps level) (below-once level) level 1 page s t a
      (subst (λ (n : ℕ). IsTreePage dig Has ps (IsTreeBelow dig Has ps n) n 1 page t) same b)

  pub stands-once : (root : Root) (s t : Tree) → StandsWith dig Has ps root s → StandsWith dig Has ps root t → s ≡ t
  stands-once root s t a b = root-once root.page s t a.tree b.tree

-- where what holds of each page of a tree gives something else of it, the pages stand for the tree with that
module _ (dig : List ℕ → List ℕ) (Has Other : OfPage) (ps : Image) (turn : (page : ℕ) (t : Tree) → Has page t
    → Other page t) where
  tree_page-turned : (R S : Child → Tree → Type 0) → ((c : Child) (t : Tree) → R c t → S c t) → (level least page : ℕ)
      (t : Tree) → IsTreePage dig Has ps R level least page t → IsTreePage dig Other ps S level least page t
  tree_page-turned R S f level least page t is = tree_page-as is is.least_keys is.at
      (trees-map R S f is.node.children is.trees is.are_trees) (turn page t is.has)

  pub below-turned : (level : ℕ) (c : Child) (t : Tree) → IsTreeBelow dig Has ps level c t → IsTreeBelow dig Other ps
      level c t
  unfolding IsTreeBelow
  below-turned zero c t is = is
  below-turned (suc level) c t is = (
    is.0,
    tree_page-turned (IsTreeBelow dig Has ps level) (IsTreeBelow dig Other ps level) (below-turned level) level 12
        c.page t is.1,
  )

  root-turned : (page : ℕ) (t : Tree) → IsRootTree dig Has ps page t → IsRootTree dig Other ps page t
  root-turned page t (inl none) = inl none
  root-turned page t (inr (level, is)) =
      inr (
        level,
        tree_page-turned (IsTreeBelow dig Has ps level) (IsTreeBelow dig Other ps level) (below-turned level) level 1
            page t is,
      )

  stands-turned : (root : Root) (t : Tree) → StandsWith dig Has ps root t → StandsWith dig Other ps root t
  stands-turned root t stands =
      record { rising = stands.rising; label = stands.label; tree = root-turned root.page t stands.tree }

-- where something holds of each page of a tree, the pages stand for it anyhow
module _ (dig : List ℕ → List ℕ) (Has : OfPage) (ps : Image) where
  pub below-any : (level : ℕ) (c : Child) (t : Tree) → IsTreeBelow dig Has ps level c t → IsTreeBelow dig any_page ps
      level c t
  below-any level c t is = below-turned dig Has any_page ps (λ page t has. tt) level c t is

  pub stands-any : (root : Root) (t : Tree) → StandsWith dig Has ps root t → StandsForTree dig ps root t
  stands-any root t stands = stands-turned dig Has any_page ps (λ page t has. tt) root t stands

-- where no page is named, the pages stand with the names for what they stand for
pub stands-unnamed : (dig : List ℕ → List ℕ) (named : Named) (ps : Image) → named.below ≡ 0 → (root : Root) (t : Tree)
    → StandsForTree dig ps root t → StandsWith dig (HasNamed named) ps root t
stands-unnamed dig named ps none root t stands =
    stands-turned dig any_page (HasNamed named) ps (λ page t has. λ (under : page < named.below). absurd
    (omega (arith, none, under))) root t stands
