-- What holds of each page of a tree, from two things that do.
use Rattle.std.proofs.Common.{◌≡◌, ℕ, suc, zero, ◌≤◌, List, [], ◌∷◌, length, ap, sym, ◌∙◌, subst, arith, inl, inr}
use Rattle.tw_base.specs.declared.history.root.Root.{Root}
use Rattle.tw_base.specs.history.Tree.{Tree}
use Rattle.tw_disk.specs.Image.{Image}
use Rattle.tw_rbnode.specs.declared.child.Child.{Child}
use Rattle.tw_rbnode.specs.Page.{TreePage}
use Rattle.tw_rbtree.specs.Reading.{IsPageAt}
use Rattle.tw_rbtree.specs.Standing.{AreTrees, IsRootTree, IsTreeBelow, IsTreePage, OfPage, StandsWith, any_page}
use Rattle.tw_rbtree.proofs.Keeping.{tree_page-as}

trees-both : (R S T : Child → Tree → Type 0) → ((c : Child) (t u : Tree) → R c t → S c u → T c t)
    → (cs : List Child) (ts us : List Tree) → AreTrees R cs ts → AreTrees S cs us → AreTrees T cs ts
trees-both R S T f [] [] us a b = tt
trees-both R S T f [] (t ∷ ts) us a b = absurd a
trees-both R S T f (c ∷ cs) [] us a b = absurd a
trees-both R S T f (c ∷ cs) (t ∷ ts) [] a b = absurd b
trees-both R S T f (c ∷ cs) (t ∷ ts) (u ∷ us) a b = (f c t u a.0 b.0, trees-both R S T f cs ts us a.1 b.1)

module _ (dig : List ℕ → List ℕ) (ps : Image) where
  abbrev pub IsPage : OfPage → (level least page : ℕ) → Tree → Type 0
  IsPage Has level least page t = IsTreePage dig Has ps (IsTreeBelow dig Has ps level) level least page t

module _ (dig : List ℕ → List ℕ) (ps : Image) (one_page : (page : ℕ) (p q : TreePage) → IsPageAt dig ps page p
    → IsPageAt dig ps page q → p ≡ q) where
  module _ (A B C : OfPage) (f : (level least page : ℕ) (t u : Tree) → 1 ≤ least → IsPage dig ps A level least page t
      → B page u → C page t) where
    page-both : (level : ℕ) → ((c : Child) (t u : Tree) → IsTreeBelow dig A ps level c t → IsTreeBelow dig B ps level c
        u → IsTreeBelow dig C ps level c t)
        → (least page : ℕ) (t u : Tree) → 1 ≤ least → IsPage dig ps A level least page t → IsPage dig ps B level least
        page u → IsPage dig ps C level least page t
    page-both level below least page t u some a b =
        tree_page-as a a.least_keys a.at
        (trees-both (IsTreeBelow dig A ps level) (IsTreeBelow dig B ps level) (IsTreeBelow dig C ps level) below
        a.node.children a.trees b.trees a.are_trees
        (subst (λ (p : TreePage). AreTrees (IsTreeBelow dig B ps level) p.children b.trees)
        (one_page page b.node a.node b.at a.at) b.are_trees)) (f level least page t u some a b.has)

    below-both : (level : ℕ) (c : Child) (t u : Tree) → IsTreeBelow dig A ps level c t → IsTreeBelow dig B ps level c u
        → IsTreeBelow dig C ps level c t
    unfolding IsTreeBelow
    below-both zero c t u a b = a
    below-both (suc level) c t u a b = (a.0, page-both level (below-both level) 12 c.page t u (omega arith) a.1 b.1)

    pub root-both : (page : ℕ) (t u : Tree) → IsRootTree dig A ps page t → IsRootTree dig B ps page u
        → IsRootTree dig C ps page t
    root-both page t u (inl none) b = inl none
    root-both page t u (inr (level, a)) (inl none) = absurd (omega (arith, none.0, a.at.low))
    root-both page t u (inr (level, a)) (inr (other, b)) =
        let same : other ≡ level = sym b.level_is ∙ ap (λ (p : TreePage). p.level)
        (one_page page b.node a.node b.at a.at) ∙ a.level_is in
        inr (
          level,
          page-both level (below-both level) 1 page t u (omega arith) a (subst (λ (l : ℕ). IsPage dig ps B l 1 page u)
              same b),
        )

    pub stands-both : (root : Root) (t u : Tree) → StandsWith dig A ps root t → StandsWith dig B ps root u
        → StandsWith dig C ps root t
    stands-both root t u a b =
        record { rising = a.rising; label = a.label; tree = root-both root.page t u a.tree b.tree }

  -- a page with a key is a root page of its tree
  pub as-root : (Has : OfPage) (level least page : ℕ) (t : Tree) (is : IsPage dig ps Has level least page t)
      → 1 ≤ length is.node.entries → IsRootTree dig any_page ps page t
  as-root Has level least page t is some =
      let one : IsPage dig ps Has level 1 page t = tree_page-as is some is.at is.are_trees is.has in
      root-both Has Has any_page (λ l m p x y k a b. tt) page t t (inr (level, one)) (inr (level, one))

  -- a page is one tree
  module _ (one_tree : (page : ℕ) (s t : Tree) → IsRootTree dig any_page ps page s → IsRootTree dig any_page ps page t
      → s ≡ t) where
    pub same-tree : (A B : OfPage) (page level least : ℕ) (s : Tree) (other more : ℕ) (t : Tree) → IsPage dig ps A level
        least page s → 1 ≤ more → IsPage dig ps B other more page t → s ≡ t
    same-tree A B page level least s other more t a some b =
        let keys : 1 ≤ length b.node.entries = omega (arith, some, b.least_keys) in
        one_tree page s t
        (as-root A level least page s a (subst (λ (p : TreePage). 1 ≤ length p.entries)
        (one_page page b.node a.node b.at a.at) keys))
        (as-root B other more page t b keys)
