-- The older pages that new nodes name, and the root's, have a number.
use Rattle.std.proofs.Common.{◌≡◌, ◌≢◌, ℕ, suc, zero, ◌*◌, ◌^◌, ◌<◌, ◌≤◌, List, [], ◌∷◌, ◌++◌, length, get_or, Bool}
use Rattle.std.proofs.Common.{true, refl, ap, sym, ◌∙◌, subst, arith, inl, inr}
use Rattle.std.specs.Prelude.{◌==◌, ◌||◌, is_some}
use Rattle.std.specs.List.{list_all}
use Rattle.std.proofs.lemmas.Bool.{and_from, cases_lt, eq-eqb, or_right}
use Rattle.tw_base.specs.declared.history.root.Root.{Root}
use Rattle.tw_base.specs.history.History.{History}
use Rattle.tw_base.specs.history.Tree.{Tree, entries, forest, tree}
use Rattle.tw_base.specs.history.Tree.Tree.{Empty}
use Rattle.tw_base.proofs.lemmas.history.Plus.{forest-first}
use Rattle.tw_disk.specs.Image.{Image}
use Rattle.tw_disk.proofs.FoundLaws.{same_found}
use Rattle.tw_rbtree.specs.declared.new_node.NewNode.{NewNode}
use Rattle.tw_rbtree.specs.declared.new_node.Side.{Side}
use Rattle.tw_rbtree.specs.declared.new_node.Side.TheVariants.{Empty as NoTree, New, Old}
use Rattle.tw_rbtree.specs.Listing.{is_old}
use Rattle.tw_rbtree.specs.Planting.{AreNodeTrees, IsSideTree}
use Rattle.tw_rbtree.specs.Standing.{HasNamed, IsRootTree, IsTreeBelow, IsTreePage, OfPage, any_page}
use Rattle.tw_rbtree.proofs.Keeping.{below-any, trees-map}
use Rattle.tw_rbtree.proofs.ListLaws.{is-old, listed-none}
use Rattle.tw_rbtree.proofs.Plantings.{root-plants}
use Rattle.tw_rbtree.proofs.SizeLaws.{root-count}
use Rattle.tw_archive.specs.Archives.{KeepsTree, named_at}
use Rattle.tw_archive.specs.Numbering.{Numbered, archive_new_nodes, new_from, number_of_page, numbered_archive}
use Rattle.tw_export.specs.NodeNumbers.{is_known, is_numbered}
use Rattle.tw_archive.proofs.Numbers.{unmarked}
use Rattle.tw_archive.proofs.Planted.{older-unmarked}
use Rattle.tw_service.proofs.PageNumberings.{has-number, numbers_of}

-- ---- a page's tree isn't empty

power-more : (n : ℕ) → 13 ^ suc n ≡ 13 * 13 ^ n
power-more n = grind arith

power-some : (n : ℕ) → 0 < 13 ^ n
power-some zero = omega arith
power-some (suc n) = let more = power-more n in let some = power-some n in omega (arith, more, some)

page-some : (dig : List ℕ → List ℕ) (Has : OfPage) (ps : Image) (level least page : ℕ) (t : Tree)
    → IsTreePage dig Has ps (IsTreeBelow dig Has ps level) level least page t → t ≢ Empty
page-some dig Has ps level least page t is empty =
    let some = is.at.may_stand.node.some in
    let anyhow : IsTreePage dig any_page ps (IsTreeBelow dig any_page ps level) level 1 page t = record {
      node = is.node;
      at = is.at;
      level_is = is.level_is;
      least_keys = omega (arith, some);
      trees = is.trees;
      are_trees = trees-map (IsTreeBelow dig Has ps level) (IsTreeBelow dig any_page ps level)
          (below-any dig Has ps level) is.node.children is.trees is.are_trees;
      tree_is = is.tree_is;
      has = tt;
    } in
    let many = root-count dig ps level page t anyhow in
    let power = power-some level in
    let none = ap (λ (x : Tree). length (entries x)) empty in
    absurd (omega (arith, many, power, none))

-- ---- after step k + 1

module _ (dig : List ℕ → List ℕ) (ps : Image) (h : History) (step_page : ℕ → ℕ) (archive : ℕ → Root) (k : ℕ)
    (keeps : KeepsTree dig ps h step_page archive k)
    (order : new_from step_page k ≤ new_from step_page (suc k)) (low : (archive (suc k)).page < new_from step_page
    (suc k)) where
  abbrev old : Numbered
  old = numbered_archive dig ps step_page archive k

  abbrev now : Numbered
  now = numbered_archive dig ps step_page archive (suc k)

  abbrev Has : OfPage
  Has = HasNamed (named_at dig ps h step_page archive (suc k))

  abbrev since : ℕ
  since = new_from step_page k

  abbrev nodes : List NewNode
  nodes = archive_new_nodes dig ps step_page archive k

  -- a page that is a tree has a number then
  numbered-now : (level least page : ℕ) (t : Tree) → page < new_from step_page (suc k) → IsTreePage dig Has ps
      (IsTreeBelow dig Has ps level) level least page t → number_of_page now.pages page ≢ 0
  numbered-now level least page t below is none =
      page-some dig Has ps level least page t is (sym (is.has below) ∙ ap (λ (n : ℕ). get_or (forest h (suc k)) n Empty)
      none ∙ forest-first h (suc k))

  pub root-known : (((archive (suc k)).page == 0) || is_some (numbers_of now.pages (archive (suc k)).page)) ≡ true
  root-known = by keeps.stands.tree
    where
      by : IsRootTree dig Has ps (archive (suc k)).page (tree h (suc k))
          → (((archive (suc k)).page == 0) || is_some (numbers_of now.pages (archive (suc k)).page)) ≡ true
      by (inl none) = ap (λ (b : Bool). b || is_some (numbers_of now.pages (archive (suc k)).page))
          (eq-eqb (archive (suc k)).page 0 none.0)
      by (inr (level, is)) =
          or_right ((archive (suc k)).page == 0) (is_some (numbers_of now.pages (archive (suc k)).page))
          (has-number now.pages (archive (suc k)).page (numbered-now level 1 (archive (suc k)).page (tree h (suc k)) low
          is))

  -- and had one, where it is older
  abbrev WasNumbered : Type 0
  WasNumbered = (page : ℕ) → page ≢ 0 → page < since → number_of_page now.pages page ≡ number_of_page old.pages page

  module _ (was : WasNumbered) where
    side-known : (before : List Tree) (s : Side) (t : Tree) → IsSideTree dig Has ps since before s t
        → is_numbered (numbers_of old.pages) s ≡ true
    side-known before NoTree t is = refl
    side-known before (New place) t is = refl
    side-known before (Old page) t is =
        has-number old.pages page
        (λ none. numbered-now is.2.0 is.2.1 page t (omega (arith, is.1, order)) is.2.2
        (was page (λ zero_is. (let first = is.0 in absurd (omega (arith, first, zero_is)))) is.1 ∙ none))

    all-known : (before : List Tree) (ns : List NewNode) (ts : List Tree) → AreNodeTrees dig Has ps since before ns ts
        → list_all (is_known (numbers_of old.pages)) ns ≡ true
    all-known before [] ts are = refl
    all-known before (n ∷ ns) [] are = absurd are
    all-known before (n ∷ ns) (t ∷ ts) are =
        let node = are.0 in
        and_from (is_known (numbers_of old.pages) n) (list_all (is_known (numbers_of old.pages)) ns)
        (and_from (is_numbered (numbers_of old.pages) n.left) (is_numbered (numbers_of old.pages) n.right)
        (side-known before n.left node.0 node.2) (side-known before n.right node.1 node.3))
        (all-known (before ++ t ∷ []) ns ts are.1)

  pub nodes-known : list_all (is_known (numbers_of old.pages)) nodes ≡ true
  unfolding numbered_archive
  nodes-known = elim (cases_lt (archive (suc k)).page since) [
    | inl older ↦ none-before older keeps.stands.tree
    | inr newer ↦ elim (cases_lt 0 (archive (suc k)).page) [
      | inl some ↦
          let planted = root-plants dig Has ps (archive (suc k)) (tree h (suc k)) since keeps.stands
          (λ none. absurd (omega (arith, some, none))) newer in
          let same : planted.nodes ≡ nodes = same_found planted.nodes nodes (sym planted.found_is ∙ keeps.lists) in
          let are : AreNodeTrees dig Has ps since [] nodes planted.trees =
          subst (λ (ns : List NewNode). AreNodeTrees dig Has ps since [] ns planted.trees) same planted.are in
          all-known (λ page other less. unmarked old.pages page other old.count nodes
          (older-unmarked dig Has ps since page other less [] nodes planted.trees are)) [] nodes planted.trees are
      | inr none ↦ none-listed (no-page (omega (arith, none)))
    ]
  ]
    where
      no-page : (archive (suc k)).page ≡ 0 → (((archive (suc k)).page == 0) || is_old (archive (suc k)).page since)
          ≡ true
      no-page none = ap (λ (b : Bool). b || is_old (archive (suc k)).page since) (eq-eqb (archive (suc k)).page 0 none)

      none-listed : (((archive (suc k)).page == 0) || is_old (archive (suc k)).page since) ≡ true
          → list_all (is_known (numbers_of old.pages)) nodes ≡ true
      none-listed old_root =
          ap (λ (ns : List NewNode). list_all (is_known (numbers_of old.pages)) ns)
          (same_found nodes [] (sym keeps.lists ∙ listed-none dig ps since (archive (suc k)) old_root))

      none-before : (archive (suc k)).page < since → IsRootTree dig Has ps (archive (suc k)).page (tree h (suc k))
          → list_all (is_known (numbers_of old.pages)) nodes ≡ true
      none-before older (inl none) = none-listed (no-page none.0)
      none-before older (inr (level, is)) =
          none-listed (or_right ((archive (suc k)).page == 0) (is_old (archive (suc k)).page since)
          (is-old (archive (suc k)).page since is.at.low older))
