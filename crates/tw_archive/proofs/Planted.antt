-- The nodes that a step adds stand for the trees that were listed.
use Rattle.std.proofs.Common.{◌≡◌, ◌≢◌, ℕ, suc, zero, ◌+◌, ◌-◌, ◌<◌, ◌≤◌, List, [], ◌∷◌, ◌++◌, length, get_or, refl, ap}
use Rattle.std.proofs.Common.{sym, ◌∙◌, subst, arith, slice_get, append_assoc, inl, inr}
use Rattle.std.specs.Prelude.{map, slice_index_or, Option, Some, IsSome}
use Rattle.std.proofs.lemmas.List.{get_or_append_left, get_or-append_right, length_push}
use Rattle.std.proofs.lemmas.Option.{get_or_from_slice_get, slice_get_within}
use Rattle.tw_base.specs.declared.history.thread.Entry.{Entry}
use Rattle.tw_base.specs.history.History.{History, Node, entry_to}
use Rattle.tw_base.specs.history.Rules.{NodesFit}
use Rattle.tw_base.specs.history.Tree.{IsRising, Tree, branch, entries, planted}
use Rattle.tw_base.specs.history.Tree.Tree.{Empty}
use Rattle.tw_base.specs.kinds.Lists.{Each, In}
use Rattle.tw_base.proofs.lemmas.kinds.ListLemmas.{In-right}
use Rattle.tw_disk.specs.Image.{Image}
use Rattle.tw_rbtree.specs.declared.new_node.NewNode.{NewNode}
use Rattle.tw_rbtree.specs.declared.new_node.Side.{Side}
use Rattle.tw_rbtree.specs.declared.new_node.Side.TheVariants.{Empty as NoTree, New, Old}
use Rattle.tw_rbtree.specs.Planting.{AreNodeTrees, IsMarkOf, IsSideTree}
use Rattle.tw_rbtree.specs.Standing.{HasNamed, OfPage}
use Rattle.tw_archive.specs.Archives.{named_by}
use Rattle.tw_archive.specs.Numbering.{PageNumbers, history_node, number_of_page, side_number}

pub length-planted : (entry : ℕ → Option Entry) (trees : List Tree) (ns : List Node) → length (planted entry trees ns)
    ≡ length ns
unfolding planted
length-planted entry trees [] = refl
length-planted entry trees (n ∷ ns) =
    ap suc (length-planted entry (trees ++ branch (entry n.entry) (slice_index_or trees n.left Empty)
    (slice_index_or trees n.right Empty) ∷ []) ns)

module _ (dig : List ℕ → List ℕ) (Has : OfPage) (ps : Image) (since : ℕ) where
  -- the tree of a listed node, whose mark is its page
  pub node-tree : (before : List Tree) (ns : List NewNode) (ts : List Tree) → AreNodeTrees dig Has ps since before ns ts
      → (i : ℕ) (n : NewNode) → slice_get ns i ≡ Some n
      → (u : Tree) × (slice_get ts i ≡ Some u) × IsMarkOf dig Has ps since n.page u
  node-tree before [] ts are i n there = cc
  node-tree before (m ∷ ns) [] are i n there = absurd are
  node-tree before (m ∷ ns) (t ∷ ts) are zero n there =
      let one : m ≡ n = cc in (t, refl, subst (λ (x : NewNode). IsMarkOf dig Has ps since x.page t) one are.0.5)
  node-tree before (m ∷ ns) (t ∷ ts) are (suc i) n there = node-tree (before ++ t ∷ []) ns ts are.1 i n there

  -- no older page is marked
  pub older-unmarked : (page : ℕ) → page ≢ 0 → page < since → (before : List Tree) (ns : List NewNode) (ts : List Tree)
      → AreNodeTrees dig Has ps since before ns ts
      → Each (λ (n : NewNode). n.page ≢ page) ns
  older-unmarked page some less before [] ts are = tt
  older-unmarked page some less before (n ∷ ns) [] are = absurd are
  older-unmarked page some less before (n ∷ ns) (t ∷ ts) are = (
    λ same. elim are.0.5
        [ inl none ↦ some (sym same ∙ none) | inr new ↦ (let low = new.0 in absurd (omega (arith, less, same, low))) ],
    older-unmarked page some less (before ++ t ∷ []) ns ts are.1,
  )

  -- the listed nodes' entries are entries of the tree
  pub entries-within : (Q : Entry → Type 0) (before : List Tree) (ns : List NewNode) (ts : List Tree)
      → AreNodeTrees dig Has ps since before ns ts
      → Each (λ s. (e : Entry) → In e (entries s) → Q e) ts → Each (λ (n : NewNode). Q n.entry) ns
  entries-within Q before [] ts are all = tt
  entries-within Q before (n ∷ ns) [] are all = absurd are
  entries-within Q before (n ∷ ns) (t ∷ ts) are all = (
    all.0 n.entry (subst (λ (x : Tree). In n.entry (entries x)) (sym are.0.4)
        (In-right n.entry (entries are.0.0) (n.entry ∷ entries are.0.1) (inl refl))),
    entries-within Q (before ++ t ∷ []) ns ts are.1 all.1,
  )

-- the listed nodes' trees rise
pub trees-rise : (dig : List ℕ → List ℕ) (Has : OfPage) (ps : Image) (since : ℕ) (before : List Tree)
    (ns : List NewNode) (ts : List Tree) → AreNodeTrees dig Has ps since before ns ts
    → Each (λ t. IsRising (entries t)) ts
trees-rise dig Has ps since before [] [] are = tt
trees-rise dig Has ps since before [] (t ∷ ts) are = absurd are
trees-rise dig Has ps since before (n ∷ ns) [] are = absurd are
trees-rise dig Has ps since before (n ∷ ns) (t ∷ ts) are =
    (are.0.6, trees-rise dig Has ps since (before ++ t ∷ []) ns ts are.1)

-- the sides of the listed nodes are nodes before them
module _ (dig : List ℕ → List ℕ) (Has : OfPage) (ps : Image) (since : ℕ) (h : History) (step : ℕ) (known : PageNumbers)
    (before : ℕ) (low : (page : ℕ) → number_of_page known page ≤ before) where
  side-low : (listed : List Tree) (s : Side) (t : Tree) → IsSideTree dig Has ps since listed s t
      → side_number known before s < before + 1 + length listed
  side-low listed NoTree t is = omega arith
  side-low listed (New place) t is = let within = slice_get_within listed (place - 1) t is.1 in
      omega (arith, is.0, within)
  side-low listed (Old page) t is = omega (arith, low page)

  pub nodes-fit : (listed : List Tree) (ns : List NewNode) (ts : List Tree) → AreNodeTrees dig Has ps since listed ns ts
      → Each (λ (n : NewNode). entry_to h step n.entry.archived ≡ Some n.entry) ns
      → NodesFit h step (before + 1 + length listed) (map (history_node known before) ns)
  nodes-fit listed [] ts are got = tt
  nodes-fit listed (n ∷ ns) [] are got = absurd are
  nodes-fit listed (n ∷ ns) (t ∷ ts) are got =
      let node = are.0 in
      let next : before + 1 + length (listed ++ t ∷ []) ≡ suc (before + 1 + length listed) =
      omega (arith, length_push listed t) in (
        (
          side-low listed n.left node.0 node.2,
          side-low listed n.right node.1 node.3,
          subst (λ (o : Option Entry). IsSome o) (sym got.0) refl,
        ),
        subst (λ (number : ℕ). NodesFit h step number (map (history_node known before) ns)) next
            (nodes-fit (listed ++ t ∷ []) ns ts are.1 got.1),
      )

-- the trees of the nodes before, of which number 0 is the empty one, and the numbers of the pages among them
module _ (dig : List ℕ → List ℕ) (ps : Image) (trees : List Tree) (before : ℕ) (size : length trees ≡ before + 1)
    (none : get_or trees 0 Empty ≡ Empty)
    (known : PageNumbers) (low : (page : ℕ) → number_of_page known page ≤ before) (since : ℕ) where
  abbrev Has : OfPage
  Has = HasNamed (named_by known trees since)

  -- the number of a side is that of its tree
  side-tree : (listed : List Tree) (s : Side) (t : Tree) → IsSideTree dig Has ps since listed s t
      → get_or (trees ++ listed) (side_number known before s) Empty ≡ t
  side-tree listed NoTree t is = get_or_append_left trees listed Empty 0 (omega (arith, size)) ∙ none ∙ sym is
  side-tree listed (New place) t is =
      get_or-append_right trees listed (before + 1) (before + place) Empty size (omega (arith, is.0))
      ∙ ap (λ (k : ℕ). get_or listed k Empty) (let e : before + place - (before + 1) ≡ place - 1 =
      omega (arith, is.0) in e)
      ∙ get_or_from_slice_get listed (place - 1) t Empty is.1
  side-tree listed (Old page) t is =
      get_or_append_left trees listed Empty (number_of_page known page) (omega (arith, size, low page)) ∙ is.2.2.has
      is.1

  -- the new nodes stand for the listed trees
  pub planted-are : (entry : ℕ → Option Entry) (listed : List Tree) (ns : List NewNode) (ts : List Tree)
      → AreNodeTrees dig Has ps since listed ns ts
      → Each (λ (n : NewNode). entry n.entry.archived ≡ Some n.entry) ns → planted entry (trees ++ listed)
      (map (history_node known before) ns) ≡ ts
  unfolding planted
  planted-are entry listed [] [] are got = refl
  planted-are entry listed [] (t ∷ ts) are got = absurd are
  planted-are entry listed (n ∷ ns) [] are got = absurd are
  planted-are entry listed (n ∷ ns) (t ∷ ts) are got =
      let node = are.0 in
      let here : branch (entry n.entry.archived) (get_or (trees ++ listed) (side_number known before n.left) Empty)
      (get_or (trees ++ listed) (side_number known before n.right) Empty) ≡ t =
      (λ j. branch (got.0 j) (side-tree listed n.left node.0 node.2 j) (side-tree listed n.right node.1 node.3 j))
      ∙ sym node.4 in
      let rest : planted entry ((trees ++ listed) ++ t ∷ []) (map (history_node known before) ns) ≡ ts =
      ap (λ (xs : List Tree). planted entry xs (map (history_node known before) ns))
      (append_assoc trees listed (t ∷ [])) ∙ planted-are entry (listed ++ t ∷ []) ns ts are.1 got.1 in
      ap (λ (x : Tree). x ∷ planted entry ((trees ++ listed) ++ x ∷ []) (map (history_node known before) ns)) here
      ∙ ap (λ (xs : List Tree). t ∷ xs) rest
