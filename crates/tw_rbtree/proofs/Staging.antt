-- Pages that are staged over children that are trees.
use Rattle.std.proofs.Common.{◌≡◌, ℕ, suc, zero, ◌+◌, ◌-◌, ◌≤◌, List, [], ◌∷◌, ◌++◌, length, refl, ap, sym, ◌∙◌, subst}
use Rattle.std.proofs.Common.{arith, length-append}
use Rattle.std.specs.Prelude.{Bool, false, Option, Some, Result, Ok, Err}
use Rattle.std.specs.Option.{option_map}
use Rattle.std.proofs.Math.Seq.{get_or-append_seam}
use Rattle.tw_base.specs.declared.history.thread.Entry.{Entry}
use Rattle.tw_base.specs.kinds.Lists.{Each}
use Rattle.tw_base.specs.format.PageBytes.{IsPageOf}
use Rattle.tw_base.specs.history.Tree.{Tree, entries}
use Rattle.tw_disk.specs.Answers.{AddsBy, AnswersAs, AnswersOr, NeverRefuses, is_failed}
use Rattle.tw_disk.specs.Found.{Found, ◌>>=◌}
use Rattle.tw_disk.specs.Found.Found.{Is, Bad}
use Rattle.tw_disk.specs.Image.{Image, page_at}
use Rattle.tw_disk.specs.Pages.{OnlyAdds, OnlyReads, PagesView}
use Rattle.tw_disk.proofs.ReadingLaws.{adds_none, only_adds_on}
use Rattle.tw_rbnode.specs.declared.child.Child.{Child}
use Rattle.tw_rbnode.specs.Children.{HasChildren}
use Rattle.tw_rbnode.specs.NodeBytes.{LiesBelow, fields_of, page_node_codec}
use Rattle.tw_rbnode.specs.Page.{IsNode, TreePage}
use Rattle.tw_rbnode.specs.Trees.{page_tree}
use Rattle.tw_rbnode.proofs.TreeLabels.{page-label}
use Rattle.tw_rbnode.proofs.TreeLists.{page-list}
use Rattle.tw_rbtree.specs.declared.fault.TreeFault.{TreeFault}
use Rattle.tw_rbtree.specs.declared.fault.TreeFault.TheVariants.{BadPage, DiskFault, NoMemory, Present, Untrue}
use Rattle.tw_rbtree.specs.declared.inserting.Grown.{Grown}
use Rattle.tw_rbtree.specs.Answers.{NeverUntrue}
use Rattle.tw_rbtree.specs.FaultWords.{tree_faults}
use Rattle.tw_rbtree.specs.Growing.{IsChildTree, IsOverLevel, IsStaged, is_two}
use Rattle.tw_rbtree.specs.Reading.{IsPageAt}
use Rattle.tw_rbtree.specs.Standing.{AreTrees, HasNamed, IsTreeBelow, Named, OfPage}
use Rattle.tw_rbtree.proofs.Keeping.{below-kept, tree_page-kept, trees-map}
use Rattle.tw_rbtree.proofs.Standings.{over-labels, trees-count}

-- new pages have no name
pub above-named : (named : Named) (used : ℕ) → named.below ≤ used → (page : ℕ) (t : Tree) → used ≤ page
    → HasNamed named page t
above-named named used low page t high inside = absurd (omega (arith, low, high, inside))

module _ (dig : List ℕ → List ℕ) (Has : OfPage) where
  -- children of pages lie below what is staged next
  lies_below : (ps : Image) (page level own : ℕ) → own ≡ level → page ≡ 4 + length ps
      → (cs : List Child) (ts : List Tree) → AreTrees (IsTreeBelow dig Has ps level) cs ts → Each (LiesBelow page own)
      cs
  unfolding IsTreeBelow
  lies_below ps page level own is at [] ts are = tt
  lies_below ps page level own is at (c ∷ cs) [] are = absurd are
  lies_below ps page zero zero is at (c ∷ cs) (t ∷ ts) are = (tt, lies_below ps page zero zero is at cs ts are.1)
  lies_below ps page zero (suc own) is at (c ∷ cs) (t ∷ ts) are = absurd (omega (arith, is))
  lies_below ps page (suc level) zero is at (c ∷ cs) (t ∷ ts) are = absurd (omega (arith, is))
  lies_below ps page (suc level) (suc own) is at (c ∷ cs) (t ∷ ts) are =
      (omega (arith, at, are.0.1.at.below), lies_below ps page (suc level) (suc own) is at cs ts are.1)

  pub over-kept : (ps more : Image) (level least : ℕ) (p : TreePage) (es : List Entry) → IsOverLevel dig Has ps level
      least p es → IsOverLevel dig Has (ps ++ more) level least p es
  over-kept ps more level least p es over = record {
    level_is = over.level_is;
    least_keys = over.least_keys;
    trees = over.trees;
    are_trees = trees-map (IsTreeBelow dig Has ps level) (IsTreeBelow dig Has (ps ++ more) level)
        (below-kept dig Has ps more level) p.children over.trees over.are_trees;
    lists = over.lists;
  }

  pub child_tree-kept : (ps more : Image) (level least : ℕ) (c : Child) (t : Tree) → IsChildTree dig Has ps level least
      c t → IsChildTree dig Has (ps ++ more) level least c t
  child_tree-kept ps more level least c t is = (
    is.0,
    tree_page-kept dig Has ps more (IsTreeBelow dig Has ps level) (IsTreeBelow dig Has (ps ++ more) level)
        (below-kept dig Has ps more level) level least c.page t is.1,
  )

  -- a page that is staged over trees is a tree
  pub staged-tree : (ps : Image) (bytes : List ℕ) (used level least : ℕ) (p : TreePage) (c : Child) (es : List Entry)
      → ((page : ℕ) (t : Tree) → used ≤ page → Has page t) → used ≡ 4 + length ps → IsStaged dig used p c
      → IsPageOf page_node_codec bytes (fields_of p) → IsNode p → HasChildren dig p → IsOverLevel dig Has ps level least
      p es
      → (t : Tree) × IsChildTree dig Has (ps ++ bytes ∷ []) level least c t × (entries t ≡ es)
  staged-tree ps bytes used level least p c es new at staged spelled node kinds over =
      let count : length over.trees ≡ length p.children = trees-count (IsTreeBelow dig Has ps level) p.children
      over.trees over.are_trees in
      let index : c.page - 4 ≡ length ps = omega (arith, staged.page_is, at) in
      let there : page_at (ps ++ bytes ∷ []) (c.page - 4) ≡ bytes = ap (page_at (ps ++ bytes ∷ [])) index
      ∙ get_or-append_seam ps bytes [] [] in
      let own : c.page ≡ 4 + length ps = staged.page_is ∙ at in
      let stands : IsPageAt dig (ps ++ bytes ∷ []) c.page p = record {
        low = omega (arith, own);
        below = omega (arith, own, length-append ps (bytes ∷ []));
        may_stand =
            record {
              node = node;
              children = kinds;
              below = lies_below ps c.page level p.level over.level_is own p.children over.trees over.are_trees;
            };
        bytes = subst (λ (b : List ℕ). IsPageOf page_node_codec b (fields_of p)) (sym there) spelled;
      } in (
        page_tree p over.trees,
        (
          staged.label_is ∙ page-label dig p over.trees (over-labels dig Has ps level p over.trees kinds over.level_is
              over.are_trees),
          record {
            node = p;
            at = stands;
            level_is = over.level_is;
            least_keys = over.least_keys;
            trees = over.trees;
            are_trees = trees-map (IsTreeBelow dig Has ps level) (IsTreeBelow dig Has (ps ++ bytes ∷ []) level)
                (below-kept dig Has ps (bytes ∷ []) level) p.children over.trees over.are_trees;
            tree_is = refl;
            has = new c.page (page_tree p over.trees) (omega (arith, staged.page_is));
          },
        ),
        page-list p over.trees node count ∙ over.lists,
      )

-- the pages after one is put behind those told
pub put_behind : (o : Option Image) (ps : Image) (bytes : List ℕ) (new : Option Image) → o ≡ Some ps
    → new ≡ option_map (λ xs. xs ++ bytes ∷ []) o → new ≡ Some (ps ++ bytes ∷ [])
put_behind o ps bytes new told put = put ∙ ap (option_map (λ xs. xs ++ bytes ∷ [])) told

-- ---- calls that add pages behind what was read

never-untrue : (r : Result Grown TreeFault) → NeverRefuses tree_faults r → NeverUntrue r
never-untrue (Ok g) own = tt
never-untrue (Err (BadPage page)) own = tt
never-untrue (Err DiskFault) own = tt
never-untrue (Err NoMemory) own = tt
never-untrue (Err Present) own = tt
never-untrue (Err Untrue) own = own

grows-as : (r : Result Grown TreeFault) (two : Bool) (found : Found (Result Bool TreeFault))
    → NeverRefuses tree_faults r → AnswersAs tree_faults is_two r (Is two) → found ≡ Is (Ok two)
    → AnswersOr tree_faults is_two r found
grows-as (Ok g) two found own answer is = is ∙ ap (λ (f : Found Bool). f >>= (λ b. Is (Ok b))) answer
grows-as (Err (BadPage page)) two found own answer is =
    absurd (let wrong : ◌≡◌ {A = Found Bool} (Is two) (Bad page) = answer in cc)
grows-as (Err DiskFault) two found own answer is = tt
grows-as (Err NoMemory) two found own answer is = tt
grows-as (Err Present) two found own answer is = absurd own
grows-as (Err Untrue) two found own answer is = absurd own

module _ {P : Type 0} (view : P → PagesView) (same : P → P → Type 0)
    (same_on : (x y z : P) → same x y → same y z → same x z) where
  pub read-adds : (a b c : P) (well more all : Type 0) → OnlyReads view same a b well
      → OnlyAdds view same b c more → well → more → OnlyAdds view same a c all
  read-adds a b c well more all reads adds is on = only_adds_on view same a b c well more all same_on (λ _. is)
      (λ _. on) (adds_none view same a b well reads) adds

  -- what was only read, as a call that adds
  pub reads-only : (a b : P) (well : Type 0) → OnlyReads view same a b well → well → OnlyAdds view same a b (Unit {0})
  reads-only a b well reads is =
      let adds = adds_none view same a b well reads in record {
        used_grows = adds.used_grows;
        list_grows = adds.list_grows;
        same_kept = adds.same_kept;
        unbroken_kept = λ good whole. adds.unbroken_kept is whole;
      }

  -- what was read and added, and then a page on the way down with what stands below it now
  pub regrown-adds : (a b c : P) (two : Bool) (r : Result Grown TreeFault) (found : Image → Found (Result Bool
      TreeFault)) → OnlyAdds view same a b (Unit {0}) → (view a).faults ≤ (view b).faults
      → AddsBy tree_faults view same b c r (NeverRefuses tree_faults r) (AnswersAs tree_faults is_two) (λ ps. Is two)
      → ((ps : Image) → (view a).list ≡ Some ps → found ps ≡ Is (Ok two))
      → AddsBy tree_faults view same a c r (NeverUntrue r) (AnswersOr tree_faults is_two) found
  regrown-adds a b c two r found adds later last is = record {
    answer = λ ps told.
        let more = adds.list_grows ps told in
        grows-as r two (found ps) last.own (last.answer (ps ++ more.0) more.1) (is ps told);
    own = never-untrue r last.own;
    kept = only_adds_on view same a b c (Unit {0}) (is_failed tree_faults r ≡ false) (is_failed tree_faults r ≡ false)
        same_on (λ _. tt) (λ well. well) adds last.kept;
    faults = record {
      later = omega (arith, later, last.faults.later);
      rose = λ failed. omega (arith, later, last.faults.rose failed);
    };
  }
