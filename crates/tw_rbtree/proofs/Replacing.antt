-- A page's children with others in place of one, and what the page then lists.
use Rattle.std.proofs.Common.{◌≡◌, ℕ, suc, zero, ◌+◌, ◌≤◌, List, [], ◌∷◌, ◌++◌, length, take, drop, refl, ap, sym, ◌∙◌}
use Rattle.std.proofs.Common.{subst, arith, length-append, length-take, length-drop}
use Rattle.std.specs.Prelude.{map, slice_index_or}
use Rattle.tw_base.specs.declared.history.thread.Entry.{Entry}
use Rattle.tw_base.specs.history.Asking.{with_entry}
use Rattle.tw_base.specs.history.Entries.{key_of}
use Rattle.tw_base.specs.history.Tree.{Tree, IsRising, entries}
use Rattle.tw_disk.specs.Image.{Image}
use Rattle.tw_rbnode.specs.declared.child.Child.{Child}
use Rattle.tw_rbnode.specs.declared.node.Added.{Added}
use Rattle.tw_rbnode.specs.declared.node.Added.TheVariants.{One as OnePage, Two as TwoPages}
use Rattle.tw_rbnode.specs.Answers.{IsAdded, more_children, more_entries}
use Rattle.tw_rbnode.specs.Page.{IsBetween, IsNode, TreePage}
use Rattle.tw_rbnode.specs.Trees.{woven}
use Rattle.tw_rbtree.specs.declared.inserting.Grown.{Grown}
use Rattle.tw_rbtree.specs.declared.inserting.Grown.TheVariants.{One, Two}
use Rattle.tw_rbtree.specs.Growing.{AddedAreNodes, AddedLists, IsOverLevel, IsWith, SidesList}
use Rattle.tw_rbtree.specs.Standing.{AreTrees, IsTreeBelow, OfPage}
use Rattle.tw_rbtree.proofs.Adding.{cut-woven, two-children, with-child}
use Rattle.tw_rbtree.proofs.Standings.{map-count, trees-count}

module _ (R : Child → Tree → Type 0) where
  trees-append : (cs ds : List Child) (ts us : List Tree) → AreTrees R cs ts → AreTrees R ds us → AreTrees R (cs ++ ds)
      (ts ++ us)
  trees-append [] ds [] us a b = b
  trees-append [] ds (t ∷ ts) us a b = absurd a
  trees-append (c ∷ cs) ds [] us a b = absurd a
  trees-append (c ∷ cs) ds (t ∷ ts) us a b = (a.0, trees-append cs ds ts us a.1 b)

  trees-take : (k : ℕ) (cs : List Child) (ts : List Tree) → AreTrees R cs ts → AreTrees R (take k cs) (take k ts)
  trees-take zero cs ts a = tt
  trees-take (suc k) [] [] a = tt
  trees-take (suc k) [] (t ∷ ts) a = absurd a
  trees-take (suc k) (c ∷ cs) [] a = absurd a
  trees-take (suc k) (c ∷ cs) (t ∷ ts) a = (a.0, trees-take k cs ts a.1)

  trees-drop : (k : ℕ) (cs : List Child) (ts : List Tree) → AreTrees R cs ts → AreTrees R (drop k cs) (drop k ts)
  trees-drop zero cs ts a = a
  trees-drop (suc k) [] [] a = tt
  trees-drop (suc k) [] (t ∷ ts) a = absurd a
  trees-drop (suc k) (c ∷ cs) [] a = absurd a
  trees-drop (suc k) (c ∷ cs) (t ∷ ts) a = trees-drop k cs ts a.1

  -- others in place of some
  pub trees-replaced : (k j : ℕ) (cs ds : List Child) (ts us : List Tree) → AreTrees R cs ts → AreTrees R ds us
      → AreTrees R ((take k cs ++ ds) ++ drop j cs) ((take k ts ++ us) ++ drop j ts)
  trees-replaced k j cs ds ts us a b =
      trees-append (take k cs ++ ds) (drop j cs) (take k ts ++ us) (drop j ts) (trees-append (take k cs) ds (take k ts)
      us (trees-take k cs ts a) b) (trees-drop j cs ts a)

  pub record Parted (cs ds : List Child) (ts : List Tree) : Type 0 where
    pub first : List Tree
    pub second : List Tree
    pub whole : ts ≡ first ++ second
    pub are_first : AreTrees R cs first
    pub are_second : AreTrees R ds second

  pub parted : (cs ds : List Child) (ts : List Tree) → AreTrees R (cs ++ ds) ts → Parted cs ds ts
  parted [] ds ts a = record { first = []; second = ts; whole = refl; are_first = tt; are_second = a }
  parted (c ∷ cs) ds [] a = absurd a
  parted (c ∷ cs) ds (t ∷ ts) a =
      let rest = parted cs ds ts a.1 in
      record {
        first = t ∷ rest.first;
        second = rest.second;
        whole = ap (λ (xs : List Tree). t ∷ xs) rest.whole;
        are_first = (a.0, rest.are_first);
        are_second = rest.are_second;
      }

lists-append : (ts us : List Tree) → map entries (ts ++ us) ≡ map entries ts ++ map entries us
lists-append [] us = refl
lists-append (t ∷ ts) us = ap (λ (xs : List (List Entry)). entries t ∷ xs) (lists-append ts us)

lists-take : (k : ℕ) (ts : List Tree) → map entries (take k ts) ≡ take k (map entries ts)
lists-take zero ts = refl
lists-take (suc k) [] = refl
lists-take (suc k) (t ∷ ts) = ap (λ (xs : List (List Entry)). entries t ∷ xs) (lists-take k ts)

lists-drop : (k : ℕ) (ts : List Tree) → map entries (drop k ts) ≡ drop k (map entries ts)
lists-drop zero ts = refl
lists-drop (suc k) [] = refl
lists-drop (suc k) (t ∷ ts) = lists-drop k ts

lists-replaced : (k j : ℕ) (ts us : List Tree) → map entries ((take k ts ++ us) ++ drop j ts)
    ≡ (take k (map entries ts) ++ map entries us) ++ drop j (map entries ts)
lists-replaced k j ts us =
    lists-append (take k ts ++ us) (drop j ts)
    ∙ (λ i. (lists-append (take k ts) us ∙ ap (λ (xs : List (List Entry)). xs ++ map entries us) (lists-take k ts)) i
    ++ lists-drop j ts i)

-- a page lists what it weaves of its children's trees
over-all : (dig : List ℕ → List ℕ) (Has : OfPage) (now : Image) (level : ℕ) (p : TreePage) (ts : List Tree)
    → p.level ≡ level → 12 ≤ length p.entries → AreTrees (IsTreeBelow dig Has now level) p.children ts
    → IsOverLevel dig Has now level 12 p (woven (map entries ts) p.entries)
over-all dig Has now level p ts is keys are =
    record { level_is = is; least_keys = keys; trees = ts; are_trees = are; lists = refl }

module _ (dig : List ℕ → List ℕ) (Has : OfPage) (now : Image) (level : ℕ) (p : TreePage) (node : IsNode p)
    (level_is : p.level ≡ level) (ts : List Tree) (are : AreTrees (IsTreeBelow dig Has now level) p.children ts)
    (rising : IsRising (woven (map entries ts) p.entries)) (place : ℕ) (entry : Entry)
    (between : IsBetween p.entries place (key_of entry)) where
  count : length (map entries ts) ≡ length p.entries + 1
  count = map-count entries ts ∙ trees-count (IsTreeBelow dig Has now level) p.children ts are ∙ node.places

  place_on : {X : Type 0} (xs : List X) → drop (place + 1) xs ≡ drop (suc place) xs
  place_on xs = ap (λ (n : ℕ). drop n xs) (let e : place + 1 ≡ suc place = omega arith in e)

  -- the list with the entry in its child's list
  inner : woven ((take place (map entries ts) ++ with_entry (slice_index_or (map entries ts) place []) entry ∷ [])
      ++ drop (place + 1) (map entries ts)) p.entries ≡ with_entry (woven (map entries ts) p.entries) entry
  inner =
      ap (λ (xs : List (List Entry)). woven
      ((take place (map entries ts) ++ with_entry (slice_index_or (map entries ts) place []) entry ∷ []) ++ xs)
      p.entries) (place_on (map entries ts))
      ∙ sym (with-child entry place (map entries ts) p.entries count rising between.above between.below between.there)

  module _ (c : Child) (t : Tree) (is : IsTreeBelow dig Has now level c t)
      (lists : entries t ≡ with_entry (slice_index_or (map entries ts) place []) entry)
      (new : TreePage) (new_level : new.level ≡ p.level) (new_entries : new.entries ≡ p.entries)
      (new_children : new.children ≡ (take place p.children ++ c ∷ []) ++ drop (place + 1) p.children) where
    pub one-over : IsOverLevel dig Has now level (length p.entries) new (with_entry (woven (map entries ts) p.entries)
        entry)
    one-over = record {
      level_is = new_level ∙ level_is;
      least_keys = omega (arith, ap length new_entries);
      trees = (take place ts ++ t ∷ []) ++ drop (place + 1) ts;
      are_trees =
          subst (λ (cs : List Child). AreTrees (IsTreeBelow dig Has now level) cs
          ((take place ts ++ t ∷ []) ++ drop (place + 1) ts)) (sym new_children)
          (trees-replaced (IsTreeBelow dig Has now level) place (place + 1) p.children (c ∷ []) ts (t ∷ []) are
          (is, tt));
      lists =
          (λ i. woven (lists-replaced place (place + 1) ts (t ∷ []) i) (new_entries i))
          ∙ ap (λ (xs : List Entry). woven ((take place (map entries ts) ++ xs ∷ []) ++ drop (place + 1)
          (map entries ts)) p.entries) lists ∙ inner;
    }

  module _ (left right : Child) (middle : Entry) (l r : Tree) (is_left : IsTreeBelow dig Has now level left l)
      (is_right : IsTreeBelow dig Has now level right r)
      (lists : entries l ++ middle ∷ entries r ≡ with_entry (slice_index_or (map entries ts) place []) entry) where
    are_all : AreTrees (IsTreeBelow dig Has now level) (more_children p.children place left right)
        ((take place ts ++ l ∷ r ∷ []) ++ drop (place + 1) ts)
    are_all = trees-replaced (IsTreeBelow dig Has now level) place (place + 1) p.children (left ∷ right ∷ []) ts
        (l ∷ r ∷ []) are (is_left, (is_right, tt))

    all_lists : woven (map entries ((take place ts ++ l ∷ r ∷ []) ++ drop (place + 1) ts))
        (more_entries p.entries place middle) ≡ with_entry (woven (map entries ts) p.entries) entry
    all_lists =
        ap (λ (xs : List (List Entry)). woven xs (more_entries p.entries place middle))
        (lists-replaced place (place + 1) ts (l ∷ r ∷ [])
        ∙ ap (λ (xs : List (List Entry)). (take place (map entries ts) ++ entries l ∷ entries r ∷ []) ++ xs)
        (place_on (map entries ts)))
        ∙ two-children place (map entries ts) p.entries (entries l) (entries r) middle count between.there
        ∙ ap (λ (xs : List (List Entry)). woven ((take place (map entries ts) ++ (entries l ++ middle ∷ entries r) ∷ [])
        ++ xs) p.entries) (sym (place_on (map entries ts)))
        ∙ ap (λ (xs : List Entry). woven ((take place (map entries ts) ++ xs ∷ []) ++ drop (place + 1) (map entries ts))
        p.entries) lists ∙ inner

    pub two-over : (added : Added) → IsAdded p place middle left right added → AddedAreNodes added
        → AddedLists dig Has now level (length p.entries) (with_entry (woven (map entries ts) p.entries) entry) added
    two-over (OnePage new) is nodes = record {
      level_is = is.level ∙ level_is;
      least_keys =
          omega (
            arith,
            ap length is.entries,
            length-append (take place p.entries ++ middle ∷ []) (drop place p.entries),
            length-append (take place p.entries) (middle ∷ []),
            length-take place p.entries,
            length-drop place p.entries,
          );
      trees = (take place ts ++ l ∷ r ∷ []) ++ drop (place + 1) ts;
      are_trees = subst (λ (cs : List Child). AreTrees (IsTreeBelow dig Has now level) cs
          ((take place ts ++ l ∷ r ∷ []) ++ drop (place + 1) ts)) (sym is.children) are_all;
      lists = ap (woven (map entries ((take place ts ++ l ∷ r ∷ []) ++ drop (place + 1) ts))) is.entries ∙ all_lists;
    }
    two-over (TwoPages first m second) is nodes =
        let parts = parted (IsTreeBelow dig Has now level) first.children second.children
        ((take place ts ++ l ∷ r ∷ []) ++ drop (place + 1) ts)
        (subst (λ (cs : List Child). AreTrees (IsTreeBelow dig Has now level) cs
        ((take place ts ++ l ∷ r ∷ []) ++ drop (place + 1) ts)) (sym is.children) are_all) in
        let own_count : length (map entries parts.first) ≡ length first.entries + 1 =
        map-count entries parts.first ∙ trees-count (IsTreeBelow dig Has now level) first.children parts.first
        parts.are_first ∙ nodes.0.places in
        let whole : woven (map entries parts.first) first.entries ++ m ∷ woven (map entries parts.second) second.entries
        ≡ with_entry (woven (map entries ts) p.entries) entry =
        sym (cut-woven (map entries parts.first) (map entries parts.second) first.entries second.entries m own_count)
        ∙ (λ i. woven ((sym (lists-append parts.first parts.second) ∙ ap (map entries) (sym parts.whole)) i)
        (is.entries i)) ∙ all_lists in (
          woven (map entries parts.first) first.entries,
          woven (map entries parts.second) second.entries,
          over-all dig Has now level first parts.first (is.levels.0 ∙ level_is) (omega (arith, is.counts.0))
              parts.are_first,
          over-all dig Has now level second parts.second (is.levels.1 ∙ level_is) (omega (arith, is.counts.1))
              parts.are_second,
          whole,
        )

  -- the page with what its child has become
  pub with-lists : (grown : Grown) → SidesList (IsTreeBelow dig Has now level)
      (with_entry (slice_index_or (map entries ts) place []) entry) grown → (added : Added) → IsWith p place grown added
      → AddedAreNodes added
      → AddedLists dig Has now level (length p.entries) (with_entry (woven (map entries ts) p.entries) entry) added
  with-lists (One c) sides (OnePage new) is nodes = one-over c sides.0 sides.1 sides.2 new is.0 is.1 is.2
  with-lists (One c) sides (TwoPages first m second) is nodes = absurd is
  with-lists (Two left middle right) sides added is nodes = two-over left right middle sides.0 sides.1 sides.2 sides.3
      sides.4 added is nodes
