-- What is found over any pages: an entry of the asked key, or one on the asked side of it.
use Rattle.std.proofs.Common.{◌≡◌, ℕ, suc, zero, ◌+◌, ◌*◌, List, [], ◌∷◌, ◌++◌, Bool, true, false, refl, sym, subst}
use Rattle.std.proofs.Common.{slice_get}
use Rattle.std.specs.Prelude.{Option, Some, None, IfSome, not, ◌==◌, nat_lt, if◌then◌else◌}
use Rattle.tw_base.specs.declared.history.thread.Entry.{Entry}
use Rattle.tw_base.specs.declared.history.thread.Key.{Key}
use Rattle.tw_base.specs.declared.history.tree_proof.Ask.{Ask}
use Rattle.tw_base.specs.declared.history.tree_proof.Ask.TheVariants.{Absent, Above, Below}
use Rattle.tw_base.specs.history.Entries.{KeyBelow, key_cmp, key_of}
use Rattle.tw_base.specs.history.Limits.{IsAncestorInRange, IsEntryInRange}
use Rattle.tw_base.specs.kinds.Lists.{Each}
use Rattle.tw_base.proofs.lemmas.history.KeyTests.{below-lt}
use Rattle.std.specs.FinMap.{nat_cmp-IsAntisymmetric, slice_cmp-IsAntisymmetric}
use Rattle.std.specs.declared.cmp.Ordering.{Ordering}
use Rattle.std.specs.declared.cmp.Ordering.TheVariants.{Less, Equal, Greater}
use Rattle.std.specs.Cmp.Lexicographic.{slice_cmp}
use Rattle.std.specs.Ordering.{is_eq, nat_cmp, ordering_then}
use Rattle.tw_base.specs.declared.history.tree_proof.TreeProof.{TreeProof}
use Rattle.tw_base.specs.declared.history.tree_proof.TreeProof.TheVariants.{Present as OfEntry, Gap}
use Rattle.tw_base.proofs.lemmas.kinds.ListLemmas.{Each-append}
use Rattle.tw_base.specs.history.TreeProofs.{ancestors_of}
use Rattle.tw_base.specs.history.Ways.{has_asked_key, is_left}
use Rattle.tw_rbnode.specs.declared.node.Found.{Found as Spot}
use Rattle.tw_rbnode.specs.declared.node.Found.TheVariants.{At, Between}
use Rattle.tw_rbnode.specs.Page.{IsNode, TreePage}
use Rattle.tw_rbnode.specs.Shape.{Shape, Empty, Node, size}
use Rattle.tw_rbnode.specs.Trees.{above_at, label_at, labels_of, mark_of, node_above, nodes_above}
use Rattle.tw_rbtree.specs.Paths.{with_above}
use Rattle.tw_rbtree.specs.Beside.{AreBeside, IsHigh, IsLow, IsMet, IsSoughtBy}
use Rattle.tw_rbtree.specs.Ways.{seek}

pub seek-beside : (ask : Ask) (base : ℕ) (low high : Option Entry) (es : List Entry) → AreBeside ask low high
    → Each IsEntryInRange es → IsSoughtBy ask (seek ask base low high es)
unfolding seek
seek-beside ask base low high [] beside ranges = (tt, beside)
seek-beside ask base low high (e ∷ es) beside ranges =
    by (has_asked_key ask e) (is_left ask e) refl refl (λ right. seek-beside ask (base + 1) (Some e) high es
    ((right, ranges.0), beside.1) ranges.1)
  where
    by : (meets left : Bool) → has_asked_key ask e ≡ meets → is_left ask e ≡ left
        → (is_left ask e ≡ false → IsSoughtBy ask (seek ask (base + 1) (Some e) high es))
        → IsSoughtBy ask (if meets then record { at = At (base + 1); low = low; met = Some e; high = high }
        else (if left then record { at = Between base; low = low; met = None; high = Some e } else seek ask (base + 1)
        (Some e) high es))
    by true left m l rest = ((m, ranges.0), beside)
    by false true m l rest = (tt, (beside.0, (l, ranges.0)))
    by false false m l rest = rest l

-- a key that compares as equal is the same
key-is : (a b : Key) → is_eq (key_cmp a b) ≡ true → a ≡ b
key-is a b is = by (slice_cmp nat_cmp a.from b.from) refl is
  where
    steps : (o : Ordering) → nat_cmp a.step b.step ≡ o → is_eq o ≡ true → nat_cmp a.step b.step ≡ Equal
    steps Less e sure = cc
    steps Equal e sure = e
    steps Greater e sure = cc

    by : (o : Ordering) → slice_cmp nat_cmp a.from b.from ≡ o → is_eq (ordering_then o (nat_cmp a.step b.step)) ≡ true
        → a ≡ b
    by Less names sure = cc
    by Equal names sure =
        let from = slice_cmp-IsAntisymmetric nat_cmp-IsAntisymmetric a.from b.from names in
        let step = nat_cmp-IsAntisymmetric a.step b.step (steps (nat_cmp a.step b.step) refl sure) in
        λ i. record { from = from i; step = step i }
    by Greater names sure = cc

pub met-has : (key : Key) (o : Option Entry) → IfSome o (IsMet (Absent key))
    → IfSome o (λ e. (key_of e ≡ key) × IsEntryInRange e)
met-has key None is = tt
met-has key (Some e) is = (sym (key-is key (key_of e) is.0), is.1)

pub low-below : (key : Key) (o : Option Entry) → IfSome o (IsLow (Below key))
    → IfSome o (λ e. KeyBelow (key_of e) key × IsEntryInRange e)
low-below key None is = tt
low-below key (Some e) is = (below-lt (key_of e) key (turned _ is.0), is.1)
  where
    turned : (b : Bool) → not b ≡ false → b ≡ true
    turned true e = refl
    turned false e = cc

pub high-above : (key : Key) (o : Option Entry) → IfSome o (IsHigh (Above key))
    → IfSome o (λ e. KeyBelow key (key_of e) × IsEntryInRange e)
high-above key None is = tt
high-above key (Some e) is = (below-lt key (key_of e) is.0, is.1)

-- ---- the nodes above a slot or a place

get-range : (es : List Entry) (k : ℕ) → Each IsEntryInRange es → IfSome (slice_get es k) IsEntryInRange
get-range [] k ranges = tt
get-range (e ∷ es) zero ranges = ranges.0
get-range (e ∷ es) (suc k) ranges = get-range es k ranges.1

module _ (dig : List ℕ → List ℕ) where
  one-range : (o : Option Entry) (other : List ℕ) → IfSome o IsEntryInRange → Each IsAncestorInRange
      (node_above dig o other)
  one-range None other is = tt
  one-range (Some e) other is = (is, tt)

  above-ranges : (es : List Entry) (labels : List (List ℕ)) (mark base : ℕ) (s : Shape) → Each IsEntryInRange es
      → Each IsAncestorInRange (above_at dig es labels mark base s)
  unfolding above_at
  above-ranges es labels mark base Empty ranges = tt
  above-ranges es labels mark base (Node red l r) ranges =
      by (mark == 2 * (base + size l + 1)) (nat_lt mark (2 * (base + size l + 1)))
      (above-ranges es labels mark base l ranges) (above-ranges es labels mark (base + size l + 1) r ranges)
    where
      by : (here left : Bool) → Each IsAncestorInRange (above_at dig es labels mark base l) → Each IsAncestorInRange
          (above_at dig es labels mark (base + size l + 1) r)
          → Each IsAncestorInRange (if here then [] else (if left then above_at dig es labels mark base l ++ node_above
          dig (slice_get es (base + size l)) (label_at dig es labels (base + size l + 1) r)
          else above_at dig es labels mark (base + size l + 1) r ++ node_above dig (slice_get es (base + size l))
          (label_at dig es labels base l)))
      by true left one two = tt
      by false true one two = Each-append IsAncestorInRange (above_at dig es labels mark base l) _ one
          (one-range (slice_get es (base + size l)) _ (get-range es (base + size l) ranges))
      by false false one two = Each-append IsAncestorInRange (above_at dig es labels mark (base + size l + 1) r) _ two
          (one-range (slice_get es (base + size l)) _ (get-range es (base + size l) ranges))

  pub nodes-ranges : (p : TreePage) (at : Spot) → IsNode p → Each IsAncestorInRange (nodes_above dig p at)
  nodes-ranges p at node = above-ranges p.entries (labels_of p.children) (mark_of at) 0 p.shape node.ranges

pub more-ranges : (dig : List ℕ → List ℕ) (p : TreePage) (at : Spot) (old new : TreeProof) → IsNode p → new ≡ with_above
    old (nodes_above dig p at) → Each IsAncestorInRange (ancestors_of old) → Each IsAncestorInRange (ancestors_of new)
more-ranges dig p at old new node is ranges = subst (λ (x : TreeProof). Each IsAncestorInRange (ancestors_of x))
    (sym is) (by old ranges)
  where
    by : (x : TreeProof) → Each IsAncestorInRange (ancestors_of x) → Each IsAncestorInRange
        (ancestors_of (with_above x (nodes_above dig p at)))
    by (OfEntry left right up) all = Each-append IsAncestorInRange up (nodes_above dig p at) all
        (nodes-ranges dig p at node)
    by (Gap up) all = Each-append IsAncestorInRange up (nodes_above dig p at) all (nodes-ranges dig p at node)

pub ruleset ranges_above = (more-ranges)
