-- The order of hops, and the different hops of a list.
use Rattle.std.proofs.Common.{◌≡◌, ◌≢◌, ◌⊎◌, ℕ, ◌+◌, ◌≤◌, List, [], ◌∷◌, length, refl, sym, ◌∙◌, ap, subst, inl, inr}
use Rattle.std.proofs.Common.{arith}
use Rattle.std.specs.Prelude.{fold}
use Rattle.std.specs.List.{AllByRecursion}
use Rattle.std.specs.List.Sorted.{IsStrictlySortedBy}
use Rattle.std.specs.Cmp.{IsTotalOrder, then_total, on_total}
use Rattle.std.specs.Cmp.Lexicographic.{slice_cmp}
use Rattle.std.specs.Ordering.{match_ordering, nat_cmp, ordering_then}
use Rattle.std.specs.declared.cmp.Ordering.{Ordering}
use Rattle.std.specs.declared.cmp.Ordering.TheVariants.{Less, Equal, Greater}
use Rattle.std.proofs.lemmas.Map.Lookups.{exact_bytes, exact_pairs, exact_unsigned}
use Rattle.tw_base.specs.declared.history.report.Hop.{Hop}
use Rattle.tw_base.specs.kinds.Lists.{Each, In}
use Rattle.tw_base.proofs.lemmas.history.Keys.{key_cmp_total}
use Rattle.tw_base.proofs.lemmas.kinds.ListLemmas.{Apart, Each-map}
use Rattle.tw_atlas.specs.Reaching.{source, target}
use Rattle.tw_atlas.specs.Rounds.{hop_cmp, ordered, put_hop}

pub hop_cmp_total : IsTotalOrder hop_cmp
hop_cmp_total = then_total (on_total source key_cmp_total) (on_total target key_cmp_total)

-- a step of a service, as a pair
step_cmp : List ℕ × ℕ → List ℕ × ℕ → Ordering
step_cmp x y = ordering_then (slice_cmp nat_cmp x.0 y.0) (nat_cmp x.1 y.1)

-- hops that compare alike are one
pub same-hop : (a b : Hop) → hop_cmp a b ≡ Equal → a ≡ b
unfolding step_cmp
same-hop a b is =
    let pairs : (x y : List ℕ × ℕ) → step_cmp x y ≡ Equal → x ≡ y = exact_pairs (slice_cmp nat_cmp) nat_cmp exact_bytes
    exact_unsigned in
    let both = exact_pairs step_cmp step_cmp pairs pairs ((a.from, a.step), (a.by, a.archived))
    ((b.from, b.step), (b.by, b.archived)) is in
    ap (λ (p : (List ℕ × ℕ) × (List ℕ × ℕ)). record { from = p.0.0; step = p.0.1; by = p.1.0; archived = p.1.1 }) both

abbrev pub HopBelow : Hop → Hop → Type 0
HopBelow a b = hop_cmp a b ≡ Less

pub below-differs : (a b : Hop) → HopBelow a b → a ≢ b
below-differs a b below same =
    let itself : hop_cmp a a ≡ Less = subst (λ (x : Hop). hop_cmp a x ≡ Less) (sym same) below in
    let turned = hop_cmp_total.antisymm a a in cc

above : (a b : Hop) → hop_cmp a b ≡ Greater → HopBelow b a
above a b p = let turned = hop_cmp_total.antisymm b a in rw (turned) (rw p refl)

-- each hop is below those after it
abbrev pub Rises : List Hop → Type 0
Rises [] = Unit {0}
Rises (hop ∷ hops) = Each (HopBelow hop) hops × Rises hops

pub rises-apart : (hops : List Hop) → Rises hops → Apart hops
rises-apart [] rises = tt
rises-apart (hop ∷ hops) rises =
    (Each-map (HopBelow hop) (λ (y : Hop). hop ≢ y) hops (below-differs hop) rises.0, rises-apart hops rises.1)

-- ---- a hop more

each-put : (P : Hop → Type 0) (hop : Hop) (hops : List Hop) → P hop → Each P hops → Each P (put_hop hop hops)
each-put P hop [] here all = (here, tt)
each-put P hop (first ∷ rest) here all = by (hop_cmp hop first) (each-put P hop rest here all.1)
  where
    by : (o : Ordering) → Each P (put_hop hop rest) → Each P (match_ordering o (hop ∷ first ∷ rest) (first ∷ rest)
        (first ∷ put_hop hop rest))
    by Less more = (here, all)
    by Equal more = all
    by Greater more = (all.0, more)

rises-put : (hop : Hop) (hops : List Hop) → Rises hops → Rises (put_hop hop hops)
rises-put hop [] rises = (tt, tt)
rises-put hop (first ∷ rest) rises = by (hop_cmp hop first) refl (rises-put hop rest rises.1)
  where
    by : (o : Ordering) → hop_cmp hop first ≡ o → Rises (put_hop hop rest)
        → Rises (match_ordering o (hop ∷ first ∷ rest) (first ∷ rest) (first ∷ put_hop hop rest))
    by Less is more = (
      (is, Each-map (HopBelow first) (HopBelow hop) rest (λ y below. hop_cmp_total.trans hop first y is below) rises.0),
      rises,
    )
    by Equal is more = rises
    by Greater is more = (each-put (HopBelow first) hop rest (above hop first is) rises.0, more)

in-put : (x hop : Hop) (hops : List Hop) → In x (put_hop hop hops) → (x ≡ hop) ⊎ In x hops
in-put x hop [] (inl same) = inl same
in-put x hop [] (inr p) = absurd p
in-put x hop (first ∷ rest) p = by (hop_cmp hop first) (in-put x hop rest) p
  where
    by : (o : Ordering) → (In x (put_hop hop rest) → (x ≡ hop) ⊎ In x rest)
        → In x (match_ordering o (hop ∷ first ∷ rest) (first ∷ rest) (first ∷ put_hop hop rest)) → (x ≡ hop)
        ⊎ In x (first ∷ rest)
    by Less more p = p
    by Equal more p = inr p
    by Greater more (inl same) = inr (inl same)
    by Greater more (inr p) = elim (more p) [ inl same ↦ inl same | inr there ↦ inr (inr there) ]

put-has : (x hop : Hop) (hops : List Hop) → (x ≡ hop) ⊎ In x hops → In x (put_hop hop hops)
put-has x hop [] (inl same) = inl same
put-has x hop [] (inr p) = absurd p
put-has x hop (first ∷ rest) p = by (hop_cmp hop first) refl (put-has x hop rest) p
  where
    by : (o : Ordering) → hop_cmp hop first ≡ o → ((x ≡ hop) ⊎ In x rest → In x (put_hop hop rest)) → (x ≡ hop)
        ⊎ In x (first ∷ rest)
        → In x (match_ordering o (hop ∷ first ∷ rest) (first ∷ rest) (first ∷ put_hop hop rest))
    by Less is more p = p
    by Equal is more (inl same) = inl (same ∙ same-hop hop first is)
    by Equal is more (inr p) = p
    by Greater is more (inl same) = inr (more (inl same))
    by Greater is more (inr (inl same)) = inl same
    by Greater is more (inr (inr p)) = inr (more (inr p))

length-put : (hop : Hop) (hops : List Hop) → length (put_hop hop hops) ≤ length hops + 1
length-put hop [] = omega arith
length-put hop (first ∷ rest) = by (hop_cmp hop first) (length-put hop rest)
  where
    by : (o : Ordering) → length (put_hop hop rest) ≤ length rest + 1
        → length (match_ordering o (hop ∷ first ∷ rest) (first ∷ rest) (first ∷ put_hop hop rest)) ≤ length
        (first ∷ rest) + 1
    by Less more = omega arith
    by Equal more = omega arith
    by Greater more = omega (arith, more)

-- ---- all of them

put_all : (put hops : List Hop) → List Hop
put_all put hops = fold (λ put hop. put_hop hop put) put hops

rises-all : (hops put : List Hop) → Rises put → Rises (put_all put hops)
unfolding put_all
rises-all [] put rises = rises
rises-all (hop ∷ hops) put rises = rises-all hops (put_hop hop put) (rises-put hop put rises)

in-all : (x : Hop) (hops put : List Hop) → In x (put_all put hops) → In x put ⊎ In x hops
unfolding put_all
in-all x [] put p = inl p
in-all x (hop ∷ hops) put p = elim (in-all x hops (put_hop hop put) p) [
  | inl there ↦ elim (in-put x hop put there) [ inl same ↦ inr (inl same) | inr before ↦ inl before ]
  | inr there ↦ inr (inr there)
]

all-has : (x : Hop) (hops put : List Hop) → In x put ⊎ In x hops → In x (put_all put hops)
unfolding put_all
all-has x [] put (inl p) = p
all-has x [] put (inr p) = absurd p
all-has x (hop ∷ hops) put (inl p) = all-has x hops (put_hop hop put) (inl (put-has x hop put (inr p)))
all-has x (hop ∷ hops) put (inr (inl same)) = all-has x hops (put_hop hop put) (inl (put-has x hop put (inl same)))
all-has x (hop ∷ hops) put (inr (inr p)) = all-has x hops (put_hop hop put) (inr p)

length-all : (hops put : List Hop) → length (put_all put hops) ≤ length put + length hops
unfolding put_all
length-all [] put = omega arith
length-all (hop ∷ hops) put = let more = length-all hops (put_hop hop put) in let one = length-put hop put in
    omega (arith, more, one)

pub ordered-rises : (hops : List Hop) → Rises (ordered hops)
unfolding put_all
ordered-rises hops = rises-all hops [] tt

pub in-ordered : (x : Hop) (hops : List Hop) → In x (ordered hops) → In x hops
unfolding put_all
in-ordered x hops p = elim (in-all x hops [] p) [ inl none ↦ absurd none | inr there ↦ there ]

pub ordered-has : (x : Hop) (hops : List Hop) → In x hops → In x (ordered hops)
unfolding put_all
ordered-has x hops p = all-has x hops [] (inr p)

pub ordered-few : (hops : List Hop) → length (ordered hops) ≤ length hops
unfolding put_all
ordered-few hops = let few = length-all hops [] in omega (arith, few)

sorted-rises : (hops : List Hop) → Rises hops → IsStrictlySortedBy hop_cmp hops
unfolding IsStrictlySortedBy
sorted-rises [] rises = tt
sorted-rises (hop ∷ hops) rises = (below hops rises.0, sorted-rises hops rises.1)
  where
    below : (hops : List Hop) → Each (HopBelow hop) hops → AllByRecursion (λ (y : Hop). hop_cmp hop y ≡ Less) hops
    below [] all = tt
    below (y ∷ ys) all = (all.0, below ys all.1)

pub ordered-sorted : (hops : List Hop) → IsStrictlySortedBy hop_cmp (ordered hops)
ordered-sorted hops = sorted-rises (ordered hops) (ordered-rises hops)
