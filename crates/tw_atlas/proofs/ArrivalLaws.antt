-- The arrivals at some stops: there is one list of them.
use Rattle.std.proofs.Common.{◌≡◌, ℕ, List, [], ◌∷◌, refl, sym, ◌∙◌, subst, inl, inr, arith}
use Rattle.std.specs.Prelude.{map}
use Rattle.std.specs.List.Sorted.{IsStrictlySortedBy}
use Rattle.std.specs.List.{AllByRecursion}
use Rattle.std.specs.Ordering.{nat_cmp}
use Rattle.std.specs.Cmp.Lexicographic.{slice_cmp}
use Rattle.std.specs.declared.cmp.Ordering.TheVariants.{Less}
use Rattle.std.proofs.lemmas.Cmp.{nat_list_cmp_total}
use Rattle.tw_base.specs.declared.history.thread.Key.{Key}
use Rattle.tw_base.specs.kinds.Lists.{In}
use Rattle.tw_base.proofs.lemmas.kinds.ListLemmas.{Each-in}
use Rattle.tw_atlas.specs.declared.atlas.Arrival.{Arrival}
use Rattle.tw_atlas.specs.declared.atlas.Atlas.{Atlas}
use Rattle.tw_atlas.specs.declared.atlas.Leg.{Leg}
use Rattle.tw_atlas.specs.Atlases.{AreArrivals, IsBest, stops}
use Rattle.tw_atlas.proofs.Hops.{get-in}

-- two of one service are one
same-best : (at : List Key) (one other : Arrival) → IsBest at one → IsBest at other → one.service ≡ other.service
    → one ≡ other
same-best at one other p q same =
    let low = p.least other.leg (record { from = other.service; step = other.step }) q.stands (sym same) in
    let high = q.least one.leg (record { from = one.service; step = one.step }) p.stands same in
    let step : one.step ≡ other.step = omega (arith, low, high) in
    let early = p.first other.leg (record { from = other.service; step = other.step }) q.stands (sym same) (sym step) in
    let late = q.first one.leg (record { from = one.service; step = one.step }) p.stands same step in
    let leg : one.leg ≡ other.leg = omega (arith, early, late) in
    λ i. record { service = same i; step = step i; leg = leg i }

never-itself : (a : List ℕ) → slice_cmp nat_cmp a a ≡ Less → ⊥
never-itself a below = let turned = nat_list_cmp_total.antisymm a a in cc

module _ (at : List Key) where
  -- each of the one list is in the other
  shared : (ones others : List Arrival) (p : AreArrivals at ones) (q : AreArrivals at others) (one : Arrival)
      → In one ones → In one others
  shared ones others p q one there =
      let best = Each-in (IsBest at) ones one p.best there in
      let stop : Key = record { from = one.service; step = one.step } in
      let has = Each-in (λ (stop : Key). (arrival : Arrival) × In arrival others × (arrival.service ≡ stop.from)) at
      stop q.all (get-in at one.leg stop best.stands) in
      let same = same-best at has.0 one (Each-in (IsBest at) others has.0 q.best has.1) best has.2 in
      subst (λ (a : Arrival). In a others) same has.1

-- by name
abbrev Rise : List Arrival → Type 0
Rise arrivals = IsStrictlySortedBy (slice_cmp nat_cmp) (map (λ (a : Arrival). a.service) arrivals)

later : (first : List ℕ) (arrivals : List Arrival) (one : Arrival)
    → AllByRecursion (λ name. slice_cmp nat_cmp first name ≡ Less) (map (λ (a : Arrival). a.service) arrivals)
    → In one arrivals
    → slice_cmp nat_cmp first one.service ≡ Less
later first [] one all there = absurd there
later first (a ∷ arrivals) one all (inl same) = subst (λ (x : Arrival). slice_cmp nat_cmp first x.service ≡ Less)
    (sym same) all.0
later first (a ∷ arrivals) one all (inr there) = later first arrivals one all.1 there

-- two lists by name with the same members are one
same-lists : (ones others : List Arrival) → Rise ones → Rise others → ((a : Arrival) → In a ones → In a others)
    → ((a : Arrival) → In a others → In a ones) → ones ≡ others
unfolding IsStrictlySortedBy
same-lists [] [] p q there back = refl
same-lists [] (b ∷ others) p q there back = absurd (back b (inl refl))
same-lists (a ∷ ones) [] p q there back = absurd (there a (inl refl))
same-lists (a ∷ ones) (b ∷ others) p q there back =
    let rest = same-lists ones others p.1 q.1 (λ c here. inner c here) (λ c here. outer c here) in
    λ i. heads i ∷ rest i
  where
    heads : a ≡ b
    heads = elim (there a (inl refl)) [
      | inl same ↦ same
      | inr far ↦ elim (back b (inl refl)) [
        | inl same ↦ sym same
        | inr wide ↦ absurd (never-itself a.service (nat_list_cmp_total.trans a.service b.service a.service
            (later a.service ones b p.0 wide) (later b.service others a q.0 far)))
      ]
    ]

    inner : (c : Arrival) → In c ones → In c others
    inner c here = elim (there c (inr here)) [
      | inl same ↦ absurd (never-itself a.service (subst (λ (x : Arrival). slice_cmp nat_cmp a.service x.service ≡ Less)
          (same ∙ sym heads) (later a.service ones c p.0 here)))
      | inr far ↦ far
    ]

    outer : (c : Arrival) → In c others → In c ones
    outer c here = elim (back c (inr here)) [
      | inl same ↦ absurd (never-itself b.service (subst (λ (x : Arrival). slice_cmp nat_cmp b.service x.service ≡ Less)
          (same ∙ heads) (later b.service others c q.0 here)))
      | inr far ↦ far
    ]

pub one-atlas : (start : Key) (one other : Atlas) → AreArrivals (stops start one.legs) one.arrivals
    → AreArrivals (stops start other.legs) other.arrivals
    → one.legs ≡ other.legs → one ≡ other
one-atlas start one other p q legs =
    let q' = subst (λ (l : List Leg). AreArrivals (stops start l) other.arrivals) (sym legs) q in
    let at : List Key = stops start one.legs in
    let arrivals = same-lists one.arrivals other.arrivals p.names_rise q'.names_rise
    (shared at one.arrivals other.arrivals p q') (shared at other.arrivals one.arrivals q' p) in
    λ i. record { legs = legs i; arrivals = arrivals i }
