-- Where what is checked of an atlas holds, its arrivals are the least steps to which chains lead.
use Rattle.std.proofs.Common.{◌≡◌, ◌≢◌, ℕ, suc, zero, ◌≤◌, List, [], ◌∷◌, ◌++◌, Some, refl, sym, ◌∙◌, ap, subst, inl}
use Rattle.std.proofs.Common.{inr, arith, true}
use Rattle.std.specs.Prelude.{map, reverse, slice_get}
use Rattle.std.proofs.lemmas.List.{reverse-append}
use Rattle.tw_base.specs.declared.history.report.Hop.{Hop}
use Rattle.tw_base.specs.declared.history.thread.Key.{Key}
use Rattle.tw_base.specs.history.Chains.{HopStands, LeadsBy}
use Rattle.tw_base.specs.history.History.{History}
use Rattle.tw_base.specs.kinds.Lists.{Each, In}
use Rattle.tw_base.proofs.lemmas.kinds.ListLemmas.{Each-in, Each-map}
use Rattle.tw_atlas.specs.declared.atlas.Arrival.{Arrival}
use Rattle.tw_atlas.specs.declared.atlas.Atlas.{Atlas}
use Rattle.tw_atlas.specs.declared.atlas.Leg.{Leg}
use Rattle.tw_atlas.specs.Atlases.{IsAtlas, IsAtlasClosed, IsBest, IsGrounded, leg_hops, stops}
use Rattle.tw_atlas.specs.Earliest.{IsEarliest, IsWay, IsWayBack, arrives_at}
use Rattle.tw_atlas.specs.Reaching.{IsChain, IsLeast, ReachesByHops, end_of_hops, goes_on_from, target}
use Rattle.tw_atlas.proofs.Hops.{get-mapped, goes-on, goes-on-from, in-get, in-map, in-mapped}

-- ---- chains

module _ (given : List Hop) where
  chain-snoc : (hops : List Hop) (start : Key) (hop : Hop) → IsChain given start hops → In hop given
      → goes_on_from (end_of_hops start hops) hop ≡ true
      → IsChain given start (hops ++ hop ∷ [])
  chain-snoc [] start hop chain there on = (there, on, tt)
  chain-snoc (one ∷ hops) start hop chain there on =
      (chain.0, chain.1, chain-snoc hops (target one) hop chain.2 there on)

end-snoc : (hops : List Hop) (start : Key) (hop : Hop) → end_of_hops start (hops ++ hop ∷ []) ≡ target hop
end-snoc [] start hop = refl
end-snoc (one ∷ hops) start hop = end-snoc hops (target one) hop

-- a chain of hops that stand leads to where it ends
leads-along : (dig : List ℕ → List ℕ) (family : List History) (given hops : List Hop) (start : Key)
    → Each (HopStands dig family) hops
    → IsChain given start hops → LeadsBy dig family hops start (end_of_hops start hops)
leads-along dig family given [] start stand chain = (refl, omega arith)
leads-along dig family given (hop ∷ hops) start stand chain =
    let on = goes-on start hop chain.1 in
    (on.0, on.1, stand.0, leads-along dig family given hops (target hop) stand.1 chain.2)

-- hops that lead to a goal are a chain, which ends on its service, at a step at most the goal's
chain-of : (dig : List ℕ → List ℕ) (family : List History) (given : List Hop) → ((hop : Hop) → HopStands dig family hop
    → In hop given)
    → (hops : List Hop) (start goal : Key) → LeadsBy dig family hops start goal
    → IsChain given start hops × ((end_of_hops start hops).from ≡ goal.from)
    × ((end_of_hops start hops).step ≤ goal.step)
chain-of dig family given all [] start goal leads = (tt, leads.0, leads.1)
chain-of dig family given all (hop ∷ hops) start goal leads =
    let rest = chain-of dig family given all hops (target hop) goal leads.3 in
    ((all hop leads.2, goes-on-from start hop leads.0 leads.1, rest.0), rest.1, rest.2)

-- ---- the stops of an atlas are where chains end

target-in : (legs : List Leg) (hop : Hop) → In hop (leg_hops legs)
    → In (target hop) (map (λ (leg : Leg). target leg.hop) legs)
target-in legs hop there =
    let leg = in-mapped (λ (leg : Leg). leg.hop) legs hop there in
    let stop = in-map (λ (leg : Leg). target leg.hop) legs leg.0 leg.1 in
    subst (λ (h : Hop). In (target h) (map (λ (leg : Leg). target leg.hop) legs)) (sym leg.2) stop

-- a chain that begins at a stop ends at one
ends-at : (given : List Hop) (start : Key) (legs : List Leg) → IsAtlasClosed given start legs
    → (hops : List Hop) (at : Key) → In at (stops start legs) → IsChain given at hops → In (end_of_hops at hops)
    (stops start legs)
ends-at given start legs closed [] at there chain = there
ends-at given start legs closed (hop ∷ hops) at there chain =
    ends-at given start legs closed hops (target hop) (inr (target-in legs hop (closed at hop there chain.0 chain.1)))
    chain.2

reverse-cons : (hop : Hop) (hops : List Hop) → reverse (hop ∷ hops) ≡ reverse hops ++ hop ∷ []
reverse-cons hop hops = reverse-append (hop ∷ []) hops

-- the legs that are followed back from a stop
pub record Way (given : List Hop) (start : Key) (legs : List Leg) (number : ℕ) (at : Key) : Type 0 where
  pub back : List Hop
  pub is_way : IsWayBack legs number back
  pub chain : IsChain given start (reverse back)
  pub ends : end_of_hops start (reverse back) ≡ at

module _ (given : List Hop) (start : Key) (legs : List Leg) (grounded : (k : ℕ) (leg : Leg) → slice_get legs k ≡ Some
    leg → IsGrounded given start legs k leg) where
  longer : (k : ℕ) (leg : Leg) (at from : Key) → slice_get legs k ≡ Some leg → target leg.hop ≡ at → In leg.hop given
      → goes_on_from from leg.hop ≡ true
      → Way given start legs leg.after from → Way given start legs (suc k) at
  longer k leg at from is lands there on way =
      let turned = reverse-cons leg.hop way.back in
      let chain = chain-snoc given (reverse way.back) start leg.hop way.chain there
      (subst (λ (x : Key). goes_on_from x leg.hop ≡ true) (sym way.ends) on) in
      record {
        back = leg.hop ∷ way.back;
        is_way = (k, leg, refl, is, refl, way.is_way);
        chain = subst (IsChain given start) (sym turned) chain;
        ends = ap (end_of_hops start) turned ∙ end-snoc (reverse way.back) start leg.hop ∙ lands;
      }

  way-within : (most number : ℕ) (at : Key) → number ≤ most → slice_get (stops start legs) number ≡ Some at
      → Way given start legs number at
  way-within most zero at within is =
      record { back = []; is_way = refl; chain = tt; ends = (let same : Some start ≡ Some at = is in cc) }
  way-within zero (suc k) at within is = absurd (omega arith)
  way-within (suc most) (suc k) at within is =
      let leg = get-mapped (λ (leg : Leg). target leg.hop) legs k at is in
      let ground = grounded k leg.0 leg.1 in
      let earlier = ground.earlier in
      longer k leg.0 at ground.follows.0 leg.1 leg.2 ground.is_given ground.follows.2
      (way-within most leg.0.after ground.follows.0 (omega (arith, earlier)) ground.follows.1)

  pub way-to : (number : ℕ) (at : Key) → slice_get (stops start legs) number ≡ Some at → Way given start legs number at
  way-to number at is = way-within number number at (omega arith) is

-- ---- the theorem

module _ (given : List Hop) (start : Key) (atlas : Atlas) (is : IsAtlas given start atlas) where
  way-of : (arrival : Arrival) → IsBest (stops start atlas.legs) arrival → Way given start atlas.legs arrival.leg
      (arrives_at arrival)
  way-of arrival best = way-to given start atlas.legs is.grounded arrival.leg (arrives_at arrival) best.stands

  reached-stop : (at : Key) → ReachesByHops given start at → In at (stops start atlas.legs)
  reached-stop at reaches =
      subst (λ (x : Key). In x (stops start atlas.legs)) reaches.2 (ends-at given start atlas.legs is.closed reaches.0
      start (inl refl) reaches.1)

  least-of : (arrival : Arrival) → IsBest (stops start atlas.legs) arrival → IsLeast given start arrival.service
      arrival.step
  least-of arrival best = let way = way-of arrival best in record {
    reached = (reverse way.back, way.chain, way.ends);
    least = λ other reaches. (let at : Key = record { from = arrival.service; step = other } in
        let there = in-get (stops start atlas.legs) at (reached-stop at reaches) in best.least there.0 at there.1 refl);
  }

  way-for : (arrival : Arrival) → IsBest (stops start atlas.legs) arrival → (back : List Hop) × IsWay given start
      atlas.legs arrival back
  way-for arrival best = let way = way-of arrival best in (
    way.back,
    record {
      followed = way.is_way;
      chain = way.chain;
      ends = way.ends;
      leads = λ dig family stand. subst (LeadsBy dig family (reverse way.back) start) way.ends
          (leads-along dig family given (reverse way.back) start stand way.chain);
    },
  )

  pub earliest : IsEarliest given start atlas
  earliest = record {
    least = Each-map (IsBest (stops start atlas.legs)) (λ (arrival : Arrival). IsLeast given start arrival.service
        arrival.step) atlas.arrivals least-of is.arrivals.best;
    no_line = λ service none step reaches. (
        let at : Key = record { from = service; step = step } in
        let has = Each-in (λ (at : Key). (arrival : Arrival) × In arrival atlas.arrivals × (arrival.service ≡ at.from))
        (stops start atlas.legs) at is.arrivals.all (reached-stop at reaches) in
        Each-in (λ (arrival : Arrival). arrival.service ≢ service) atlas.arrivals has.0 none has.1 has.2);
    way = Each-map (IsBest (stops start atlas.legs)) (λ (arrival : Arrival). (back : List Hop) × IsWay given start
        atlas.legs arrival back) atlas.arrivals way-for is.arrivals.best;
    complete = λ dig family all hops goal leads. (
        let chain = chain-of dig family given all hops start goal leads in
        let end : Key = end_of_hops start hops in
        let there = reached-stop end (hops, chain.0, refl) in
        let has = Each-in (λ (at : Key). (arrival : Arrival) × In arrival atlas.arrivals × (arrival.service ≡ at.from))
        (stops start atlas.legs) end is.arrivals.all there in
        let best = Each-in (IsBest (stops start atlas.legs)) atlas.arrivals has.0 is.arrivals.best has.1 in
        let number = in-get (stops start atlas.legs) end there in
        let low = best.least number.0 end number.1 (sym has.2) in
        (has.0, has.1, has.2 ∙ chain.1, omega (arith, low, chain.2)));
  }
