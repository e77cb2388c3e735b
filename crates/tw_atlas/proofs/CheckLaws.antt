-- The checks pass exactly where what is told is an atlas.
use Rattle.std.proofs.Common.{◌≡◌, ◌≢◌, ◌⊎◌, ℕ, suc, zero, ◌+◌, ◌<◌, List, [], ◌∷◌, length, drop, get_or, Bool, true}
use Rattle.std.proofs.Common.{false, not, ◌&&◌, ◌||◌, Option, Some, None, refl, sym, ◌∙◌, ap, subst, inl, inr, arith}
use Rattle.std.proofs.Common.{leb, ltb, eqb}
use Rattle.std.specs.Prelude.{IsTrue, map, slice_get}
use Rattle.std.proofs.Math.Seq.{drop-cons}
use Rattle.std.specs.Bool.{Decides}
use Rattle.std.specs.List.{AllByRecursion, AllPairs, list_all, list_any}
use Rattle.std.specs.List.Sorted.{IsStrictlySortedBy}
use Rattle.std.specs.Ordering.{is_lt, nat_cmp}
use Rattle.std.specs.declared.cmp.Ordering.{Ordering}
use Rattle.std.specs.declared.cmp.Ordering.TheVariants.{Less, Equal, Greater}
use Rattle.std.specs.Cmp.Lexicographic.{slice_cmp}
use Rattle.std.specs.Str.{bytes_eq}
use Rattle.std.proofs.lemmas.Bool.{cases_lt, le-leb, leb-true}
use Rattle.std.proofs.lemmas.Bool.Decides.{Decides-and, Decides-eqb, Decides-like, Decides-ltb, Decides-not, Decides-or}
use Rattle.std.proofs.lemmas.Cmp.{nat_list_cmp_total}
use Rattle.std.proofs.lemmas.Slice.Eq.{bytes_eq-Decides}
use Rattle.tw_base.specs.declared.history.report.Hop.{Hop}
use Rattle.tw_base.specs.declared.history.thread.Key.{Key}
use Rattle.tw_base.specs.kinds.Lists.{Each, In}
use Rattle.tw_base.proofs.lemmas.kinds.ListLemmas.{Apart, Each-in}
use Rattle.tw_atlas.specs.declared.atlas.Arrival.{Arrival}
use Rattle.tw_atlas.specs.declared.atlas.Atlas.{Atlas}
use Rattle.tw_atlas.specs.declared.atlas.Leg.{Leg}
use Rattle.tw_atlas.specs.Atlases.{IsAtlas, IsAtlasClosed, IsBest, IsGrounded, leg_hops, stops}
use Rattle.tw_atlas.specs.Checks.{all_arrive, are_closed, are_grounded, are_once, arrives, atlas_passes, follows}
use Rattle.tw_atlas.specs.Checks.{is_among_hops, is_best, is_better, is_grounded, is_listed, is_reached, is_same}
use Rattle.tw_atlas.specs.Checks.{names_rise, none_better, stands}
use Rattle.tw_atlas.specs.Reaching.{goes_on_from, target}
use Rattle.tw_atlas.proofs.RoundLaws.{each-all, pairs-apart}

-- ---- lists

module _ {X : Type 0} (p : X → Bool) (P : X → Type 0) (each : (x : X) → Decides (p x) (P x)) where
  any-decides : (xs : List X) → Decides (list_any p xs) ((x : X) × In x xs × P x)
  any-decides [] = (λ e. cc, λ some. absurd some.1)
  any-decides (x ∷ xs) = Decides-like (p x || list_any p xs) to from (Decides-or (p x) (list_any p xs) (each x)
      (any-decides xs))
    where
      to : P x ⊎ ((y : X) × In y xs × P y) → (y : X) × In y (x ∷ xs) × P y
      to (inl here) = (x, inl refl, here)
      to (inr there) = (there.0, inr there.1, there.2)

      at : (y : X) → In y (x ∷ xs) → P y → P x ⊎ ((y : X) × In y xs × P y)
      at y (inl same) is = inl (subst P same is)
      at y (inr there) is = inr (y, there, is)

      from : (y : X) × In y (x ∷ xs) × P y → P x ⊎ ((y : X) × In y xs × P y)
      from some = at some.0 some.1 some.2

  all-decides : (xs : List X) → Decides (list_all p xs) (Each P xs)
  all-decides [] = (λ e. tt, λ none. refl)
  all-decides (x ∷ xs) = Decides-and (p x) (list_all p xs) (each x) (all-decides xs)

  any-mapped : {Y : Type 0} (f : Y → X) (ys : List Y) → Decides (list_any (λ y. p (f y)) ys)
      ((x : X) × In x (map f ys) × P x)
  any-mapped f [] = (λ e. cc, λ some. absurd some.1)
  any-mapped {Y} f (y ∷ ys) = Decides-like (p (f y) || list_any (λ y. p (f y)) ys) to from
      (Decides-or (p (f y)) (list_any (λ y. p (f y)) ys) (each (f y)) (any-mapped f ys))
    where
      to : P (f y) ⊎ ((x : X) × In x (map f ys) × P x) → (x : X) × In x (map f (y ∷ ys)) × P x
      to (inl here) = (f y, inl refl, here)
      to (inr there) = (there.0, inr there.1, there.2)

      at : (x : X) → In x (map f (y ∷ ys)) → P x → P (f y) ⊎ ((x : X) × In x (map f ys) × P x)
      at x (inl same) is = inl (subst P same is)
      at x (inr there) is = inr (x, there, is)

      from : (x : X) × In x (map f (y ∷ ys)) × P x → P (f y) ⊎ ((x : X) × In x (map f ys) × P x)
      from some = at some.0 some.1 some.2

  all-mapped : {Y : Type 0} (f : Y → X) (ys : List Y) → Decides (list_all (λ y. p (f y)) ys) (Each P (map f ys))
  all-mapped f [] = (λ e. tt, λ none. refl)
  all-mapped f (y ∷ ys) = Decides-and (p (f y)) (list_all (λ y. p (f y)) ys) (each (f y)) (all-mapped f ys)

-- ---- hops

same-decides : (a b : Hop) → Decides (is_same a b) (a ≡ b)
same-decides a b =
    Decides-like (is_same a b) (λ s. λ i. record { from = s.0 i; step = s.1.0 i; by = s.1.1.0 i; archived = s.1.1.1 i })
    (λ e. (
      ap (λ (h : Hop). h.from) e,
      (ap (λ (h : Hop). h.step) e, (ap (λ (h : Hop). h.by) e, ap (λ (h : Hop). h.archived) e)),
    ))
    (Decides-and (bytes_eq a.from b.from) (eqb a.step b.step && (bytes_eq a.by b.by && eqb a.archived b.archived))
    (bytes_eq-Decides a.from b.from)
    (Decides-and (eqb a.step b.step) (bytes_eq a.by b.by && eqb a.archived b.archived) (Decides-eqb a.step b.step)
    (Decides-and (bytes_eq a.by b.by) (eqb a.archived b.archived) (bytes_eq-Decides a.by b.by)
    (Decides-eqb a.archived b.archived))))

-- one that is in the list
in-some : {X : Type 0} (x : X) (xs : List X) → (y : X) × In y xs × (y ≡ x) → In x xs
in-some x xs some = subst (λ y. In y xs) some.2 some.1

among-decides : (hops : List Hop) (hop : Hop) → Decides (is_among_hops hops hop) (In hop hops)
among-decides hops hop =
    Decides-like (is_among_hops hops hop) (in-some hop hops) (λ there. (hop, there, refl))
    (any-decides (λ other. is_same other hop) (λ (other : Hop). other ≡ hop) (λ other. same-decides other hop) hops)

listed-decides : (legs : List Leg) (hop : Hop) → Decides (is_listed legs hop) (In hop (leg_hops legs))
listed-decides legs hop =
    Decides-like (is_listed legs hop) (in-some hop (leg_hops legs)) (λ there. (hop, there, refl))
    (any-mapped (λ other. is_same other hop) (λ (other : Hop). other ≡ hop) (λ other. same-decides other hop)
    (λ (leg : Leg). leg.hop) legs)

once-apart : (legs : List Leg) → Decides (are_once legs) (Apart (leg_hops legs))
once-apart [] = (λ e. tt, λ none. refl)
once-apart (leg ∷ legs) =
    Decides-and (not (is_listed legs leg.hop)) (are_once legs)
    (Decides-like (not (is_listed legs leg.hop))
    (λ never. each-all (λ (y : Hop). leg.hop ≢ y) (leg_hops legs)
    (λ y there same. never (subst (λ (z : Hop). In z (leg_hops legs)) (sym same) there)))
    (λ all there. Each-in (λ (y : Hop). leg.hop ≢ y) (leg_hops legs) leg.hop all there refl)
    (Decides-not (is_listed legs leg.hop) (listed-decides legs leg.hop)))
    (once-apart legs)

each-from : {X : Type 0} (P : X → Type 0) (xs : List X) → ((k : ℕ) (d : X) → k < length xs → P (get_or xs k d))
    → Each P xs
each-from P [] all = tt
each-from P (x ∷ xs) all = (all 0 x (omega arith), each-from P xs (λ k d within. all (suc k) d (omega (arith, within))))

apart-pairs : {X : Type 0} (xs : List X) → AllPairs (λ one other. one ≢ other) xs → Apart xs
apart-pairs [] pairs = tt
apart-pairs {X} (x ∷ xs) pairs = (
  each-from (λ (y : X). x ≢ y) xs (λ k d within. pairs 0 (suc k) d (omega arith) (omega (arith, within))),
  apart-pairs xs (λ i j d order within. pairs (suc i) (suc j) d (omega (arith, order)) (omega (arith, within))),
)

once-decides : (legs : List Leg) → Decides (are_once legs) (AllPairs (λ one other. one ≢ other) (leg_hops legs))
once-decides legs = Decides-like (are_once legs) (pairs-apart (leg_hops legs)) (apart-pairs (leg_hops legs))
    (once-apart legs)

-- ---- legs

follows-decides : (o : Option Key) (hop : Hop) → Decides (follows o hop)
    ((at : Key) × (o ≡ Some at) × IsTrue (goes_on_from at hop))
follows-decides None hop = (λ e. cc, λ some. (let never : None ≡ Some some.0 = some.1 in cc))
follows-decides (Some at) hop = (
  λ e. (at, refl, e),
  λ some. (let same : at ≡ some.0 = (let e : Some at ≡ Some some.0 = some.1 in cc) in
      ap (λ (k : Key). goes_on_from k hop) same ∙ some.2),
)

module _ (given : List Hop) (start : Key) (legs : List Leg) where
  leg-decides : (k : ℕ) (leg : Leg) → Decides (is_grounded given start legs k leg) (IsGrounded given start legs k leg)
  leg-decides k leg =
      Decides-like (is_grounded given start legs k leg)
      (λ s. record { earlier = s.0; follows = s.1.0; is_given = s.1.1 }) (λ g. (g.earlier, (g.follows, g.is_given)))
      (Decides-and (leb leg.after k) (follows (slice_get (stops start legs) leg.after) leg.hop && is_among_hops given
      leg.hop) (leb-true leg.after k, le-leb leg.after k)
      (Decides-and (follows (slice_get (stops start legs) leg.after) leg.hop) (is_among_hops given leg.hop)
      (follows-decides (slice_get (stops start legs) leg.after) leg.hop) (among-decides given leg.hop)))

  GroundedFrom : (k : ℕ) → List Leg → Type 0
  GroundedFrom k [] = Unit {0}
  GroundedFrom k (leg ∷ rest) = IsGrounded given start legs k leg × GroundedFrom (suc k) rest

  from-decides : (rest : List Leg) (k : ℕ) → Decides (are_grounded given start legs k rest) (GroundedFrom k rest)
  unfolding GroundedFrom
  from-decides [] k = (λ e. tt, λ none. refl)
  from-decides (leg ∷ rest) k = Decides-and (is_grounded given start legs k leg)
      (are_grounded given start legs (suc k) rest) (leg-decides k leg) (from-decides rest (suc k))

  by-place : (rest : List Leg) (k : ℕ) → GroundedFrom k rest → (j n : ℕ) (leg : Leg) → n ≡ k + j
      → slice_get rest j ≡ Some leg → IsGrounded given start legs n leg
  unfolding GroundedFrom
  by-place [] k all j n leg place is = cc
  by-place (one ∷ rest) k all zero n leg place is =
      let same : one ≡ leg = (let e : Some one ≡ Some leg = is in cc) in
      let number : k ≡ n = omega (arith, place) in
      subst (λ (m : ℕ). IsGrounded given start legs m leg) number (subst (IsGrounded given start legs k) same all.0)
  by-place (one ∷ rest) k all (suc j) n leg place is = by-place rest (suc k) all.1 j n leg (omega (arith, place)) is

  all-places : (rest : List Leg) (k : ℕ) → ((j : ℕ) (leg : Leg) → slice_get rest j ≡ Some leg → IsGrounded given start
      legs (k + j) leg) → GroundedFrom k rest
  unfolding GroundedFrom
  all-places [] k all = tt
  all-places (one ∷ rest) k all = (
    subst (λ (m : ℕ). IsGrounded given start legs m one) (let same : k + 0 ≡ k = omega arith in same) (all 0 one refl),
    all-places rest (suc k) (λ j leg is. subst (λ (m : ℕ). IsGrounded given start legs m leg)
        (let same : k + suc j ≡ suc k + j = omega arith in same) (all (suc j) leg is)),
  )

  grounded-decides : Decides (are_grounded given start legs 0 legs) ((k : ℕ) (leg : Leg) → slice_get legs k ≡ Some leg
      → IsGrounded given start legs k leg)
  grounded-decides = Decides-like (are_grounded given start legs 0 legs)
      (λ all k leg is. by-place legs 0 all k k leg (let same : k ≡ 0 + k = omega arith in same) is)
      (λ all. all-places legs 0 (λ j leg is. subst (λ (m : ℕ). IsGrounded given start legs m leg)
      (let same : j ≡ 0 + j = omega arith in same) (all j leg is)))
      (from-decides legs 0)

  Reached : Hop → Type 0
  Reached hop = (at : Key) × In at (stops start legs) × (goes_on_from at hop ≡ true)

  reached-decides : (hop : Hop) → Decides (is_reached start legs hop) (Reached hop)
  unfolding Reached
  reached-decides hop =
      Decides-like (is_reached start legs hop) to from
      (Decides-or (goes_on_from start hop) (list_any (λ (leg : Leg). goes_on_from (target leg.hop) hop) legs)
      (λ e. e, λ e. e)
      (any-mapped (λ at. goes_on_from at hop) (λ (at : Key). goes_on_from at hop ≡ true) (λ at. (λ e. e, λ e. e))
      (λ (leg : Leg). target leg.hop) legs))
    where
      to : (goes_on_from start hop ≡ true) ⊎ ((at : Key) × In at (map (λ (leg : Leg). target leg.hop) legs)
          × (goes_on_from at hop ≡ true))
          → (at : Key) × In at (stops start legs) × (goes_on_from at hop ≡ true)
      to (inl here) = (start, inl refl, here)
      to (inr there) = (there.0, inr there.1, there.2)

      at-stop : (at : Key) → In at (stops start legs) → goes_on_from at hop ≡ true
          → (goes_on_from start hop ≡ true) ⊎ ((at : Key) × In at (map (λ (leg : Leg). target leg.hop) legs)
          × (goes_on_from at hop ≡ true))
      at-stop at (inl same) is = inl (subst (λ (k : Key). goes_on_from k hop ≡ true) same is)
      at-stop at (inr there) is = inr (at, there, is)

      from : (at : Key) × In at (stops start legs) × (goes_on_from at hop ≡ true)
          → (goes_on_from start hop ≡ true) ⊎ ((at : Key) × In at (map (λ (leg : Leg). target leg.hop) legs)
          × (goes_on_from at hop ≡ true))
      from some = at-stop some.0 some.1 some.2

  closed-decides : Decides (are_closed start legs given) (IsAtlasClosed given start legs)
  unfolding Reached
  closed-decides = Decides-like (are_closed start legs given) to from
      (all-decides (λ hop. not (is_reached start legs hop) || is_listed legs hop) (λ (hop : Hop). (Reached hop → ⊥)
      ⊎ In hop (leg_hops legs))
      (λ hop. Decides-or (not (is_reached start legs hop)) (is_listed legs hop) (Decides-not (is_reached start legs hop)
      (reached-decides hop)) (listed-decides legs hop)) given)
    where
      to : Each (λ (hop : Hop). (Reached hop → ⊥) ⊎ In hop (leg_hops legs)) given → IsAtlasClosed given start legs
      to all at hop stop there on = elim (Each-in (λ (hop : Hop). (Reached hop → ⊥) ⊎ In hop (leg_hops legs)) given hop
          all there) [
            | inl never ↦ absurd (never (at, stop, on))
            | inr listed ↦ listed
          ]

      from : IsAtlasClosed given start legs → Each (λ (hop : Hop). (Reached hop → ⊥) ⊎ In hop (leg_hops legs)) given
      from closed = each-all (λ (hop : Hop). (Reached hop → ⊥) ⊎ In hop (leg_hops legs)) given
          (λ hop there. by hop there (is_reached start legs hop) refl)
        where
          by : (hop : Hop) → In hop given → (b : Bool) → is_reached start legs hop ≡ b → (Reached hop → ⊥)
              ⊎ In hop (leg_hops legs)
          by hop there true is = let reached = (reached-decides hop).0 is in
              inr (closed reached.0 hop reached.1 there reached.2)
          by hop there false is = inl (λ reached. let yes = (reached-decides hop).1 reached in
              let never : false ≡ true = sym is ∙ yes in cc)

-- ---- arrivals

lt-less : (o : Ordering) → is_lt o ≡ true → o ≡ Less
lt-less Less e = refl
lt-less Equal e = cc
lt-less Greater e = cc

both-parts : (a b : Bool) → (a && b) ≡ true → (a ≡ true) × (b ≡ true)
both-parts true b e = (refl, e)
both-parts false b e = cc

both-true : (a b : Bool) → a ≡ true → b ≡ true → (a && b) ≡ true
both-true true b p q = q
both-true false b p q = cc

names-sorted : (arrivals : List Arrival) → names_rise arrivals ≡ true → IsStrictlySortedBy (slice_cmp nat_cmp)
    (map (λ (a : Arrival). a.service) arrivals)
unfolding IsStrictlySortedBy
names-sorted [] e = tt
names-sorted (a ∷ []) e = (tt, tt)
names-sorted (a ∷ (b ∷ rest)) e =
    let parts = both-parts (is_lt (slice_cmp nat_cmp a.service b.service)) (names_rise (b ∷ rest)) e in
    let later = names-sorted (b ∷ rest) parts.1 in
    let below = lt-less (slice_cmp nat_cmp a.service b.service) parts.0 in
    ((below, wider rest below later.0), later)
  where
    wider : (cs : List Arrival) → slice_cmp nat_cmp a.service b.service ≡ Less
        → AllByRecursion (λ name. slice_cmp nat_cmp b.service name ≡ Less) (map (λ (c : Arrival). c.service) cs)
        → AllByRecursion (λ name. slice_cmp nat_cmp a.service name ≡ Less) (map (λ (c : Arrival). c.service) cs)
    wider [] below all = tt
    wider (c ∷ cs) below all =
        (nat_list_cmp_total.trans a.service b.service c.service below all.0, wider cs below all.1)

sorted-names : (arrivals : List Arrival) → IsStrictlySortedBy (slice_cmp nat_cmp)
    (map (λ (a : Arrival). a.service) arrivals) → names_rise arrivals ≡ true
unfolding IsStrictlySortedBy
sorted-names [] sorted = refl
sorted-names (a ∷ []) sorted = refl
sorted-names (a ∷ (b ∷ rest)) sorted =
    both-true (is_lt (slice_cmp nat_cmp a.service b.service)) (names_rise (b ∷ rest)) (ap is_lt sorted.0.0)
    (sorted-names (b ∷ rest) sorted.1)

stands-decides : (o : Option Key) (a : Arrival) → Decides (stands o a)
    (o ≡ Some (record { from = a.service; step = a.step }))
stands-decides None a = (λ e. cc, λ some. cc)
stands-decides (Some at) a =
    Decides-like (stands (Some at) a) (λ s. λ i. Some (record { from = s.0 i; step = s.1 i }))
    (λ e. let same : at ≡ record { from = a.service; step = a.step } = cc in
    (ap (λ (k : Key). k.from) same, ap (λ (k : Key). k.step) same))
    (Decides-and (bytes_eq at.from a.service) (eqb at.step a.step) (bytes_eq-Decides at.from a.service)
    (Decides-eqb at.step a.step))

Better : (number : ℕ) → Key → Arrival → Type 0
Better number at a = (at.from ≡ a.service) × ((at.step < a.step) ⊎ ((at.step ≡ a.step) × (number < a.leg)))

better-decides : (number : ℕ) (at : Key) (a : Arrival) → Decides (is_better number at a) (Better number at a)
unfolding Better
better-decides number at a =
    Decides-and (bytes_eq at.from a.service) (ltb at.step a.step || (eqb at.step a.step && ltb number a.leg))
    (bytes_eq-Decides at.from a.service)
    (Decides-or (ltb at.step a.step) (eqb at.step a.step && ltb number a.leg) (Decides-ltb at.step a.step)
    (Decides-and (eqb at.step a.step) (ltb number a.leg) (Decides-eqb at.step a.step) (Decides-ltb number a.leg)))

NoneBetter : (number : ℕ) → List Key → Arrival → Type 0
NoneBetter number [] a = Unit {0}
NoneBetter number (at ∷ rest) a = (Better number at a → ⊥) × NoneBetter (suc number) rest a

none-decides : (at : List Key) (number : ℕ) (a : Arrival) → Decides (none_better number at a) (NoneBetter number at a)
unfolding NoneBetter
none-decides [] number a = (λ e. tt, λ none. refl)
none-decides (one ∷ rest) number a =
    Decides-and (not (is_better number one a)) (none_better (suc number) rest a)
    (Decides-not (is_better number one a) (better-decides number one a)) (none-decides rest (suc number) a)

none-at : (at : List Key) (number : ℕ) (a : Arrival) → NoneBetter number at a → (j n : ℕ) (stop : Key) → n ≡ number + j
    → slice_get at j ≡ Some stop → Better n stop a → ⊥
unfolding NoneBetter
none-at [] number a none j n stop place is better = cc
none-at (one ∷ rest) number a none zero n stop place is better =
    let same : stop ≡ one = (let e : Some one ≡ Some stop = is in cc) in
    let number-is : n ≡ number = omega (arith, place) in
    none.0 (subst (λ (m : ℕ). Better m one a) number-is (subst (λ (s : Key). Better n s a) same better))
none-at (one ∷ rest) number a none (suc j) n stop place is better = none-at rest (suc number) a none.1 j n stop
    (omega (arith, place)) is better

none-from : (at : List Key) (number : ℕ) (a : Arrival) → ((j : ℕ) (stop : Key) → slice_get at j ≡ Some stop
    → Better (number + j) stop a → ⊥) → NoneBetter number at a
unfolding NoneBetter
none-from [] number a none = tt
none-from (one ∷ rest) number a none = (
  λ better. none 0 one refl (subst (λ (m : ℕ). Better m one a) (let same : number ≡ number + 0 = omega arith in same)
      better),
  none-from rest (suc number) a (λ j stop is better. none (suc j) stop is
      (subst (λ (m : ℕ). Better m stop a) (let same : suc number + j ≡ number + suc j = omega arith in same) better)),
)

best-decides : (at : List Key) (a : Arrival) → Decides (is_best at a) (IsBest at a)
unfolding Better
best-decides at a =
    Decides-like (is_best at a) to from
    (Decides-and (stands (slice_get at a.leg) a) (none_better 0 at a) (stands-decides (slice_get at a.leg) a)
    (none-decides at 0 a))
  where
    to : (slice_get at a.leg ≡ Some (record { from = a.service; step = a.step })) × NoneBetter 0 at a → IsBest at a
    to s = record {
      stands = s.0;
      least = λ n stop is same. elim (cases_lt stop.step a.step) [
        | inl less ↦ absurd (none-at at 0 a s.1 n n stop (let place : n ≡ 0 + n = omega arith in place) is
            (same, inl less))
        | inr more ↦ more
      ];
      first = λ n stop is same step. elim (cases_lt n a.leg) [
        | inl less ↦ absurd (none-at at 0 a s.1 n n stop (let place : n ≡ 0 + n = omega arith in place) is
            (same, inr (step, less)))
        | inr more ↦ more
      ];
    }

    never : IsBest at a → (j : ℕ) (stop : Key) → slice_get at j ≡ Some stop → (stop.from ≡ a.service)
        → (stop.step < a.step) ⊎ ((stop.step ≡ a.step) × (j < a.leg)) → ⊥
    never best j stop is same (inl less) = let low = best.least j stop is same in omega (arith, low, less)
    never best j stop is same (inr tie) = let low = best.first j stop is same tie.0 in let early = tie.1 in
        omega (arith, low, early)

    from : IsBest at a → (slice_get at a.leg ≡ Some (record { from = a.service; step = a.step })) × NoneBetter 0 at a
    from best = (
      best.stands,
      none-from at 0 a (λ j stop is better. never best j stop is better.0
          (subst (λ (m : ℕ). (stop.step < a.step) ⊎ ((stop.step ≡ a.step) × (m < a.leg))) (let place : 0 + j ≡ j =
          omega arith in place) better.1)),
    )

arrives-decides : (arrivals : List Arrival) (service : List ℕ) → Decides (arrives arrivals service)
    ((a : Arrival) × In a arrivals × (a.service ≡ service))
arrives-decides arrivals service =
    any-decides (λ (a : Arrival). bytes_eq a.service service) (λ (a : Arrival). a.service ≡ service)
    (λ a. bytes_eq-Decides a.service service) arrivals

all-arrive-decides : (start : Key) (legs : List Leg) (arrivals : List Arrival)
    → Decides (all_arrive start legs arrivals)
    (Each (λ (stop : Key). (a : Arrival) × In a arrivals × (a.service ≡ stop.from)) (stops start legs))
all-arrive-decides start legs arrivals =
    Decides-and (arrives arrivals start.from) (list_all (λ (leg : Leg). arrives arrivals leg.hop.by) legs)
    (arrives-decides arrivals start.from)
    (all-mapped (λ (stop : Key). arrives arrivals stop.from) (λ (stop : Key). (a : Arrival) × In a arrivals
    × (a.service ≡ stop.from)) (λ stop. arrives-decides arrivals stop.from)
    (λ (leg : Leg). target leg.hop) legs)

-- ---- all checks

pub passes-decides : (given : List Hop) (start : Key) (atlas : Atlas) → Decides (atlas_passes given start atlas)
    (IsAtlas given start atlas)
passes-decides given start atlas =
    let legs : List Leg = atlas.legs in
    let arrivals : List Arrival = atlas.arrivals in
    let at : List Key = stops start legs in
    Decides-like (atlas_passes given start atlas)
    (λ s. record {
      once = s.0;
      grounded = s.1.0;
      closed = s.1.1.0;
      arrivals = record { names_rise = s.1.1.1.0; best = s.1.1.1.1.0; all = s.1.1.1.1.1 };
    })
    (λ is. (is.once, (is.grounded, (is.closed, (is.arrivals.names_rise, (is.arrivals.best, is.arrivals.all))))))
    (Decides-and (are_once legs) (are_grounded given start legs 0 legs && (are_closed start legs given
    && (names_rise arrivals && (list_all (is_best at) arrivals && all_arrive start legs arrivals)))) (once-decides legs)
    (Decides-and (are_grounded given start legs 0 legs) (are_closed start legs given
    && (names_rise arrivals && (list_all (is_best at) arrivals && all_arrive start legs arrivals)))
    (grounded-decides given start legs)
    (Decides-and (are_closed start legs given)
    (names_rise arrivals && (list_all (is_best at) arrivals && all_arrive start legs arrivals))
    (closed-decides given start legs)
    (Decides-and (names_rise arrivals) (list_all (is_best at) arrivals && all_arrive start legs arrivals)
    (names-sorted arrivals, sorted-names arrivals)
    (Decides-and (list_all (is_best at) arrivals) (all_arrive start legs arrivals)
    (all-decides (is_best at) (IsBest at) (best-decides at) arrivals) (all-arrive-decides start legs arrivals))))))

-- one stop more that isn't better
pub none-better-more : (legs : List Leg) (k number : ℕ) (leg : Leg) (at : Key) (a : Arrival) → k < length legs
    → leg ≡ get_or legs k leg → at ≡ target leg.hop → number ≡ k + 1
    → is_better number at a ≡ false
    → none_better (suc (k + 1)) (map (λ (leg : Leg). target leg.hop) (drop (k + 1) legs)) a ≡ none_better (suc k)
    (map (λ (leg : Leg). target leg.hop) (drop k legs)) a
none-better-more legs k number leg at a within is lands count worse =
    let next : suc k ≡ k + 1 = omega arith in
    let split : drop k legs ≡ leg ∷ drop (suc k) legs = drop-cons legs k leg within
    ∙ ap (λ (l : Leg). l ∷ drop (suc k) legs) (sym is) in
    let test : is_better (suc k) (target leg.hop) a ≡ false =
    ap (λ (n : ℕ). is_better n (target leg.hop) a) (next ∙ sym count) ∙ ap (λ (s : Key). is_better number s a)
    (sym lands) ∙ worse in
    sym (ap (λ (ls : List Leg). none_better (suc k) (map (λ (leg : Leg). target leg.hop) ls) a) split
    ∙ ap (λ (b : Bool). not b && none_better (suc (suc k)) (map (λ (leg : Leg). target leg.hop) (drop (suc k) legs)) a)
    test
    ∙ ap (λ (n : ℕ). none_better (suc n) (map (λ (leg : Leg). target leg.hop) (drop n legs)) a) next)
