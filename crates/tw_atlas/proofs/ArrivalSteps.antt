-- The arrivals that are kept while stops are gone over, and the list of them.
use Rattle.std.proofs.Common.{◌≡◌, ◌≢◌, ◌⊎◌, ℕ, ◌<◌, ◌≤◌, List, [], ◌∷◌, ◌++◌, length, Bool, true, false, cond, Option}
use Rattle.std.proofs.Common.{Some, None, refl, sym, ◌∙◌, ap, subst, inl, inr, arith}
use Rattle.std.specs.Prelude.{map, slice_get, IfOk, MatchOption, OnOk, Result, Ok, Err}
use Rattle.std.proofs.lemmas.Bool.{false_from_ne_true, ltb-false, ltb-true}
use Rattle.tw_base.specs.declared.kinds.failure.NoMemory.{NoMemory}
use Rattle.std.specs.BTreeMap.{BTreeMap, IsOrdered, values}
use Rattle.std.specs.List.Sorted.{IsStrictlySortedBy}
use Rattle.std.specs.Map.{lookup}
use Rattle.std.specs.Ordering.{is_eq, nat_cmp}
use Rattle.std.specs.Cmp.Lexicographic.{slice_cmp}
use Rattle.std.specs.Str.{bytes_eq}
use Rattle.std.proofs.lemmas.Cmp.{nat_list_cmp_total}
use Rattle.std.proofs.lemmas.Map.Entries.{btree_map_get_place}
use Rattle.std.proofs.lemmas.Map.Text.{is_eq-slice_cmp}
use Rattle.std.proofs.lemmas.Slice.Eq.{bytes_eq-Decides}
use Rattle.tw_base.specs.declared.history.thread.Key.{Key}
use Rattle.tw_base.specs.kinds.Lists.{Each, In}
use Rattle.tw_atlas.specs.declared.atlas.Arrival.{Arrival}
use Rattle.tw_atlas.specs.Atlases.{AreArrivals, IsBest}
use Rattle.tw_atlas.specs.BestSoFar.{AreBest, is_arrival_lower, kept_for}
use Rattle.tw_atlas.proofs.Hops.{in-get}
use Rattle.tw_atlas.proofs.RoundLaws.{each-all, get-append, get-cases, get-within}

get-last : (before : List Key) (stop : Key) → slice_get (before ++ stop ∷ []) (length before) ≡ Some stop
get-last [] stop = refl
get-last (x ∷ before) stop = get-last before stop

one-of : {X : Type 0} (x y : X) → In x (y ∷ []) → x ≡ y
one-of x y (inl same) = same
one-of x y (inr none) = absurd none

same-name : (one other : List ℕ) → (one ≡ other) ⊎ (one ≢ other)
same-name one other = by (bytes_eq one other) refl
  where
    by : (b : Bool) → bytes_eq one other ≡ b → (one ≡ other) ⊎ (one ≢ other)
    by true is = inl ((bytes_eq-Decides one other).0 is)
    by false is = inr (λ same. let yes = (bytes_eq-Decides one other).1 same in let never : false ≡ true =
        sym is ∙ yes in cc)

-- of one service
abbrev BestFor : (at : List Key) → (service : List ℕ) → Option Arrival → Type 0
BestFor at service o = MatchOption o ((number : ℕ) (stop : Key) → slice_get at number ≡ Some stop → stop.from ≢ service)
    (λ (arrival : Arrival). (arrival.service ≡ service) × IsBest at arrival)

module _ (before : List Key) (stop : Key) where
  still-best : (a : Arrival) → IsBest before a → (stop.from ≡ a.service → a.step ≤ stop.step)
      → IsBest (before ++ stop ∷ []) a
  still-best a best low = record {
    stands = get-append before (stop ∷ []) a.leg (record { from = a.service; step = a.step }) best.stands;
    least = λ n s is same. elim (get-cases before (stop ∷ []) n s is) [
      | inl early ↦ best.least n s early same
      | inr late ↦ (let one = one-of s stop late.1 in subst (λ (x : Key). a.step ≤ x.step) (sym one)
          (low (ap (λ (x : Key). x.from) (sym one) ∙ same)))
    ];
    first = λ n s is same step. elim (get-cases before (stop ∷ []) n s is) [
      | inl early ↦ best.first n s early same step
      | inr late ↦ (let within = get-within before a.leg (record { from = a.service; step = a.step }) best.stands in
          let far = late.0 in omega (arith, within, far))
    ];
  }

  one-service : (service : List ℕ) (o : Option Arrival) → BestFor before service o
      → (stop.from ≡ service → (a : Arrival) × (o ≡ Some a) × (a.step ≤ stop.step))
      → BestFor (before ++ stop ∷ []) service o
  one-service service None none has = λ n s is same. elim (get-cases before (stop ∷ []) n s is) [
    | inl early ↦ none n s early same
    | inr late ↦ (let one = one-of s stop late.1 in let some = has (ap (λ (x : Key). x.from) (sym one) ∙ same) in
        let never : None ≡ Some some.0 = some.1 in cc)
  ]
  one-service service (Some a) best has = (best.0, still-best a best.1 (λ same. low (has (same ∙ best.0))))
    where
      low : (b : Arrival) × (Some a ≡ Some b) × (b.step ≤ stop.step) → a.step ≤ stop.step
      low found = let same : a ≡ found.0 = (let e : Some a ≡ Some found.0 = found.1 in cc) in
          subst (λ (x : Arrival). x.step ≤ stop.step) (sym same) found.2

  -- the kept arrival of its service is at a step at most its own
  pub best-stays : (kept : List ℕ → Option Arrival) (a : Arrival) → AreBest before kept → kept stop.from ≡ Some a
      → a.step ≤ stop.step → AreBest (before ++ stop ∷ []) kept
  best-stays kept a best is low service = one-service service (kept service) (best service)
      (λ same. (a, subst (λ (n : List ℕ). kept n ≡ Some a) same is, low))

  -- none is kept, or one at a higher step
  abbrev pub IsBetter : Option Arrival → Type 0
  IsBetter o = (a : Arrival) → o ≡ Some a → stop.step < a.step

  new-best : (o : Option Arrival) → BestFor before stop.from o → IsBetter o → IsBest (before ++ stop ∷ [])
      (record { service = stop.from; step = stop.step; leg = length before })
  new-best None none better = record {
    stands = get-last before stop;
    least = λ n s is same. elim (get-cases before (stop ∷ []) n s is) [
      | inl early ↦ absurd (none n s early same)
      | inr late ↦ (let one = one-of s stop late.1 in let step : s.step ≡ stop.step = ap (λ (x : Key). x.step) one in
          omega (arith, step))
    ];
    first = λ n s is same step. elim (get-cases before (stop ∷ []) n s is)
        [ inl early ↦ absurd (none n s early same) | inr late ↦ late.0 ];
  }
  new-best (Some a) best better = record {
    stands = get-last before stop;
    least = λ n s is same. elim (get-cases before (stop ∷ []) n s is) [
      | inl early ↦ (let low = best.1.least n s early (same ∙ sym best.0) in let high = better a refl in
          omega (arith, low, high))
      | inr late ↦ (let one = one-of s stop late.1 in let step : s.step ≡ stop.step = ap (λ (x : Key). x.step) one in
          omega (arith, step))
    ];
    first = λ n s is same step. elim (get-cases before (stop ∷ []) n s is) [
      | inl early ↦ absurd (let low = best.1.least n s early (same ∙ sym best.0) in let high = better a refl in
          omega (arith, low, high, step))
      | inr late ↦ late.0
    ];
  }

  pub best-changes : (kept new : List ℕ → Option Arrival) (offered : Arrival) → AreBest before kept
      → IsBetter (kept stop.from)
      → offered ≡ record { service = stop.from; step = stop.step; leg = length before }
      → new offered.service ≡ Some offered → ((service : List ℕ) → service ≢ offered.service
      → new service ≡ kept service) → AreBest (before ++ stop ∷ []) new
  best-changes kept new offered best better is here others service = elim (same-name service stop.from) [
    | inl same ↦ subst (BestFor (before ++ stop ∷ []) service) (sym (ap new (same ∙ sym name) ∙ here)) (
      name ∙ sym same,
      subst (IsBest (before ++ stop ∷ [])) (sym is) (new-best (kept stop.from) (best stop.from) better),
    )
    | inr differs ↦ subst (BestFor (before ++ stop ∷ []) service) (sym (others service (λ e. differs (e ∙ name))))
        (one-service service (kept service) (best service) (λ same. absurd (differs (sym same))))
  ]
    where
      name : offered.service ≡ stop.from
      name = ap (λ (a : Arrival). a.service) is

-- what `offer` does, by what is kept
pub offer-stays : (before : List Key) (stop : Key) (kept : List ℕ → Option Arrival) → is_arrival_lower stop.step
    (kept stop.from) ≡ false → AreBest before kept → AreBest (before ++ stop ∷ []) kept
offer-stays before stop kept over best = by (kept stop.from) refl over
  where
    by : (o : Option Arrival) → kept stop.from ≡ o → is_arrival_lower stop.step o ≡ false
        → AreBest (before ++ stop ∷ []) kept
    by None is test = cc
    by (Some a) is test = best-stays before stop kept a best is (ltb-false stop.step a.step test)

better-from : (before : List Key) (stop : Key) (o : Option Arrival) → is_arrival_lower stop.step o ≡ true
    → IsBetter before stop o
better-from before stop None test a is = cc
better-from before stop (Some b) test a is = let same : b ≡ a = (let e : Some b ≡ Some a = is in cc) in
    subst (λ (x : Arrival). stop.step < x.step) same (ltb-true stop.step b.step test)

pub offer-changes : (r : Result (Unit {0}) NoMemory) (stop : Key) (number : ℕ) (old new : List ℕ → Option Arrival)
    (offered : Arrival)
    → offered ≡ record { service = stop.from; step = stop.step; leg = number } → is_arrival_lower stop.step
    (old stop.from) ≡ true
    → OnOk r (new offered.service ≡ Some offered) → OnOk r ((service : List ℕ) → service ≢ offered.service
    → new service ≡ old service)
    → OnOk r ((before : List Key) → length before ≡ number → AreBest before old → AreBest (before ++ stop ∷ []) new)
offer-changes (Ok done) stop number old new offered is test here others = λ before count best.
    best-changes before stop old new offered best (better-from before stop (old stop.from) test)
    (is ∙ ap (λ (n : ℕ). record { service = stop.from; step = stop.step; leg = n }) (sym count)) here others
offer-changes (Err none) stop number old new offered is test here others = tt

-- two names that differ compare as such
pub apart : (one other : List ℕ) → other ≢ one → is_eq (slice_cmp nat_cmp one other) ≡ false
apart one other differ =
    is_eq-slice_cmp one other
    ∙ false_from_ne_true (bytes_eq one other) (λ same. differ (sym ((bytes_eq-Decides one other).0 same)))

-- ---- the list of them

looked-up : {K X : Type 0} (t : K → Bool) (es : List (K × X)) (x : X) → lookup t es ≡ Some x
    → In x (map (λ (e : K × X). e.1) es)
looked-up t [] x is = cc
looked-up {K} {X} t (e ∷ es) x is = by (t e.0) (looked-up t es x) is
  where
    by : (b : Bool) → (lookup t es ≡ Some x → In x (map (λ (e : K × X). e.1) es)) → cond b (Some e.1) (lookup t es)
        ≡ Some x → In x (map (λ (e : K × X). e.1) (e ∷ es))
    by true more is = inl (let same : Some e.1 ≡ Some x = is in cc)
    by false more is = inr (more is)

module _ (at : List Key) (m : BTreeMap (List ℕ) Arrival) (ordered : IsOrdered (slice_cmp nat_cmp) m)
    (best : AreBest at (kept_for m)) where
  entry-best : (e : List ℕ × Arrival) → In e m.entries → (e.1.service ≡ e.0) × IsBest at e.1
  entry-best e there =
      let place = in-get m.entries e there in
      subst (BestFor at e.0) (btree_map_get_place nat_list_cmp_total m place.0 e.0 e.1 ordered place.1) (best e.0)

  names : (es : List (List ℕ × Arrival)) → ((e : List ℕ × Arrival) → In e es → e.1.service ≡ e.0)
      → map (λ (a : Arrival). a.service) (map (λ (e : List ℕ × Arrival). e.1) es) ≡ map (λ (e : List ℕ × Arrival). e.0)
      es
  names [] all = refl
  names (e ∷ es) all =
      let rest = names es (λ f there. all f (inr there)) in
      let first = all e (inl refl) in
      λ i. first i ∷ rest i

  each-best : (es : List (List ℕ × Arrival)) → ((e : List ℕ × Arrival) → In e es → IsBest at e.1)
      → Each (IsBest at) (map (λ (e : List ℕ × Arrival). e.1) es)
  each-best [] all = tt
  each-best (e ∷ es) all = (all e (inl refl), each-best es (λ f there. all f (inr there)))

  stop-arrives : (stop : Key) → In stop at → (arrival : Arrival) × In arrival
      (map (λ (e : List ℕ × Arrival). e.1) m.entries) × (arrival.service ≡ stop.from)
  stop-arrives stop there = by (kept_for m stop.from) refl (best stop.from)
    where
      by : (o : Option Arrival) → kept_for m stop.from ≡ o → BestFor at stop.from o → (arrival : Arrival) × In arrival
          (map (λ (e : List ℕ × Arrival). e.1) m.entries) × (arrival.service ≡ stop.from)
      by None is none = let place = in-get at stop there in absurd (none place.0 stop place.1 refl)
      by (Some a) is some = (a, looked-up (λ k. is_eq (slice_cmp nat_cmp stop.from k)) m.entries a is, some.0)

  pub arrivals-from : AreArrivals at (values m)
  arrivals-from = record {
    names_rise = subst (IsStrictlySortedBy (slice_cmp nat_cmp))
        (sym (names m.entries (λ e there. (entry-best e there).0))) ordered;
    best = each-best m.entries (λ e there. (entry-best e there).1);
    all = each-all (λ (stop : Key). (arrival : Arrival) × In arrival (values m) × (arrival.service ≡ stop.from)) at
        stop-arrives;
  }

pub by-name-done : (r : Result (List Arrival) NoMemory) (at : List Key) (m : BTreeMap (List ℕ) Arrival)
    → IsOrdered (slice_cmp nat_cmp) m → AreBest at (kept_for m)
    → IfOk r (λ arrivals. arrivals ≡ values m) → IfOk r (AreArrivals at)
by-name-done (Ok arrivals) at m ordered best are = subst (AreArrivals at) (sym are) (arrivals-from at m ordered best)
by-name-done (Err none) at m ordered best are = tt
