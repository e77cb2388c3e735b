-- The marks of hops: how they change by one stop, and which legs they tell.
use Rattle.std.proofs.Common.{◌≡◌, ℕ, suc, zero, ◌+◌, ◌<◌, ◌≤◌, List, [], ◌∷◌, ◌++◌, length, take, drop, get_or, Bool}
use Rattle.std.proofs.Common.{true, false, cond, Option, Some, None, refl, sym, ◌∙◌, ap, subst, arith, set}
use Rattle.std.specs.Prelude.{filter, is_none, map, nat_le, option_map}
use Rattle.std.specs.List.{cons_option, position_from}
use Rattle.std.proofs.lemmas.Bool.{le-leb, lt-leb}
use Rattle.std.proofs.lemmas.List.{length-take, take-append-drop, take_more}
use Rattle.std.proofs.lemmas.List.Elements.{filter_map-append}
use Rattle.tw_base.specs.declared.history.report.Hop.{Hop}
use Rattle.tw_base.specs.declared.history.thread.Key.{Key}
use Rattle.tw_atlas.specs.declared.atlas.Leg.{Leg}
use Rattle.tw_atlas.specs.Marking.{AreMarked, marked_leg}
use Rattle.tw_atlas.specs.Reaching.{goes_on_from}
use Rattle.tw_atlas.specs.Rounds.{after_of, left_over, round_of_hops}

-- the first place, or else the second
abbrev pub or_next : Option ℕ → Option ℕ → Option ℕ
or_next (Some k) next = Some k
or_next None next = next

module _ {K : Type 0} (t : K → Bool) where
  pub position-append : (xs ys : List K) (i : ℕ) → position_from t i (xs ++ ys) ≡ or_next (position_from t i xs)
      (position_from t (i + length xs) ys)
  position-append [] ys i = ap (λ n. position_from t n ys) (let same : i ≡ i + 0 = omega arith in same)
  position-append (x ∷ xs) ys i = by (t x) (position-append xs ys (i + 1))
    where
      by : (b : Bool) → position_from t (i + 1) (xs ++ ys) ≡ or_next (position_from t (i + 1) xs)
          (position_from t (i + 1 + length xs) ys)
          → cond b (Some i) (position_from t (i + 1) (xs ++ ys)) ≡ or_next
          (cond b (Some i) (position_from t (i + 1) xs)) (position_from t (i + length (x ∷ xs)) ys)
      by true more = refl
      by false more = more ∙ ap (λ n. or_next (position_from t (i + 1) xs) (position_from t n ys))
          (let same : i + 1 + length xs ≡ i + length (x ∷ xs) = omega arith in same)

  pub position-within : (xs : List K) (i k : ℕ) → position_from t i xs ≡ Some k → (i ≤ k) × (k < i + length xs)
  position-within [] i k e = cc
  position-within (x ∷ xs) i k e = by (t x) (position-within xs (i + 1) k) e
    where
      by : (b : Bool) → (position_from t (i + 1) xs ≡ Some k → (i + 1 ≤ k) × (k < i + 1 + length xs))
          → cond b (Some i) (position_from t (i + 1) xs) ≡ Some k → (i ≤ k) × (k < i + length (x ∷ xs))
      by true more e = let same : i ≡ k = cc in (omega (arith, same), omega (arith, same))
      by false more e = let rest = more e in let low = rest.0 in let high = rest.1 in
          (omega (arith, low), omega (arith, high))

-- ---- one stop more

pub mark-more : (stops : List Key) (number : ℕ) (stop : Key) (hop : Hop) → number < length stops
    → get_or stops number stop ≡ stop
    → after_of (take (number + 1) stops) hop ≡ or_next (after_of (take number stops) hop)
    (cond (goes_on_from stop hop) (Some number) None)
mark-more stops number stop hop within is =
    let front : take (number + 1) stops ≡ take number stops ++ stop ∷ [] = take_more stops number stop within
    ∙ ap (λ (s : Key). take number stops ++ s ∷ []) is in
    let count : 0 + length (take number stops) ≡ number = omega (arith, length-take number stops) in
    ap (λ keys. after_of keys hop) front ∙ position-append (λ (at : Key). goes_on_from at hop) (take number stops)
    (stop ∷ []) 0
    ∙ ap (λ n. or_next (after_of (take number stops) hop) (cond (goes_on_from stop hop) (Some n) None)) count

-- ---- a list of marks that changes from its front on

module _ {H M : Type 0} (f g : H → M) where
  abbrev pub mixed : List H → ℕ → List M
  mixed hs i = map f (take i hs) ++ map g (drop i hs)

  pub mixed-get : (hs : List H) (i : ℕ) (h : H) (m : M) → i < length hs → get_or hs i h ≡ h → get_or (mixed hs i) i m
      ≡ g h
  mixed-get [] i h m within is = absurd (omega arith)
  mixed-get (x ∷ hs) zero h m within is = ap g is
  mixed-get (x ∷ hs) (suc i) h m within is = mixed-get hs i h m (omega (arith, within)) is

  pub mixed-set : (hs : List H) (i : ℕ) (h : H) → i < length hs → get_or hs i h ≡ h → set (mixed hs i) i (f h) ≡ mixed
      hs (suc i)
  mixed-set [] i h within is = absurd (omega arith)
  mixed-set (x ∷ hs) zero h within is = ap (λ y. f y ∷ map g hs) (sym is)
  mixed-set (x ∷ hs) (suc i) h within is = ap (λ ms. f x ∷ ms) (mixed-set hs i h (omega (arith, within)) is)

-- ---- the legs of a round

filter-append : {X : Type 0} (p : X → Bool) (xs ys : List X) → filter p (xs ++ ys) ≡ filter p xs ++ filter p ys
filter-append p [] ys = refl
filter-append p (x ∷ xs) ys = by (p x) (filter-append p xs ys)
  where
    by : (b : Bool) → filter p (xs ++ ys) ≡ filter p xs ++ filter p ys → cond b (x ∷ filter p (xs ++ ys))
        (filter p (xs ++ ys)) ≡ cond b (x ∷ filter p xs) (filter p xs) ++ filter p ys
    by true more = ap (λ zs. x ∷ zs) more
    by false more = more

-- by what the mark is, the legs that come of a hop that was left, and of one that was listed before
abbrev AreLegs : (first : ℕ) → Hop → Option ℕ → Type 0
AreLegs first hop mark = cons_option (option_map (λ after. record { after = after; hop = hop }) mark) [] ≡ marked_leg
    first mark hop

abbrev HasNone : (first : ℕ) → Hop → Option ℕ → Type 0
HasNone first hop mark = [] ≡ marked_leg first mark hop

-- the legs of one hop are told by its mark
pub one-leg : (stops : List Key) (first : ℕ) (hop : Hop) → first ≤ length stops
    → round_of_hops stops (left_over (take first stops) (hop ∷ [])) ≡ marked_leg first (after_of stops hop) hop
one-leg stops first hop within =
    by (after_of (take first stops) hop) refl (position_from (λ (at : Key). goes_on_from at hop)
    (0 + length (take first stops)) (drop first stops)) refl
    (sym (ap (λ keys. after_of keys hop) (take-append-drop first stops)) ∙ position-append
    (λ (at : Key). goes_on_from at hop) (take first stops) (drop first stops) 0)
  where
    count : 0 + length (take first stops) ≡ first
    count = omega (arith, length-take first stops, within)

    by : (front : Option ℕ) → after_of (take first stops) hop ≡ front
        → (back : Option ℕ) → position_from (λ (at : Key). goes_on_from at hop) (0 + length (take first stops))
        (drop first stops) ≡ back
        → after_of stops hop ≡ or_next front back
        → round_of_hops stops (cond (is_none front) (hop ∷ []) []) ≡ marked_leg first (after_of stops hop) hop
    by None is None later e = subst (AreLegs first hop) (sym e) refl
    by None is (Some k) later e =
        let late = (position-within (λ (at : Key). goes_on_from at hop) (drop first stops)
        (0 + length (take first stops)) k later).0 in
        let test : nat_le first k ≡ true = le-leb first k (omega (arith, late, count)) in
        subst (AreLegs first hop) (sym e) (ap (λ b. cond b (record { after = k; hop = hop } ∷ []) []) (sym test))
    by (Some k) is back later e =
        let early = (position-within (λ (at : Key). goes_on_from at hop) (take first stops) 0 k is).1 in
        let test : nat_le first k ≡ false = lt-leb first k (omega (arith, early, count)) in
        subst (HasNone first hop) (sym e) (ap (λ b. cond b (record { after = k; hop = hop } ∷ []) []) (sym test))

pub round-more : (stops : List Key) (first i : ℕ) (hops : List Hop) (hop : Hop) → first ≤ length stops → i < length hops
    → get_or hops i hop ≡ hop
    → round_of_hops stops (left_over (take first stops) (take (i + 1) hops))
    ≡ round_of_hops stops (left_over (take first stops) (take i hops)) ++ marked_leg first (after_of stops hop) hop
round-more stops first i hops hop within below is =
    let front : take (i + 1) hops ≡ take i hops ++ hop ∷ [] = take_more hops i hop below
    ∙ ap (λ (h : Hop). take i hops ++ h ∷ []) is in
    ap (λ hs. round_of_hops stops (left_over (take first stops) hs)) front
    ∙ ap (round_of_hops stops) (filter-append (λ hop. is_none (after_of (take first stops) hop)) (take i hops)
    (hop ∷ []))
    ∙ filter_map-append (λ hop. option_map (λ after. leg_of hop after) (after_of stops hop))
    (left_over (take first stops) (take i hops)) (left_over (take first stops) (hop ∷ []))
    ∙ ap (λ legs. round_of_hops stops (left_over (take first stops) (take i hops)) ++ legs)
    (one-leg stops first hop within)
  where
    leg_of : Hop → ℕ → Leg
    leg_of hop after = record { after = after; hop = hop }

-- the legs up to a hop, and that of its mark
pub list-more : (stops : List Key) (first i : ℕ) (hops : List Hop) (hop : Hop) (marks : List (Option ℕ))
    → first ≤ length stops → i < length hops → hop ≡ get_or hops i hop
    → AreMarked stops hops marks
    → round_of_hops stops (left_over (take first stops) (take i hops)) ++ marked_leg first (get_or marks i None) hop
    ≡ round_of_hops stops (left_over (take first stops) (take (i + 1) hops))
list-more stops first i hops hop marks within below is marked =
    ap (λ (m : Option ℕ). round_of_hops stops (left_over (take first stops) (take i hops)) ++ marked_leg first m hop)
    (ap (λ (ms : List (Option ℕ)). get_or ms i None) marked ∙ get-mapped-or hops i below ∙ ap (after_of stops) (sym is))
    ∙ sym (round-more stops first i hops hop within below (sym is))
  where
    get-mapped-or : (hs : List Hop) (i : ℕ) → i < length hs → get_or (map (after_of stops) hs) i None ≡ after_of stops
        (get_or hs i hop)
    get-mapped-or [] i below = absurd (omega arith)
    get-mapped-or (h ∷ hs) zero below = refl
    get-mapped-or (h ∷ hs) (suc i) below = get-mapped-or hs i (omega (arith, below))
