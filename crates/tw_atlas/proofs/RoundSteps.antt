-- The loop over rounds.
use Rattle.std.proofs.Common.{◌≡◌, ℕ, suc, ◌+◌, ◌-◌, ◌<◌, ◌≤◌, List, [], ◌∷◌, ◌++◌, length, take, drop, Bool, true}
use Rattle.std.proofs.Common.{false, cond, Option, Some, None, refl, sym, ◌∙◌, ap, arith}
use Rattle.std.specs.Prelude.{filter, is_none, map}
use Rattle.std.specs.List.{position_from}
use Rattle.std.proofs.Math.Seq.{take-append_seam}
use Rattle.std.proofs.lemmas.List.{length-append, take-append-drop}
use Rattle.tw_base.specs.declared.history.report.Hop.{Hop}
use Rattle.tw_base.specs.declared.history.thread.Key.{Key}
use Rattle.tw_atlas.specs.declared.atlas.Leg.{Leg}
use Rattle.tw_atlas.specs.Atlases.{stops}
use Rattle.tw_atlas.specs.Reaching.{goes_on_from, target}
use Rattle.tw_atlas.specs.Rounds.{after_of, left_over, round_of_hops, rounds}
use Rattle.tw_atlas.proofs.MarkLaws.{or_next, position-append}
use Rattle.tw_atlas.proofs.RoundLaws.{NoneGoes, each-all, in-left, round-count, rounds-none}

-- what a weaker test has left out, the other one does too
filter-within : {X : Type 0} (p q : X → Bool) → ((x : X) → p x ≡ false → q x ≡ false) → (xs : List X)
    → filter q (filter p xs) ≡ filter q xs
filter-within p q narrow [] = refl
filter-within {X} p q narrow (x ∷ xs) = by (p x) refl (filter-within p q narrow xs)
  where
    by : (b : Bool) → p x ≡ b → filter q (filter p xs) ≡ filter q xs → filter q (cond b (x ∷ filter p xs) (filter p xs))
        ≡ filter q (x ∷ xs)
    by true is more = ap (λ (ys : List X). cond (q x) (x ∷ ys) ys) more
    by false is more = more ∙ ap (λ b. cond b (x ∷ filter q xs) (filter q xs)) (sym (narrow x is))

left-front : (at : List Key) (first : ℕ) (hops : List Hop) → left_over at (left_over (take first at) hops) ≡ left_over
    at hops
left-front at first hops = filter-within (λ hop. is_none (after_of (take first at) hop))
    (λ hop. is_none (after_of at hop)) narrow hops
  where
    narrow : (hop : Hop) → is_none (after_of (take first at) hop) ≡ false → is_none (after_of at hop) ≡ false
    narrow hop some =
        by (after_of (take first at) hop) some
        (sym (ap (λ keys. after_of keys hop) (take-append-drop first at)) ∙ position-append
        (λ (stop : Key). goes_on_from stop hop) (take first at) (drop first at) 0)
      where
        by : (o : Option ℕ) → is_none o ≡ false
            → after_of at hop ≡ or_next o (position_from (λ (stop : Key). goes_on_from stop hop)
            (0 + length (take first at)) (drop first at)) → is_none (after_of at hop) ≡ false
        by None some e = cc
        by (Some k) some e = ap is_none e

pub left-all : (hops : List Hop) → left_over [] hops ≡ hops
left-all [] = refl
left-all (hop ∷ hops) = ap (λ hs. hop ∷ hs) (left-all hops)

none-left : (at : List Key) (hops : List Hop) → NoneGoes at (left_over at hops)
none-left at hops = each-all (λ hop. after_of at hop ≡ None) (left_over at hops)
    (λ hop there. (in-left at hops hop there).1)

-- after i of n rounds these are listed; the last round's first stop has this number
pub record SoFar (n i : ℕ) (start : Key) (hops : List Hop) (legs : List Leg) (at : List Key) (first : ℕ) : Type 0 where
  pub legs_go_on : rounds (n - i) start legs (left_over (take first at) hops) ≡ rounds n start [] hops
  pub are_stops : at ≡ stops start legs
  pub within : first ≤ length at
  pub count : length legs + length (left_over (take first at) hops) ≡ length hops

pub so-far-none : (start : Key) (hops : List Hop) (legs : List Leg) (at : List Key) → legs ≡ [] → at ≡ start ∷ []
    → SoFar (length hops) 0 start hops legs at 0
so-far-none start hops legs at none one = record {
  legs_go_on = ap (λ (k : ℕ). rounds k start legs (left_over [] hops)) (let same : length hops - 0 ≡ length hops =
      omega arith in same)
      ∙ ap (λ hs. rounds (length hops) start legs hs) (left-all hops) ∙ ap (λ ls. rounds (length hops) start ls hops)
      none;
  are_stops = one ∙ ap (stops start) (sym none);
  within = omega arith;
  count = (let empty : length legs ≡ length {A = Leg} [] = ap (λ (ls : List Leg). length ls) none in let all : length
      (left_over [] hops) ≡ length hops = ap (λ (hs : List Hop). length hs) (left-all hops) in
      omega (arith, empty, all));
}

abbrev left-then : (at : List Key) → (first : ℕ) → List Hop → List Hop
left-then at first hops = left_over (take first at) hops

abbrev listed-next : (at : List Key) → (first : ℕ) → List Hop → List Leg
listed-next at first hops = round_of_hops at (left-then at first hops)

pub so-far-more : (n i : ℕ) (start : Key) (hops : List Hop) (legs : List Leg) (at : List Key) (first : ℕ) → i < n
    → SoFar n i start hops legs at first
    → (legs' : List Leg) (at' : List Key) → legs' ≡ legs ++ round_of_hops at (left_over (take first at) hops)
    → at' ≡ at ++ map (λ (leg : Leg). target leg.hop) (round_of_hops at (left_over (take first at) hops))
    → SoFar n (i + 1) start hops legs' at' (length at)
so-far-more n i start hops legs at first below s legs' at' legs-are at-are = record {
  legs_go_on =
      ap (λ (keys : List Key). rounds (n - (i + 1)) start legs' (left_over keys hops)) seam
      ∙ ap (λ ls. rounds (n - (i + 1)) start ls (left_over at hops)) legs-are
      ∙ ap (λ hs. rounds (n - (i + 1)) start (legs ++ listed-next at first hops) hs) (sym (left-front at first hops))
      ∙ ap (λ (keys : List Key). rounds (n - (i + 1)) start (legs ++ round_of_hops keys (left-then at first hops))
      (left_over keys (left-then at first hops))) s.are_stops
      ∙ ap (λ (k : ℕ). rounds k start legs (left-then at first hops)) (let next : suc (n - (i + 1)) ≡ n - i =
      omega (arith, below) in next)
      ∙ s.legs_go_on;
  are_stops = at-are ∙ ap (λ (keys : List Key). keys ++ map (λ (leg : Leg). target leg.hop) (listed-next at first hops))
      s.are_stops
      ∙ sym (ap (λ (keys : List Key). start ∷ keys) (map-append legs (listed-next at first hops))) ∙ ap (stops start)
      (sym legs-are);
  within = (let size : length at' ≡ length (at ++ map (λ (leg : Leg). target leg.hop) (listed-next at first hops)) =
      ap (λ (ks : List Key). length ks) at-are in
      omega (arith, size, length-append at (map (λ (leg : Leg). target leg.hop) (listed-next at first hops))));
  count = (let size : length legs' ≡ length (legs ++ listed-next at first hops) = ap (λ (ls : List Leg). length ls)
      legs-are in
      let rest : length (left_over (take (length at) at') hops) ≡ length (left_over at (left-then at first hops)) =
      ap (λ (keys : List Key). length (left_over keys hops)) seam ∙ ap (λ (hs : List Hop). length hs)
      (sym (left-front at first hops)) in
      let split = round-count at (left-then at first hops) in let before = s.count in
      omega (arith, size, length-append legs (listed-next at first hops), rest, split, before));
}
  where
    seam : take (length at) at' ≡ at
    seam = ap (take (length at)) at-are ∙ take-append_seam at
        (map (λ (leg : Leg). target leg.hop) (listed-next at first hops))

    map-append : (xs ys : List Leg) → map (λ (leg : Leg). target leg.hop) (xs ++ ys) ≡ map
        (λ (leg : Leg). target leg.hop) xs ++ map (λ (leg : Leg). target leg.hop) ys
    map-append [] ys = refl
    map-append (x ∷ xs) ys = ap (λ (keys : List Key). target x.hop ∷ keys) (map-append xs ys)

-- a round that lists nothing is the last
pub so-far-still : (n i : ℕ) (start : Key) (hops : List Hop) (legs : List Leg) (at : List Key) (first : ℕ)
    → first ≡ length at → SoFar n i start hops legs at first
    → legs ≡ rounds n start [] hops
so-far-still n i start hops legs at first all s =
    let whole : take first at ≡ at = ap (λ (k : ℕ). take k at) all ∙ take-all at in
    let left : left_over (take first at) hops ≡ left_over (stops start legs) hops =
    ap (λ (keys : List Key). left_over keys hops) (whole ∙ s.are_stops) in
    sym (rounds-none (n - i) start legs (left_over (stops start legs) hops) (none-left (stops start legs) hops))
    ∙ ap (λ hs. rounds (n - i) start legs hs) (sym left) ∙ s.legs_go_on
  where
    take-all : (keys : List Key) → take (length keys) keys ≡ keys
    take-all [] = refl
    take-all (k ∷ keys) = ap (λ (ks : List Key). k ∷ ks) (take-all keys)

pub so-far-all : (n i : ℕ) (start : Key) (hops : List Hop) (legs : List Leg) (at : List Key) (first : ℕ) → i ≡ n
    → SoFar n i start hops legs at first
    → legs ≡ rounds n start [] hops
so-far-all n i start hops legs at first end s =
    ap (λ (k : ℕ). rounds k start legs (left_over (take first at) hops)) (let none : 0 ≡ n - i = omega (arith, end) in
    none) ∙ s.legs_go_on

-- the stops are at most one more than the hops
pub so-far-few : (n i : ℕ) (start : Key) (hops : List Hop) (legs : List Leg) (at : List Key) (first : ℕ)
    → SoFar n i start hops legs at first → length at ≤ length hops + 1
so-far-few n i start hops legs at first s =
    let size : length at ≡ length (stops start legs) = ap (λ (ks : List Key). length ks) s.are_stops in
    let count = s.count in let targets = length-targets legs in omega (arith, size, count, targets)
  where
    length-targets : (legs : List Leg) → length (map (λ (leg : Leg). target leg.hop) legs) ≡ length legs
    length-targets [] = refl
    length-targets (leg ∷ legs) = let rest = length-targets legs in omega (arith, rest)
