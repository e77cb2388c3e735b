-- What the test of a hop says, and membership by place.
use Rattle.std.proofs.Common.{◌≡◌, ℕ, suc, zero, ◌≤◌, List, [], ◌∷◌, Bool, true, false, Some, refl, sym, ◌∙◌, ap, inl}
use Rattle.std.proofs.Common.{inr}
use Rattle.std.specs.Prelude.{map, nat_le, slice_get, ◌&&◌}
use Rattle.std.specs.Str.{bytes_eq}
use Rattle.std.proofs.lemmas.Bool.{leb-true, le-leb}
use Rattle.std.proofs.lemmas.Slice.Eq.{bytes_eq-Decides}
use Rattle.tw_base.specs.declared.history.report.Hop.{Hop}
use Rattle.tw_base.specs.declared.history.thread.Key.{Key}
use Rattle.tw_base.specs.kinds.Lists.{In}
use Rattle.tw_atlas.specs.Reaching.{goes_on_from}

-- both tests
pub both-true : (a b : Bool) → (a && b) ≡ true → (a ≡ true) × (b ≡ true)
both-true true true e = (refl, refl)
both-true true false e = cc
both-true false b e = cc

pub goes-on : (at : Key) (hop : Hop) → goes_on_from at hop ≡ true → (hop.from ≡ at.from) × (at.step ≤ hop.step)
goes-on at hop e =
    let both = both-true (bytes_eq hop.from at.from) (nat_le at.step hop.step) e in
    ((bytes_eq-Decides hop.from at.from).0 both.0, leb-true at.step hop.step both.1)

pub goes-on-from : (at : Key) (hop : Hop) → hop.from ≡ at.from → at.step ≤ hop.step → goes_on_from at hop ≡ true
goes-on-from at hop same later =
    let first : bytes_eq hop.from at.from ≡ true = (bytes_eq-Decides hop.from at.from).1 same in
    let second : nat_le at.step hop.step ≡ true = le-leb at.step hop.step later in
    ap (λ b. b && nat_le at.step hop.step) first ∙ second

module _ {X : Type 0} where
  pub get-in : (xs : List X) (k : ℕ) (x : X) → slice_get xs k ≡ Some x → In x xs
  get-in [] k x e = cc
  get-in (y ∷ ys) zero x e = inl (let same : Some y ≡ Some x = e in cc)
  get-in (y ∷ ys) (suc k) x e = inr (get-in ys k x e)

  pub in-get : (xs : List X) (x : X) → In x xs → (k : ℕ) × (slice_get xs k ≡ Some x)
  in-get [] x p = absurd p
  in-get (y ∷ ys) x (inl e) = (0, ap Some (sym e))
  in-get (y ∷ ys) x (inr p) = let there = in-get ys x p in (suc there.0, there.1)

module _ {X Y : Type 0} (f : X → Y) where
  pub in-map : (xs : List X) (x : X) → In x xs → In (f x) (map f xs)
  in-map [] x p = absurd p
  in-map (y ∷ ys) x (inl e) = inl (ap f e)
  in-map (y ∷ ys) x (inr p) = inr (in-map ys x p)

  pub in-mapped : (xs : List X) (y : Y) → In y (map f xs) → (x : X) × In x xs × (y ≡ f x)
  in-mapped [] y p = absurd p
  in-mapped (x ∷ xs) y (inl e) = (x, inl refl, e)
  in-mapped (x ∷ xs) y (inr p) = let there = in-mapped xs y p in (there.0, inr there.1, there.2)

  pub get-mapped : (xs : List X) (k : ℕ) (y : Y) → slice_get (map f xs) k ≡ Some y → (x : X) × (slice_get xs k ≡ Some x)
      × (f x ≡ y)
  get-mapped [] k y e = cc
  get-mapped (x ∷ xs) zero y e = (x, refl, (let same : Some (f x) ≡ Some y = e in cc))
  get-mapped (x ∷ xs) (suc k) y e = get-mapped xs k y e
