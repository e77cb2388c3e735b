-- The anchor that is found is of the service and step asked for.
use Rattle.std.proofs.Common.{◌≡◌, ℕ, List, [], ◌∷◌, Bool, true, false, refl, subst}
use Rattle.std.specs.Prelude.{Some, ◌==◌, if◌then◌else◌}
use Rattle.std.specs.Str.{bytes_eq}
use Rattle.std.proofs.lemmas.Bool.{and_parts, eqb-true}
use Rattle.std.proofs.lemmas.Slice.Eq.{bytes_eq-Decides}
use Rattle.tw_base.specs.declared.history.thread.Thread.{Thread}
use Rattle.tw_base.specs.history.Anchors.{anchor_of, is_at}

is_at-parts : (service : List ℕ) (step : ℕ) (t : Thread) → is_at service step t ≡ true → (t.from ≡ service)
    × (t.step ≡ step)
is_at-parts service step t same =
    let both = and_parts (bytes_eq t.from service) (t.step == step) same in
    ((bytes_eq-Decides t.from service).0 both.0, eqb-true t.step step both.1)

same_some : (t u : Thread) → Some t ≡ Some u → t ≡ u
same_some t u e = cc

pub anchor_of-is : (anchors : List Thread) (service : List ℕ) (step : ℕ) (t : Thread) → anchor_of anchors service step
    ≡ Some t → (t.from ≡ service) × (t.step ≡ step)
anchor_of-is [] service step t found = cc
anchor_of-is (u ∷ anchors) service step t found =
    let cases : (b : Bool) → is_at service step u ≡ b → (if b then Some u else anchor_of anchors service step) ≡ Some t
    → (t.from ≡ service) × (t.step ≡ step) =
    elim [
      | true ↦ λ at is. subst (λ (w : Thread). (w.from ≡ service) × (w.step ≡ step)) (same_some u t is)
          (is_at-parts service step u at)
      | false ↦ λ no is. anchor_of-is anchors service step t is
    ]
    in cases (is_at service step u) refl found
