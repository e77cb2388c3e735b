-- The steps of the greedy path.
use Rattle.std.proofs.Common.{◌≡◌, ℕ, suc, zero, ◌<◌, ◌≤◌, ◌^◌, [], ◌∷◌, refl, sym, ap, ◌∙◌, arith, lit<, inl, inr}
use Rattle.std.specs.Prelude.{if◌then◌else◌}
use Rattle.std.proofs.lemmas.Bool.{cases_lt, le-leb, lt-leb}
use Rattle.std.proofs.Math.Nat.{one-le-pow}
use Rattle.tw_skipproof.specs.Paths.{greedy_steps, hop, hop_level, steps_within}

pub steps_within-none : (links from to : ℕ) → from ≤ to → steps_within links from to ≡ []
unfolding steps_within
steps_within-none zero from to l = refl
steps_within-none (suc links) from to l = ap (λ b. if b then [] else from ∷ steps_within links (hop from to) to)
    (le-leb from to l)

pub steps_within-more : (links from to : ℕ) → to < from → steps_within (suc links) from to ≡ from ∷ steps_within links
    (hop from to) to
unfolding steps_within
steps_within-more links from to l = ap (λ b. if b then [] else from ∷ steps_within links (hop from to) to)
    (lt-leb from to l)

pub hop-less : (from to : ℕ) → to < from → hop from to < from
hop-less from to l = let some : 1 ≤ 2 ^ hop_level from to = one-le-pow (hop_level from to) 2 (lit< tt) in omega arith

-- any number of links that is high enough gives the same steps
steps_within-same : (one other from to : ℕ) → from ≤ one → from ≤ other → steps_within one from to ≡ steps_within other
    from to
steps_within-same zero other from to l m =
    steps_within-none zero from to (omega arith) ∙ sym (steps_within-none other from to (omega arith))
steps_within-same (suc one) zero from to l m =
    steps_within-none (suc one) from to (omega arith) ∙ sym (steps_within-none zero from to (omega arith))
steps_within-same (suc one) (suc other) from to l m =
    elim (cases_lt to from) [
      | inl more ↦ (
          let less = hop-less from to more in
          steps_within-more one from to more
          ∙ ap (λ steps. from ∷ steps) (steps_within-same one other (hop from to) to (omega (arith, less))
          (omega (arith, less)))
          ∙ sym (steps_within-more other from to more))
      | inr none ↦ steps_within-none (suc one) from to none ∙ sym (steps_within-none (suc other) from to none)
    ]

pub greedy_steps-none : (from to : ℕ) → from ≤ to → greedy_steps from to ≡ []
unfolding greedy_steps
greedy_steps-none from to l = steps_within-none from from to l

pub greedy_steps-more : (from to : ℕ) → to < from → greedy_steps from to ≡ from ∷ greedy_steps (hop from to) to
unfolding greedy_steps
greedy_steps-more zero to l = absurd (omega arith)
greedy_steps-more (suc below) to l =
    let less = hop-less (suc below) to l in
    steps_within-more below (suc below) to l
    ∙ ap (λ steps. suc below ∷ steps) (steps_within-same below (hop (suc below) to) (hop (suc below) to) to
    (omega (arith, less)) (omega arith))
