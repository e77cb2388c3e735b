-- The greedy rule, and how many links a greedy path has.
use Rattle.std.proofs.Common.{◌≡◌, ◌⊎◌, ℕ, suc, zero, ◌+◌, ◌-◌, ◌*◌, ◌<◌, ◌≤◌, ◌^◌, ◌%◌, List, [], ◌∷◌, length, Bool}
use Rattle.std.proofs.Common.{true, false, refl, arith, lit<, inl, inr}
use Rattle.std.specs.Prelude.{nat_le, if◌then◌else◌}
use Rattle.std.proofs.lemmas.Bool.{cases_lt, cases_eq, le-leb}
use Rattle.std.proofs.Math.Nat.{le_trans, mod-one, pow-le-pow_right, pow-suc}
use Rattle.tw_base.specs.kinds.Levels.{top_level}
use Rattle.tw_base.proofs.lemmas.kinds.Levels.{divides-less, divides-minus, divides-next, top_level-divides}
use Rattle.tw_base.proofs.lemmas.kinds.Levels.{top_level-greatest}
use Rattle.tw_skipproof.specs.declared.path.Link.{Link}
use Rattle.tw_skipproof.specs.Paths.{HasShape, IsGreedy, hop, hop_level, level_up_to}
use Rattle.tw_skipproof.proofs.Hops.{hop_level-le, hop_level-short}

-- a level that is fine is at most the greatest fine one
level-greatest : (level from to m : ℕ) → m ≤ level → 2 ^ m ≤ from - to → m ≤ level_up_to level from to
unfolding level_up_to
level-greatest zero from to m l fine = l
level-greatest (suc level) from to m l fine =
    let rest = λ (less : m ≤ level). level-greatest level from to m less fine in
    let cases : (b : Bool) → nat_le (2 ^ suc level) (from - to) ≡ b
    → m ≤ (if b then suc level else level_up_to level from to) =
    elim [
      | true ↦ λ e. l
      | false ↦ λ e. elim (cases_lt level m) [
        | inl more ↦ (
            let same : suc level ≡ m = omega arith in
            let yes : nat_le (2 ^ suc level) (from - to) ≡ true = le-leb (2 ^ suc level) (from - to)
            (le_trans (pow-le-pow_right (lit< tt) (let r : suc level ≤ m = omega arith in r)) fine) in
            cc)
        | inr less ↦ rest less
      ]
    ]
    in cases (nat_le (2 ^ suc level) (from - to)) refl

pub hop_level-greatest : (from to m : ℕ) → m ≤ top_level from → 2 ^ m ≤ from - to → m ≤ hop_level from to
unfolding hop_level
hop_level-greatest from to m l fine = level-greatest (top_level from) from to m l fine

module _ (from to : ℕ) (order : to < from) (small : from < 2 ^ 64) where
  some : 0 < from
  some = omega arith

  hop_level-divides : from % 2 ^ hop_level from to ≡ 0
  hop_level-divides = divides-less from (top_level from) (hop_level from to) (hop_level-le from to)
      (top_level-divides from some small)

  -- the level of the next link is the greedy rule's
  pub hop_level-greedy : IsGreedy from to (hop_level from to)
  hop_level-greedy = record {
    hop = (hop_level-divides, hop_level-short from to order);
    greatest = λ other fine. hop_level-greatest from to other (top_level-greatest from other some small fine.0) fine.1;
  }

  pub hop-divides : hop from to % 2 ^ hop_level from to ≡ 0
  hop-divides = divides-minus from (hop_level from to) (let short = hop_level-short from to order in omega arith)
      hop_level-divides

pub below_power : (m n a : ℕ) → 2 ^ m ≤ a → a < 2 ^ n → m < n
below_power m n a l h =
    elim (cases_lt m n) [
      | inl less ↦ less
      | inr more ↦ absurd (let over : 2 ^ n ≤ 2 ^ m = pow-le-pow_right (lit< tt) more in omega arith)
    ]

-- where a hop is below the step's top level, none of the next level fits
pub hop-fits : (from to : ℕ) → hop_level from to < top_level from → from - to < 2 ^ suc (hop_level from to)
hop-fits from to under =
    elim (cases_lt (from - to) (2 ^ suc (hop_level from to))) [
      | inl less ↦ less
      | inr more ↦ (let least = hop_level-greatest from to (suc (hop_level from to)) (omega (arith, under)) more in
          absurd (omega (arith, least)))
    ]

-- so what is left behind it is shorter than the hop
pub hop-leaves : (from to : ℕ) → to < from → hop_level from to < top_level from → hop from to - to < 2 ^ hop_level from to
hop-leaves from to order under =
    let fits = hop_level-short from to order in
    omega (arith, fits, hop-fits from to under, pow-suc 2 (hop_level from to))

-- a hop of a way that is shorter than a power that divides the step is below that power, and below the step's top level
pub near_hop : (from to k : ℕ) → from < 2 ^ 64 → to < from → from % 2 ^ k ≡ 0 → from - to < 2 ^ k
    → (hop_level from to < k) × (hop_level from to < top_level from)
near_hop from to k small order divides near =
    let lower = below_power (hop_level from to) k (from - to) (hop_level-short from to order) near in
    let top = top_level-greatest from k (omega (arith, order)) small divides in
    (lower, omega (arith, lower, top))

-- once the way left is shorter than a power that divides the step, the levels fall
short_way : (links : List Link) (from to k : ℕ) → from < 2 ^ 64 → HasShape links from to → from % 2 ^ k ≡ 0
    → from - to < 2 ^ k → length links ≤ k
short_way [] from to k small shape divides near = omega arith
short_way (link ∷ links) from to k small shape divides near =
    let level : ℕ = hop_level from to in
    let first = near_hop from to k small shape.0 divides near in
    let rest : length links ≤ level =
    short_way links (hop from to) to level (omega (arith, small)) shape.2 (hop-divides from to shape.0 small)
    (hop-leaves from to shape.0 first.1) in
    omega (arith, rest, first.0)

-- the first hop of a long way is of the step's top level, and a higher power divides where it leads; or of a lower one
pub far_hop : (from to k digits : ℕ) → from < 2 ^ 64 → to < from → from % 2 ^ k ≡ 0 → from < 2 ^ digits
    → 2 ^ k ≤ from - to
    → (k ≤ hop_level from to) × (hop_level from to < digits)
    × (((hop_level from to ≡ top_level from) × (hop from to % 2 ^ suc (hop_level from to) ≡ 0))
    ⊎ (hop_level from to < top_level from))
far_hop from to k digits small order divides below far =
    let level : ℕ = hop_level from to in
    let positive : 0 < from = omega arith in
    let under : level ≤ top_level from = hop_level-le from to in (
      hop_level-greatest from to k (top_level-greatest from k positive small divides) far,
      below_power level digits (from - to) (hop_level-short from to order) (omega arith),
      elim (cases_eq level (top_level from)) [
        | inl top ↦ inl (top, rw top (divides-next from positive small))
        | inr other ↦ inr (omega (arith, under, other))
      ],
    )

-- a way from a step that 2 ^ k divides, and that is below 2 ^ digits
long_way : (links : List Link) (from to k digits : ℕ) → from < 2 ^ 64 → HasShape links from to → from % 2 ^ k ≡ 0
    → from < 2 ^ digits → k ≤ digits
    → length links ≤ (digits - k) + digits
long_way [] from to k digits small shape divides below within = omega arith
long_way (link ∷ links) from to k digits small shape divides below within =
    elim (cases_lt (from - to) (2 ^ k)) [
      | inl near ↦ (let few = short_way (link ∷ links) from to k small shape divides near in omega (arith, few))
      | inr far ↦ (
          let level : ℕ = hop_level from to in
          let first = far_hop from to k digits small shape.0 divides below far in
          elim (first.2) [
            | inl top ↦ (
                let rest = long_way links (hop from to) to (suc level) digits (omega (arith, small)) shape.2 top.1
                (omega (arith, below)) first.1 in
                omega (arith, rest, first.0, first.1))
            | inr other ↦ (
                let rest : length links ≤ level =
                short_way links (hop from to) to level (omega (arith, small)) shape.2
                (hop-divides from to shape.0 small) (hop-leaves from to shape.0 other) in
                omega (arith, rest, first.1))
          ])
    ]

-- a path from a step of so many binary digits has at most twice as many links
pub few_links : (links : List Link) (from to digits : ℕ) → from < 2 ^ 64 → from < 2 ^ digits → HasShape links from to
    → length links ≤ 2 * digits
few_links links from to digits small below shape =
    let few = long_way links from to 0 digits small shape (mod-one from) below (omega arith) in omega (arith, few)
