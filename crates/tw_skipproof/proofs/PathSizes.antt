-- How many digests a path has at most.
use Rattle.std.proofs.Common.{◌≡◌, ℕ, suc, zero, ◌+◌, ◌-◌, ◌*◌, ◌/◌, ◌<◌, ◌≤◌, ◌^◌, ◌%◌, List, [], ◌∷◌, length, refl}
use Rattle.std.proofs.Common.{ap, arith, lit<, inl, inr}
use Rattle.std.proofs.lemmas.Bool.{cases_lt, cases_eq}
use Rattle.std.proofs.lemmas.Nat.{shr_split}
use Rattle.std.proofs.Math.Nat.{add-mul, div-eq_of_lt, mod-one, mul-le-mul_right, one-le-pow, pow-suc}
use Rattle.tw_base.specs.kinds.Levels.{top_level}
use Rattle.tw_base.proofs.lemmas.kinds.Levels.{divides-less, divides-next, top_level-divides, top_level-greatest}
use Rattle.tw_base.proofs.lemmas.kinds.Levels.{top_level-zero}
use Rattle.tw_skipproof.specs.declared.path.Link.{Link}
use Rattle.tw_skipproof.specs.Paths.{HasShape, hop, hop_level}
use Rattle.tw_skipproof.proofs.Hops.{hop_level-le, hop_level-short}
use Rattle.tw_skipproof.proofs.Greedy.{below_power, far_hop, hop-divides, hop-fits, hop-leaves, near_hop}

-- ---- the digests of a path

-- the numbers from 1 to n, added up
triangle : ℕ → ℕ
triangle zero = 0
triangle (suc n) = triangle n + suc n

triangle-suc : (n : ℕ) → triangle (suc n) ≡ triangle n + suc n
unfolding triangle
triangle-suc n = refl

triangle-le : (m n : ℕ) → m ≤ n → triangle m ≤ triangle n
triangle-le m zero l = let same : m ≡ 0 = omega arith in rw same (let r : triangle 0 ≤ triangle 0 = omega arith in r)
triangle-le m (suc n) l =
    elim (cases_eq m (suc n)) [
      | inl same ↦ rw same (let r : triangle (suc n) ≤ triangle (suc n) = omega arith in r)
      | inr other ↦ (let less = triangle-le m n (omega arith) in omega (arith, less, triangle-suc n))
    ]

-- each link has a datum and its labels
abbrev pub weight : List Link → ℕ
weight [] = 0
weight (link ∷ links) = suc (length link.others) + weight links

-- with a power taken off that is lower than its lowest bit, a step has that bit as its lowest
top_level-after : (from level : ℕ) → from < 2 ^ 64 → 2 ^ level ≤ from → level < top_level from
    → top_level (from - 2 ^ level) ≤ level
top_level-after from level small fits lower =
    elim (cases_eq (from - 2 ^ level) 0) [
      | inl none ↦ rw none (omega (arith, top_level-zero))
      | inr some ↦ (elim (cases_lt level (top_level (from - 2 ^ level))) [
        | inr within ↦ within
        | inl over ↦ (
            let bit : 1 ≤ 2 ^ level = one-le-pow level 2 (lit< tt) in
            let below : from - 2 ^ level < 2 ^ 64 = omega (arith, small) in
            let whole = divides-less from (top_level from) (suc level) lower
            (top_level-divides from (omega (arith, fits, bit)) small) in
            let rest = divides-less (from - 2 ^ level) (top_level (from - 2 ^ level)) (suc level) over
            (top_level-divides (from - 2 ^ level) (omega (arith, some)) below) in
            absurd (halves from (2 ^ level) (2 ^ suc level) (from / 2 ^ suc level) ((from - 2 ^ level) / 2 ^ suc level)
            bit fits (pow-suc 2 level)
            (omega (arith, shr_split from (suc level), whole))
            (omega (arith, shr_split (from - 2 ^ level) (suc level), rest))))
      ])
    ]
  where
    -- half of a number is no multiple of it
    halves : (n half all q r : ℕ) → 1 ≤ half → half ≤ n → all ≡ half * 2 → q * all ≡ n → r * all ≡ n - half → ⊥
    halves n half all q r some fits twice e f =
        elim (cases_lt r q) [
          | inl more ↦ (
              let over : (r + 1) * all ≤ q * all = mul-le-mul_right all (let l : r + 1 ≤ q = omega arith in l) in
              let next : (r + 1) * all ≡ r * all + 1 * all = add-mul r 1 all in
              omega (arith, over, next, e, f, twice))
          | inr less ↦ (let under : q * all ≤ r * all = mul-le-mul_right all less in omega (arith, under, e, f))
        ]

-- once the way left is shorter than a power that divides the step, the levels fall
short_weight : (links : List Link) (from to k : ℕ) → from < 2 ^ 64 → HasShape links from to → from % 2 ^ k ≡ 0
    → from - to < 2 ^ k
    → weight links ≤ suc (top_level from) + triangle k
short_weight [] from to k small shape divides near = omega arith
short_weight (link ∷ links) from to k small shape divides near =
    let level : ℕ = hop_level from to in
    let first = near_hop from to k small shape.0 divides near in
    let rest : weight links ≤ suc (top_level (hop from to)) + triangle level =
    short_weight links (hop from to) to level (omega (arith, small)) shape.2 (hop-divides from to shape.0 small)
    (hop-leaves from to shape.0 first.1) in
    let fits = hop_level-short from to shape.0 in
    let after : top_level (hop from to) ≤ level = top_level-after from level small (omega (arith, fits)) first.1 in
    let wider = triangle-le (suc level) k first.0 in
    omega (arith, rest, after, shape.1, triangle-suc level, wider)

-- a way from a step that 2 ^ k divides, and that is below 2 ^ digits
long_weight : (links : List Link) (from to k digits : ℕ) → from < 2 ^ 64 → HasShape links from to → from % 2 ^ k ≡ 0
    → from < 2 ^ digits → k ≤ digits
    → weight links + triangle k ≤ triangle digits + digits + triangle digits
long_weight [] from to k digits small shape divides below within = let less = triangle-le k digits within in
    omega (arith, less)
long_weight (link ∷ links) from to k digits small shape divides below within =
    let positive : 0 < from = omega (arith, shape.0) in
    let level : ℕ = hop_level from to in
    let least = triangle-le k digits within in
    let top : top_level from < digits = below_power (top_level from) digits from (top_power from positive small)
    below in
    elim (cases_lt (from - to) (2 ^ k)) [
      | inl near ↦ (let few = short_weight (link ∷ links) from to k small shape divides near in
          omega (arith, few, least, top))
      | inr far ↦ (
          let first = far_hop from to k digits small shape.0 divides below far in
          elim (first.2) [
            | inl same ↦ (
                let rest = long_weight links (hop from to) to (suc level) digits (omega (arith, small)) shape.2 same.1
                (omega (arith, below)) first.1 in
                let less = triangle-le k level first.0 in
                omega (arith, rest, less, shape.1, same.0, triangle-suc level))
            | inr other ↦ (
                let divided : from % 2 ^ suc level ≡ 0 = divides-less from (top_level from) (suc level) other
                (top_level-divides from positive small) in
                let few = short_weight (link ∷ links) from to (suc level) small shape divided (hop-fits from to other) in
                let wide = triangle-le (suc level) digits first.1 in
                omega (arith, few, wide, least, top))
          ])
    ]
  where
    -- the power that divides a step is at most the step
    top_power : (from : ℕ) → 0 < from → from < 2 ^ 64 → 2 ^ top_level from ≤ from
    top_power from some small =
        elim (cases_lt from (2 ^ top_level from)) [
          | inr fits ↦ fits
          | inl less ↦ (
              let split = shr_split from (top_level from) in
              let none = top_level-divides from some small in
              let zero_part : from / 2 ^ top_level from ≡ 0 = div-eq_of_lt less in
              absurd (omega (arith, split, none, ap (λ q. q * 2 ^ top_level from) zero_part)))
        ]

triangle-forty : triangle 40 ≡ 820
unfolding triangle
triangle-forty = refl

pub few_digests : (links : List Link) (from to : ℕ) → from < 2 ^ 40 → HasShape links from to → weight links ≤ 1680
few_digests links from to small shape =
    let few = long_weight links from to 0 40 (omega (arith, small)) shape (mod-one from) small (omega arith) in
    omega (arith, few, triangle-forty)
