-- The greedy path's levels, and labels among others.
use Rattle.std.proofs.Common.{◌≡◌, ℕ, suc, zero, ◌-◌, ◌<◌, ◌≤◌, ◌^◌, List, [], ◌∷◌, ◌++◌, length, Bool, true, false}
use Rattle.std.proofs.Common.{refl, ap, sym, ◌∙◌, subst, arith}
use Rattle.std.specs.Prelude.{nat_le, if◌then◌else◌}
use Rattle.std.proofs.lemmas.Bool.{le-leb, lt-leb, leb-true}
use Rattle.tw_base.specs.kinds.Digests.{AllDigests}
use Rattle.tw_base.specs.kinds.Levels.{top_level}
use Rattle.tw_skipproof.specs.declared.path.Link.{Link}
use Rattle.tw_skipproof.specs.Paths.{HasShape, climb_auth_text, climbed, hop, hop_level, level_up_to}

pub level-stop : (level upper lower : ℕ) → 2 ^ level ≤ upper - lower → level_up_to level upper lower ≡ level
unfolding level_up_to
level-stop zero upper lower h = refl
level-stop (suc level) upper lower h = ap (λ b. if b then suc level else level_up_to level upper lower)
    (le-leb (2 ^ suc level) (upper - lower) h)

pub level-down : (level upper lower : ℕ) → 0 < level → upper - lower < 2 ^ level → level_up_to level upper lower
    ≡ level_up_to (level - 1) upper lower
unfolding level_up_to
level-down zero upper lower p h = refl
level-down (suc level) upper lower p h =
    ap (λ b. if b then suc level else level_up_to level upper lower) (lt-leb (2 ^ suc level) (upper - lower) h)
    ∙ ap (λ k. level_up_to k upper lower) (let e : level ≡ suc level - 1 = omega arith in e)

pub level-zero : (upper lower : ℕ) → level_up_to 0 upper lower ≡ 0
unfolding level_up_to
level-zero upper lower = refl

pub level-le : (level upper lower : ℕ) → level_up_to level upper lower ≤ level
unfolding level_up_to
level-le zero upper lower = omega arith
level-le (suc level) upper lower =
    elim (nat_le (2 ^ suc level) (upper - lower)) as (λ b. (if b then suc level else level_up_to level upper lower)
    ≤ suc level)
    [ true ↦ omega arith | false ↦ (let less = level-le level upper lower in omega arith) ]

pub AllDigests-parts : (xs ys : List (List ℕ)) → AllDigests (xs ++ ys) → AllDigests xs × AllDigests ys
AllDigests-parts [] ys p = (tt, p)
AllDigests-parts (x ∷ xs) ys p = let rest = AllDigests-parts xs ys p.1 in ((p.0, rest.0), rest.1)

pub AllDigests-join : (xs ys : List (List ℕ)) → AllDigests xs → AllDigests ys → AllDigests (xs ++ ys)
AllDigests-join [] ys p q = q
AllDigests-join (x ∷ xs) ys p q = (p.0, AllDigests-join xs ys p.1 q)

pub ruleset levels = (level-stop, level-down, level-zero)

pub empty_path : (dig : List ℕ → List ℕ) (links : List Link) (upper lower : ℕ) (bottom : List ℕ) → length links ≡ 0
    → upper ≤ lower
    → HasShape links upper lower × (bottom ≡ climbed dig links upper lower bottom)
unfolding climbed
empty_path dig [] upper lower bottom none over = (over, refl)
empty_path dig (link ∷ links) upper lower bottom none over = absurd (omega arith)

pub longer_path : (dig : List ℕ → List ℕ) (links rest : List Link) (link : Link) (upper lower level p : ℕ)
    (bottom below d : List ℕ)
    → links ≡ link ∷ rest → lower < upper → length link.others ≡ top_level upper → level ≡ hop_level upper lower
    → p ≡ 2 ^ level
    → HasShape rest (upper - p) lower → below ≡ climbed dig rest (upper - p) lower bottom
    → d ≡ dig (climb_auth_text dig link upper level below)
    → HasShape links upper lower × (d ≡ climbed dig links upper lower bottom)
unfolding climbed
longer_path dig links rest link upper lower level p bottom below d e under count at power shape value made =
    let next : p ≡ 2 ^ hop_level upper lower = power ∙ ap (λ k. 2 ^ k) at in
    let shaped : HasShape (link ∷ rest) upper lower =
    (under, count, subst (λ q. HasShape rest (upper - q) lower) next shape) in
    let below_is : below ≡ climbed dig rest (hop upper lower) lower bottom =
    value ∙ ap (λ q. climbed dig rest (upper - q) lower bottom) next in
    let made_is : d ≡ climbed dig (link ∷ rest) upper lower bottom =
    made ∙ ap (λ k. dig (climb_auth_text dig link upper k below)) at
    ∙ ap (λ b. dig (climb_auth_text dig link upper (hop_level upper lower) b)) below_is in (
      subst (λ ls. HasShape ls upper lower) (sym e) shaped,
      made_is ∙ ap (λ ls. climbed dig ls upper lower bottom) (sym e),
    )

pub hop_level-le : (upper lower : ℕ) → hop_level upper lower ≤ top_level upper
unfolding hop_level
hop_level-le upper lower = level-le (top_level upper) upper lower

pub level-short : (level upper lower : ℕ) → lower < upper → 2 ^ level_up_to level upper lower ≤ upper - lower
unfolding level_up_to
level-short zero upper lower l = omega arith
level-short (suc level) upper lower l =
    let rest = level-short level upper lower l in
    let cases : (b : Bool) → nat_le (2 ^ suc level) (upper - lower) ≡ b
    → 2 ^ (if b then suc level else level_up_to level upper lower) ≤ upper - lower =
    elim [ true ↦ λ e. leb-true (2 ^ suc level) (upper - lower) e | false ↦ λ e. rest ]
    in cases (nat_le (2 ^ suc level) (upper - lower)) refl

-- the next step of the greedy path is not below the lower one
pub hop-below : (upper lower : ℕ) → lower < upper → lower ≤ hop upper lower
unfolding hop_level
hop-below upper lower l = let short = level-short (top_level upper) upper lower l in omega arith

pub hop_level-short : (upper lower : ℕ) → lower < upper → 2 ^ hop_level upper lower ≤ upper - lower
unfolding hop_level
hop_level-short upper lower l = level-short (top_level upper) upper lower l
