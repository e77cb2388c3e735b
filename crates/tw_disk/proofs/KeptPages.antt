-- Pages that are kept without the zeros at their end.
use Rattle.std.proofs.Common.{◌≡◌, ◌≤◌, ◌-◌, ◌+◌, ◌++◌, ℕ, List, length, take, drop, replicate, sym, ap, ◌∙◌, arith}
use Rattle.std.proofs.lemmas.List.{drop-drop, length-drop, length-take, replicate-append-replicate, take-append-drop}

-- a piece of zeros before zeros
pub zeros_before : (page : List ℕ) (at size : ℕ) → at ≤ size → take (size - at) (drop at page) ≡ replicate
    (length (take (size - at) (drop at page))) 0
    → drop size page ≡ replicate (4096 - size) 0 → size ≤ 4096 → length page ≡ 4096 → drop at page ≡ replicate
    (4096 - at) 0
zeros_before page at size le piece behind most whole =
    let n = size - at in
    let count : length (take n (drop at page)) ≡ n =
    omega (arith, length-take n (drop at page), length-drop at page, le, most, whole) in
    let front : take n (drop at page) ≡ replicate n 0 = piece ∙ ap (λ (k : ℕ). replicate k 0) count in
    let next : at + n ≡ size = omega (arith, le) in
    let rest : drop n (drop at page) ≡ replicate (4096 - size) 0 = drop-drop n at page ∙ ap (λ (k : ℕ). drop k page)
    next ∙ behind in
    let all : n + (4096 - size) ≡ 4096 - at = omega (arith, le, most) in
    sym (take-append-drop n (drop at page))
    ∙ (λ i. front i ++ rest i)
    ∙ replicate-append-replicate n (4096 - size) 0
    ∙ ap (λ (k : ℕ). replicate k 0) all
