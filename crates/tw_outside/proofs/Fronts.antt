-- The first bytes of a file, and one piece more.
use Rattle.std.proofs.Common.{nat_lt, false, ◌≡◌, ℕ, ◌+◌, ◌-◌, ◌<◌, ◌≤◌, List, ◌++◌, length, take, take-add, drop, ap}
use Rattle.std.proofs.Common.{sym, ◌∙◌, inl, inr, arith}
use Rattle.std.proofs.lemmas.List.{length-append, length-take-le, take_all}
use Rattle.std.proofs.lemmas.Bool.{cases_lt}
use Rattle.std.proofs.lemmas.Bool.Decides.{nat_tests}

-- a piece that came after the first bytes makes more first bytes
pub front_grows : (bytes front piece more : List ℕ) (n : ℕ) → front ≡ take (length front) bytes → n ≤ length piece
    → take n piece ≡ take n (drop (length front) bytes) → more ≡ front ++ take n piece → more ≡ take (length more) bytes
front_grows bytes front piece more n is fits came grown =
    let size : length more ≡ length front + n =
    ap length grown ∙ length-append front (take n piece) ∙ ap (λ k. length front + k) (length-take-le n piece fits) in
    grown ∙ ap (λ rest. front ++ rest) came ∙ ap (λ first. first ++ take n (drop (length front) bytes)) is
    ∙ sym (take-add (length front) n bytes) ∙ ap (λ k. take k bytes) (sym size)

-- first bytes as many as the limit
pub front_at_limit : (bytes front : List ℕ) (limit : ℕ) → front ≡ take (length front) bytes → length front ≡ limit
    → front ≡ take limit bytes
front_at_limit bytes front limit is full = is ∙ ap (λ k. take k bytes) full

-- a count below the limit or at it, which isn't below it
pub full_of_not-less : (size limit : ℕ) → size ≤ limit → nat_lt size limit ≡ false → size ≡ limit
full_of_not-less size limit le not_less = grind (arith, nat_tests)

-- first bytes after which none come, though there is room below the limit
pub front_at_end : (bytes front : List ℕ) (limit : ℕ) → front ≡ take (length front) bytes → length front ≤ limit
    → (length front < limit → length bytes ≤ length front) → front ≡ take limit bytes
front_at_end bytes front limit is within none = elim (cases_lt (length front) limit) [
  | inl below ↦ is ∙ take_all (length front) bytes (none below) ∙ sym (take_all limit bytes (omega (arith, none below)))
  | inr full ↦ front_at_limit bytes front limit is (omega arith)
]
