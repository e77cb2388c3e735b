-- A page put into an image at its end or inside it, and what a torn write makes of it.
use Rattle.std.proofs.Common.{◌≡◌, ℕ, zero, suc, ◌<◌, ◌≤◌, List, [], ◌∷◌, ◌++◌, length, refl, ap, arith}
use Rattle.std.proofs.Math.ListN.{set}
use Rattle.tw_disk.specs.Image.{Image, Torn, put}
use Rattle.tw_disk.specs.PutSteps.{length-put, page_at-put_other}

pub put-end : (i : ℕ) (b : List ℕ) (xs : Image) → length xs ≤ i → put i b xs ≡ xs ++ b ∷ []
unfolding put
put-end zero b [] le = refl
put-end (suc i) b [] le = refl
put-end zero b (x ∷ xs) le = absurd (omega arith)
put-end (suc i) b (x ∷ xs) le = ap (λ (l : Image). x ∷ l) (put-end i b xs (omega arith))

pub put-inside : (i : ℕ) (b : List ℕ) (xs : Image) → i < length xs → put i b xs ≡ set xs i b
unfolding put
put-inside i b [] lt = absurd (omega arith)
put-inside zero b (x ∷ xs) lt = refl
put-inside (suc i) b (x ∷ xs) lt = ap (λ (l : Image). x ∷ l) (put-inside i b xs (omega arith))

pub torn_put : (i : ℕ) (b : List ℕ) (xs : Image) → i ≤ length xs → Torn i xs (put i b xs)
torn_put i b xs le = record {
  no_shorter = omega (arith, length-put i b xs le);
  no_longer = omega (arith, length-put i b xs le);
  others = λ k lt ne. page_at-put_other i b xs k le ne;
}

pub torn_same : (i : ℕ) (xs : Image) → Torn i xs xs
torn_same i xs = record { no_shorter = omega arith; no_longer = omega arith; others = λ k lt ne. refl }
