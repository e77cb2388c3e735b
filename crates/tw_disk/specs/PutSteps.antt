-- A page put into an image. These lemmas stand in specs/ since the laws of an impl cite them.
use Rattle.std.proofs.Common.{◌≡◌, ◌≢◌, ◌⊎◌, inl, inr, ℕ, zero, suc, ◌<◌, ◌≤◌, max, List, [], ◌∷◌, length, refl, ap, sym, ◌∙◌, arith}
use Rattle.std.proofs.lemmas.Bool.{cases_eq}
use Rattle.std.proofs.lemmas.List.{ext_get_or}
use Rattle.tw_disk.specs.Image.{Image, put, page_at}

pub length-put : (i : ℕ) (b : List ℕ) (xs : Image) → i ≤ length xs → length (put i b xs) ≡ max (length xs) (suc i)
unfolding put
length-put zero b [] le = refl
length-put (suc i) b [] le = absurd (omega arith)
length-put zero b (x ∷ xs) le = omega arith
length-put (suc i) b (x ∷ xs) le = omega (arith, length-put i b xs (omega arith))

pub page_at-put_same : (i : ℕ) (b : List ℕ) (xs : Image) → i ≤ length xs → page_at (put i b xs) i ≡ b
unfolding put
page_at-put_same zero b xs le = refl
page_at-put_same (suc i) b [] le = absurd (omega arith)
page_at-put_same (suc i) b (x ∷ xs) le = page_at-put_same i b xs (omega arith)

pub page_at-put_other : (i : ℕ) (b : List ℕ) (xs : Image) (k : ℕ) → i ≤ length xs → k ≢ i → page_at (put i b xs) k ≡ page_at xs k
unfolding put
page_at-put_other zero b xs zero le ne = absurd (ne refl)
page_at-put_other zero b [] (suc k) le ne = refl
page_at-put_other zero b (x ∷ xs) (suc k) le ne = refl
page_at-put_other (suc i) b [] k le ne = absurd (omega arith)
page_at-put_other (suc i) b (x ∷ xs) zero le ne = refl
page_at-put_other (suc i) b (x ∷ xs) (suc k) le ne = page_at-put_other i b xs k (omega arith) (λ e. ne (ap suc e))

pub length-put_le : (i : ℕ) (b : List ℕ) (xs : Image) → length xs ≤ length (put i b xs)
unfolding put
length-put_le zero b [] = omega arith
length-put_le (suc i) b [] = omega arith
length-put_le zero b (x ∷ xs) = omega arith
length-put_le (suc i) b (x ∷ xs) = omega (arith, length-put_le i b xs)

pub page_at-put_below : (i : ℕ) (b : List ℕ) (xs : Image) (k : ℕ) → k < length xs → k ≢ i → page_at (put i b xs) k ≡ page_at xs k
unfolding put
page_at-put_below zero b [] k lt ne = absurd (omega arith)
page_at-put_below zero b (x ∷ xs) zero lt ne = absurd (ne refl)
page_at-put_below zero b (x ∷ xs) (suc k) lt ne = refl
page_at-put_below (suc i) b [] k lt ne = absurd (omega arith)
page_at-put_below (suc i) b (x ∷ xs) zero lt ne = refl
page_at-put_below (suc i) b (x ∷ xs) (suc k) lt ne = page_at-put_below i b xs k (omega arith) (λ e. ne (ap suc e))

-- an image is the page put into what differs from it in that page alone
pub put-back : (i : ℕ) (xs ys : Image) → i ≤ length xs → max (length xs) (suc i) ≡ length ys → ((k : ℕ) → k < length ys → k ≢ i → page_at xs k ≡ page_at ys k) → put i (page_at ys i) xs ≡ ys
put-back i xs ys le size others = ext_get_or [] (put i (page_at ys i) xs) ys (length-put i (page_at ys i) xs le ∙ size) (λ k lt. at k lt (cases_eq k i))
  where
    at : (k : ℕ) → k < length (put i (page_at ys i) xs) → (k ≡ i) ⊎ (k ≢ i) → page_at (put i (page_at ys i) xs) k ≡ page_at ys k
    at k lt (inl is) = ap (λ (j : ℕ). page_at (put i (page_at ys i) xs) j) is ∙ page_at-put_same i (page_at ys i) xs le ∙ ap (λ (j : ℕ). page_at ys j) (sym is)
    at k lt (inr ne) = page_at-put_other i (page_at ys i) xs k le ne ∙ others k (omega (arith, lt, length-put i (page_at ys i) xs le, size)) ne
