-- The whole pages of a file, and what a write of one makes of them.
use Rattle.std.proofs.Common.{◌≡◌, ℕ, zero, suc, ◌+◌, ◌*◌, ◌/◌, ◌<◌, ◌≤◌, List, length, take, drop, slice_index, refl, sym, ap, ◌∙◌, inl, inr, subst, arith}
use Rattle.std.proofs.lemmas.Bool.{cases_lt}
use Rattle.std.proofs.lemmas.List.{length-drop, length-take-le, get_or-take, get_or-drop, drop-drop, ext_get_or}
use Rattle.tw_base.specs.declared.kinds.limits.TheConstants.{PAGE_SIZE}
use Rattle.tw_disk.specs.Image.{Torn, put, page_at}
use Rattle.tw_disk.specs.PutSteps.{put-back}
use Rattle.tw_hostio.specs.FileBytes.{put_bytes, TornBytes, pages_from, whole_pages}
use Rattle.tw_hostio.specs.FileStepsSteps.{TornBytes-put}
use Rattle.tw_hostio.proofs.ByteLaws.{length-put_bytes, written_there}

length-pages_from : (n : ℕ) (bytes : List ℕ) → length (pages_from n bytes) ≡ n
length-pages_from zero bytes = refl
length-pages_from (suc n) bytes = ap suc (length-pages_from n (drop PAGE_SIZE bytes))

page_at-pages_from : (n k : ℕ) (bytes : List ℕ) → k < n → page_at (pages_from n bytes) k ≡ take PAGE_SIZE (drop (PAGE_SIZE * k) bytes)
page_at-pages_from zero k bytes lt = absurd (omega arith)
page_at-pages_from (suc n) zero bytes lt = refl
page_at-pages_from (suc n) (suc k) bytes lt =
    let place : PAGE_SIZE + PAGE_SIZE * k ≡ PAGE_SIZE * suc k = omega arith in
    page_at-pages_from n k (drop PAGE_SIZE bytes) (omega arith)
    ∙ ap (take PAGE_SIZE) (drop-drop (PAGE_SIZE * k) PAGE_SIZE bytes ∙ ap (λ (i : ℕ). drop i bytes) place)

pub length-whole_pages : (bytes : List ℕ) → length (whole_pages bytes) ≡ length bytes / PAGE_SIZE
unfolding whole_pages
length-whole_pages bytes = length-pages_from (length bytes / PAGE_SIZE) bytes

pub page_at-whole_pages : (bytes : List ℕ) (k : ℕ) → k < length bytes / PAGE_SIZE → page_at (whole_pages bytes) k ≡ take PAGE_SIZE (drop (PAGE_SIZE * k) bytes)
unfolding whole_pages
page_at-whole_pages bytes k lt = page_at-pages_from (length bytes / PAGE_SIZE) k bytes lt

-- so many bytes from a place on, which are the same in both files
same_part : (n at : ℕ) (old new : List ℕ) → at + n ≤ length old → at + n ≤ length new
    → ((i : ℕ) → i < n → slice_index new (at + i) ≡ slice_index old (at + i)) → take n (drop at new) ≡ take n (drop at old)
same_part n at old new in_old in_new same =
    let size_old : length (take n (drop at old)) ≡ n = length-take-le n (drop at old) (omega (arith, length-drop at old)) in
    let size_new : length (take n (drop at new)) ≡ n = length-take-le n (drop at new) (omega (arith, length-drop at new)) in
    ext_get_or 0 (take n (drop at new)) (take n (drop at old)) (size_new ∙ sym size_old) (λ i lt.
    let low : i < n = omega (arith, size_new, lt) in
    get_or-take n (drop at new) i 0 low ∙ get_or-drop at new i 0 ∙ same i low
    ∙ sym (get_or-take n (drop at old) i 0 low ∙ get_or-drop at old i 0))

-- what a torn write of the bytes of a page makes of the pages
pub Torn-pages : (page : ℕ) (old new : List ℕ) → TornBytes (PAGE_SIZE * page) PAGE_SIZE old new → Torn page (whole_pages old) (whole_pages new)
Torn-pages page old new torn =
    let size_old = length-whole_pages old in
    let size_new = length-whole_pages new in
    record {
      no_shorter = omega (arith, size_old, size_new, torn.no_shorter);
      no_longer = omega (arith, size_old, size_new, torn.no_longer);
      others = λ k lt ne.
          let in_old : k < length old / PAGE_SIZE = omega (arith, size_old, lt) in
          let in_new : k < length new / PAGE_SIZE = omega (arith, in_old, torn.no_shorter) in
          page_at-whole_pages new k in_new
          ∙ same_part PAGE_SIZE (PAGE_SIZE * k) old new (omega (arith, in_old)) (omega (arith, in_new)) (λ i low.
          let within : PAGE_SIZE * k + i < length old = omega (arith, in_old, low) in
          elim (cases_lt k page) [
            | inl below ↦ torn.below (PAGE_SIZE * k + i) within (omega (arith, below, low))
            | inr from ↦ torn.above (PAGE_SIZE * k + i) within (omega (arith, from, ne, low))
          ])
          ∙ sym (page_at-whole_pages old k in_old);
    }

-- a write of a page's bytes puts the page
pub pages-put : (page : ℕ) (bytes file : List ℕ) → length bytes ≡ PAGE_SIZE → PAGE_SIZE * page ≤ length file
    → whole_pages (put_bytes (PAGE_SIZE * page) bytes file) ≡ put page bytes (whole_pages file)
pages-put page bytes file size joins =
    let new = put_bytes (PAGE_SIZE * page) bytes file in
    let torn : TornBytes (PAGE_SIZE * page) PAGE_SIZE file new =
    subst (λ (n : ℕ). TornBytes (PAGE_SIZE * page) n file new) size (TornBytes-put (PAGE_SIZE * page) bytes file) in
    let pages : Torn page (whole_pages file) (whole_pages new) = Torn-pages page file new torn in
    let size_old = length-whole_pages file in
    let size_new = length-whole_pages new in
    let long = length-put_bytes (PAGE_SIZE * page) bytes file joins in
    let there : page_at (whole_pages new) page ≡ bytes =
    page_at-whole_pages new page (omega (arith, size, long))
    ∙ ap (λ (n : ℕ). take n (drop (PAGE_SIZE * page) new)) (sym size) ∙ written_there (PAGE_SIZE * page) bytes file joins in
    sym (ap (λ (b : List ℕ). put page b (whole_pages file)) (sym there)
    ∙ put-back page (whole_pages file) (whole_pages new) (omega (arith, size_old, joins)) (omega (arith, size_old, size_new, long, size, joins)) (λ k lt ne.
    sym (pages.others k (omega (arith, lt, ne, size_old, size_new, pages.no_longer)) ne)))
