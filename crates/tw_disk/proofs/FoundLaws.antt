-- Readings of pages one after another, and the bytes of one.
use Rattle.std.proofs.Common.{◌≡◌, ℕ, ◌+◌, ◌-◌, ◌<◌, ◌≤◌, length, ap, refl, ◌∙◌, arith, Bool, ◌⊎◌, inl, inr}
use Rattle.std.specs.Prelude.{nat_lt, ◌&&◌}
use Rattle.std.proofs.lemmas.Bool.{le-leb, le-ltb, lt-leb, lt-ltb}
use Rattle.tw_disk.specs.Found.{Found, ◌>>=◌, bytes_in, when}
use Rattle.tw_disk.specs.Found.Found.{Is, Bad}
use Rattle.tw_disk.specs.Image.{Image, page_at}

module _ {X Y : Type 0} where
  -- what is found is read on from
  pub is_on : (one : Found X) (next : X → Found Y) (x : X) → one ≡ Is x → (one >>= next) ≡ next x
  is_on one next x is = ap (λ (f : Found X). f >>= next) is

  -- a bad page ends the reading
  pub bad_ends : (one : Found X) (next : X → Found Y) (page : ℕ) → one ≡ Bad page → (one >>= next) ≡ Bad page
  bad_ends one next page is = ap (λ (f : Found X). f >>= next) is

module _ {X : Type 0} where
  value_or : X → Found X → X
  value_or d (Is x) = x
  value_or d (Bad page) = d

  pub same_found : (x y : X) → Is x ≡ Is y → x ≡ y
  unfolding value_or
  same_found x y e = ap (λ (f : Found X). value_or x f) e

module _ {X Y Z : Type 0} where
  pub in_turn : (one : Found X) (next : X → Found Y) (last : Y → Found Z) → ((one >>= next) >>= last)
      ≡ (one >>= (λ x. next x >>= last))
  in_turn (Is x) next last = refl
  in_turn (Bad page) next last = refl

-- ---- the bytes of a page

pub bytes_in-within : (ps : Image) (page : ℕ) → 4 ≤ page → page < 4 + length ps → bytes_in ps page ≡ Is
    (page_at ps (page - 4))
unfolding bytes_in
bytes_in-within ps page low below =
    ap (λ (b : Bool). when (b && nat_lt page (4 + length ps)) page (page_at ps (page - 4))) (le-leb 4 page low)
    ∙ ap (λ (b : Bool). when b page (page_at ps (page - 4))) (lt-ltb page (4 + length ps) below)

pub bytes_in-low : (ps : Image) (page : ℕ) → page < 4 → bytes_in ps page ≡ Bad page
unfolding bytes_in
bytes_in-low ps page low = ap (λ (b : Bool). when (b && nat_lt page (4 + length ps)) page (page_at ps (page - 4)))
    (lt-leb 4 page low)

pub bytes_in-past : (ps : Image) (page : ℕ) → 4 ≤ page → 4 + length ps ≤ page → bytes_in ps page ≡ Bad page
unfolding bytes_in
bytes_in-past ps page low past =
    ap (λ (b : Bool). when (b && nat_lt page (4 + length ps)) page (page_at ps (page - 4))) (le-leb 4 page low)
    ∙ ap (λ (b : Bool). when b page (page_at ps (page - 4))) (le-ltb page (4 + length ps) past)

pub bytes_in-out : (ps : Image) (page : ℕ) → (page < 4) ⊎ (4 + length ps ≤ page) → bytes_in ps page ≡ Bad page
bytes_in-out ps page (inl low) = bytes_in-low ps page low
bytes_in-out ps page (inr past) = bytes_in-past ps page (omega (arith, past)) past
