-- The links of a tree as a list, and the slots of a page.
use Rattle.std.proofs.Common.{◌≡◌, ℕ, suc, zero, ◌+◌, ◌-◌, ◌<◌, ◌≤◌, List, [], ◌∷◌, ◌++◌, take, drop, length, Option}
use Rattle.std.proofs.Common.{Some, refl, sym, ap, ◌∙◌, ◌⊎◌, inl, inr, arith, slice_get, length-append, length-take}
use Rattle.std.proofs.Common.{length-drop}
use Rattle.std.proofs.lemmas.Option.{same_Some, none-some}
use Rattle.tw_base.specs.declared.history.thread.Entry.{Entry}
use Rattle.tw_base.specs.kinds.Lists.{Each}
use Rattle.tw_rbnode.specs.declared.links.Link.{Link}
use Rattle.tw_rbnode.specs.declared.slot.Slot.{Slot}
use Rattle.tw_rbnode.specs.NodeBytes.{links_of, slots_with}
use Rattle.tw_rbnode.specs.Shape.{Shape, Empty, Node, size}
use Rattle.tw_rbnode.specs.Slots.{At, link, slot_of}

module _ {X : Type 0} where
  pub get-left : (xs ys : List X) (k : ℕ) → k < length xs → slice_get (xs ++ ys) k ≡ slice_get xs k
  get-left [] ys k l = absurd (omega arith)
  get-left (x ∷ xs) ys zero l = refl
  get-left (x ∷ xs) ys (suc k) l = get-left xs ys k (omega arith)

  pub get-right : (xs ys : List X) (k : ℕ) → slice_get (xs ++ ys) (length xs + k) ≡ slice_get ys k
  get-right [] ys k = ap (slice_get ys) (let e : 0 + k ≡ k = omega arith in e)
  get-right (x ∷ xs) ys k = ap (slice_get (x ∷ (xs ++ ys))) (let e : length (x ∷ xs) + k ≡ suc (length xs + k) =
      omega arith in e) ∙ get-right xs ys k

  pub get-take : (n : ℕ) (xs : List X) (k : ℕ) → k < n → slice_get (take n xs) k ≡ slice_get xs k
  get-take zero xs k l = absurd (omega arith)
  get-take (suc n) [] k l = refl
  get-take (suc n) (x ∷ xs) zero l = refl
  get-take (suc n) (x ∷ xs) (suc k) l = get-take n xs k (omega arith)

  pub get-behind : (xs : List X) (k : ℕ) → slice_get (drop 1 xs) k ≡ slice_get xs (suc k)
  get-behind [] k = refl
  get-behind (x ∷ xs) k = refl

  pub same_lists : (xs ys : List X) → length xs ≡ length ys
      → ((k : ℕ) → k < length xs → slice_get xs k ≡ slice_get ys k) → xs ≡ ys
  same_lists [] [] e h = refl
  same_lists [] (y ∷ ys) e h = absurd (omega (arith, e))
  same_lists (x ∷ xs) [] e h = absurd (omega (arith, e))
  same_lists (x ∷ xs) (y ∷ ys) e h =
      let first : x ≡ y = same_Some _ _ (h 0 (omega arith)) in
      let rest : xs ≡ ys = same_lists xs ys (omega (arith, e)) (λ k l. h (suc k) (omega (arith, l))) in
      λ i. first i ∷ rest i

pub links-size : (base : ℕ) (t : Shape) → length (links_of base t) ≡ size t
links-size base Empty = refl
links-size base (Node red l r) =
    omega (
      arith,
      length-append (links_of base l) (link red (slot_of base l) (slot_of (base + size l + 1) r) ∷ links_of
          (base + size l + 1) r),
      links-size base l,
      links-size (base + size l + 1) r,
    )

module _ (f : ℕ → Option Link) where
  -- the slots of a tree read as its links
  pub links-read : (base : ℕ) (t : Shape) → At f base t → (k : ℕ) → k < size t → slice_get (links_of base t) k ≡ f
      (base + k + 1)
  links-read base Empty at k l = absurd (omega arith)
  links-read base (Node red l r) at k less =
      let xs = links_of base l in
      let n : length (links_of base l) ≡ size l = links-size base l in
      let cases : (k < size l) ⊎ ((k ≡ size l) ⊎ (size l < k)) = grind arith in
      elim cases [
        | inl h ↦ get-left xs _ k (omega (arith, h, n)) ∙ links-read base l at.1 k h
        | inr two ↦ elim two [
          | inl h ↦
              ap (slice_get (links_of base (Node red l r))) (let e : k ≡ length (links_of base l) + 0 =
              omega (arith, h, n) in e) ∙ get-right xs _ 0
              ∙ sym at.0 ∙ ap f (let e : base + size l + 1 ≡ base + k + 1 = omega (arith, h) in e)
          | inr h ↦
              ap (slice_get (links_of base (Node red l r))) (let e : k ≡ length (links_of base l) + suc
              (k - size l - 1) = omega (arith, h, n) in e) ∙ get-right xs _ (suc (k - size l - 1))
              ∙ links-read (base + size l + 1) r at.2 (k - size l - 1) (omega (arith, h, less))
              ∙ ap f (let e : base + size l + 1 + (k - size l - 1) + 1 ≡ base + k + 1 = omega (arith, h) in e)
        ]
      ]

  -- and slots that read as the links of a tree are that tree
  pub links-at : (base : ℕ) (t : Shape) → ((k : ℕ) → k < size t → slice_get (links_of base t) k ≡ f (base + k + 1))
      → At f base t
  links-at base Empty h = tt
  links-at base (Node red l r) h =
      let xs = links_of base l in
      let n : length (links_of base l) ≡ size l = links-size base l in
      let own : f (base + size l + 1) ≡ Some (link red (slot_of base l) (slot_of (base + size l + 1) r)) =
      sym (h (size l) (omega arith)) ∙ ap (slice_get (links_of base (Node red l r)))
      (let e : size l ≡ length (links_of base l) + 0 = omega (arith, n) in e) ∙ get-right xs _ 0 in (
        own,
        links-at base l (λ k less. sym (get-left xs _ k (omega (arith, less, n))) ∙ h k (omega (arith, less))),
        links-at (base + size l + 1) r (λ k less.
            sym (get-right xs _ (suc k)) ∙ ap (slice_get (links_of base (Node red l r)))
            (let e : length (links_of base l) + suc k ≡ size l + suc k = omega (arith, n) in e)
            ∙ h (size l + suc k) (omega (arith, less)) ∙ ap f (let e : base + (size l + suc k) + 1 ≡ base + size l + 1
            + k + 1 = omega arith in e)),
      )

pub links-held : (links : List Link) (t : Shape) (n : ℕ) → length links ≡ 26 → n ≡ size t → n ≤ 24
    → At (slice_get links) 0 t → take n (drop 1 links) ≡ links_of 0 t
links-held links t n whole sized few at =
    let front : length (take n (drop 1 links)) ≡ n = omega (arith, length-take n (drop 1 links), length-drop 1 links) in
    same_lists (take n (drop 1 links)) (links_of 0 t) (omega (arith, links-size 0 t, front)) (λ k l.
    get-take n (drop 1 links) k (omega (arith, l, front)) ∙ get-behind links k ∙ ap (slice_get links)
    (let e : suc k ≡ 0 + k + 1 = omega arith in e)
    ∙ sym (links-read (slice_get links) 0 t at k (omega (arith, l, front))))

pub slots-more : (xs : List Link) (es : List Entry) (i : ℕ) (x : Link) (e : Entry) → slice_get xs i ≡ Some x
    → slice_get es i ≡ Some e
    → slots_with (take (suc i) xs) (take (suc i) es) ≡ slots_with (take i xs) (take i es)
    ++ record { link = x; entry = e } ∷ []
slots-more [] es i x e gx ge = absurd (none-some x gx)
slots-more (y ∷ xs) [] i x e gx ge = absurd (none-some e ge)
slots-more (y ∷ xs) (f ∷ es) zero x e gx ge = λ k. record { link = same_Some _ _ gx k; entry = same_Some _ _ ge k } ∷ []
slots-more (y ∷ xs) (f ∷ es) (suc i) x e gx ge = ap (λ (ss : List Slot). record { link = y; entry = f } ∷ ss)
    (slots-more xs es i x e gx ge)

pub slots-size : (xs : List Link) (es : List Entry) → length xs ≡ length es → length (slots_with xs es) ≡ length es
slots-size [] [] h = refl
slots-size [] (e ∷ es) h = absurd (omega (arith, h))
slots-size (x ∷ xs) [] h = refl
slots-size (x ∷ xs) (e ∷ es) h = ap suc (slots-size xs es (omega (arith, h)))

pub slots-each : (P : Entry → Type 0) (xs : List Link) (es : List Entry) → Each P es → Each (λ (s : Slot). P s.entry)
    (slots_with xs es)
slots-each P [] es h = tt
slots-each P (x ∷ xs) [] h = tt
slots-each P (x ∷ xs) (e ∷ es) h = (h.0, slots-each P xs es h.1)
