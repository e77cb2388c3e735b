-- Lists with an entry more, and entries that rise.
use Rattle.std.proofs.Common.{◌≡◌, ℕ, suc, zero, ◌<◌, List, [], ◌∷◌, ◌++◌, take, drop, length, get_or, Some, arith}
use Rattle.std.proofs.Common.{slice_get, refl, subst, sym, ap}
use Rattle.std.proofs.lemmas.Option.{none-some, same_Some}
use Rattle.tw_base.specs.declared.history.thread.Entry.{Entry}
use Rattle.tw_base.specs.declared.history.thread.Key.{Key}
use Rattle.tw_base.specs.history.Entries.{KeyBelow, key_of}
use Rattle.tw_base.specs.kinds.Lists.{Each}
use Rattle.tw_base.specs.history.Tree.{IsRising}
use Rattle.tw_base.proofs.lemmas.history.Keys.{KeyBelow-trans}
use Rattle.tw_base.proofs.lemmas.kinds.ListLemmas.{Each-append, Each-map}

module _ {X : Type 0} (P : X → Type 0) where
  pub Each-take : (n : ℕ) (xs : List X) → Each P xs → Each P (take n xs)
  Each-take zero xs h = tt
  Each-take (suc n) [] h = tt
  Each-take (suc n) (x ∷ xs) h = (h.0, Each-take n xs h.1)

  pub Each-drop : (n : ℕ) (xs : List X) → Each P xs → Each P (drop n xs)
  Each-drop zero xs h = h
  Each-drop (suc n) [] h = tt
  Each-drop (suc n) (x ∷ xs) h = Each-drop n xs h.1

  pub Each-with : (xs : List X) (place : ℕ) (new : List X) → Each P xs → Each P new
      → Each P (take place xs ++ new ++ drop place xs)
  Each-with xs place new h n =
      Each-append P (take place xs ++ new) (drop place xs) (Each-append P (take place xs) new (Each-take place xs h) n)
      (Each-drop place xs h)

  pub Each-two : (xs : List X) (one other : ℕ) (new : List X) → Each P xs → Each P new
      → Each P (take one xs ++ new ++ drop other xs)
  Each-two xs one other new h n =
      Each-append P (take one xs ++ new) (drop other xs) (Each-append P (take one xs) new (Each-take one xs h) n)
      (Each-drop other xs h)

  pub Each-one_more : (xs : List X) (i : ℕ) (x : X) → Each P (take i xs) → slice_get xs i ≡ Some x → P x
      → Each P (take (suc i) xs)
  Each-one_more [] i x h e p = absurd (none-some x e)
  Each-one_more (y ∷ xs) zero x h e p = (subst P (sym (same_Some _ _ e)) p, tt)
  Each-one_more (y ∷ xs) (suc i) x h e p = (h.0, Each-one_more xs i x h.1 e p)

pub Rising-take : (n : ℕ) (es : List Entry) → IsRising es → IsRising (take n es)
Rising-take zero es h = tt
Rising-take (suc n) [] h = tt
Rising-take (suc n) (e ∷ es) h = (Each-take _ n es h.0, Rising-take n es h.1)

pub Rising-drop : (n : ℕ) (es : List Entry) → IsRising es → IsRising (drop n es)
Rising-drop zero es h = h
Rising-drop (suc n) [] h = tt
Rising-drop (suc n) (e ∷ es) h = Rising-drop n es h.1

pub Rising-with : (es : List Entry) (place : ℕ) (e : Entry) → IsRising es → Each (λ f. KeyBelow (key_of f) (key_of e))
    (take place es) → Each (λ f. KeyBelow (key_of e) (key_of f)) (drop place es)
    → IsRising (take place es ++ e ∷ [] ++ drop place es)
Rising-with es zero e rising above below = (below, rising)
Rising-with [] (suc place) e rising above below = (tt, tt)
Rising-with (f ∷ es) (suc place) e rising above below = (
  Each-with (λ g. KeyBelow (key_of f) (key_of g)) es place (e ∷ []) rising.0 (above.0, tt),
  Rising-with es place e rising.1 above.1 below,
)

-- behind an entry above the key all entries are above it
pub above_rest : (es : List Entry) (i : ℕ) (x : Entry) (key : Key) → IsRising es → slice_get es i ≡ Some x
    → KeyBelow key (key_of x) → Each (λ f. KeyBelow key (key_of f)) (drop i es)
above_rest [] i x key rising e less = absurd (none-some x e)
above_rest (y ∷ es) zero x key rising e less =
    let here : KeyBelow key (key_of y) = subst (λ (z : Entry). KeyBelow key (key_of z)) (sym (same_Some _ _ e))
    less in (
      here,
      Each-map _ (λ f. KeyBelow key (key_of f)) es (λ f more. KeyBelow-trans key (key_of y) (key_of f) here more)
          rising.0,
    )
above_rest (y ∷ es) (suc i) x key rising e less = above_rest es i x key rising.1 e less

module _ {X : Type 0} where
  pub read-get : (xs : List X) (i : ℕ) (x : X) → i < length xs → x ≡ get_or xs i x → slice_get xs i ≡ Some x
  read-get [] i x l e = absurd (omega arith)
  read-get (y ∷ xs) zero x l e = ap Some (sym e)
  read-get (y ∷ xs) (suc i) x l e = read-get xs i x (omega arith) e

  pub get-read : (xs : List X) (i : ℕ) (x : X) → slice_get xs i ≡ Some x → get_or xs i x ≡ x
  get-read [] i x e = refl
  get-read (y ∷ xs) zero x e = same_Some _ _ e
  get-read (y ∷ xs) (suc i) x e = get-read xs i x e

module _ {X : Type 0} (P : X → Type 0) where
  pub Each-get : (xs : List X) (i : ℕ) (x : X) → Each P (take (suc i) xs) → slice_get xs i ≡ Some x → P x
  Each-get [] i x h e = absurd (none-some x e)
  Each-get (y ∷ xs) zero x h e = subst P (same_Some _ _ e) h.0
  Each-get (y ∷ xs) (suc i) x h e = Each-get xs i x h.1 e

  pub Each-at : (xs : List X) (i : ℕ) (x : X) → Each P xs → slice_get xs i ≡ Some x → P x
  Each-at [] i x h e = absurd (none-some x e)
  Each-at (y ∷ xs) zero x h e = subst P (same_Some _ _ e) h.0
  Each-at (y ∷ xs) (suc i) x h e = Each-at xs i x h.1 e

-- one entry more that lies above the last
pub rise-more : (es : List Entry) (i : ℕ) (a b : Entry) → IsRising (take (suc i) es) → slice_get es i ≡ Some a
    → slice_get es (suc i) ≡ Some b → KeyBelow (key_of a) (key_of b) → IsRising (take (suc (suc i)) es)
rise-more [] i a b h ea eb less = absurd (none-some a ea)
rise-more (x ∷ []) i a b h ea eb less = absurd (none-some b eb)
rise-more (x ∷ y ∷ es) zero a b h ea eb less =
    let first : x ≡ a = same_Some _ _ ea in
    let second : y ≡ b = same_Some _ _ eb in
    let P : Entry → Type 0 = λ z. KeyBelow (key_of z) (key_of y) in
    let Q : Entry → Type 0 = λ z. KeyBelow (key_of a) (key_of z) in
    ((subst P (sym first) (subst Q (sym second) less), tt), (tt, tt))
rise-more (x ∷ y ∷ es) (suc i) a b h ea eb less =
    let above : KeyBelow (key_of x) (key_of a) = Each-get (λ f. KeyBelow (key_of x) (key_of f)) (y ∷ es) i a h.0 ea in (
      Each-one_more (λ f. KeyBelow (key_of x) (key_of f)) (y ∷ es) (suc i) b h.0 eb
          (KeyBelow-trans (key_of x) (key_of a) (key_of b) above less),
      rise-more (y ∷ es) i a b h.1 ea eb less,
    )

pub rising-next : (es : List Entry) (i : ℕ) (a b : Entry) → IsRising es → slice_get es i ≡ Some a → slice_get es (suc i)
    ≡ Some b → KeyBelow (key_of a) (key_of b)
rising-next [] i a b h ea eb = absurd (none-some a ea)
rising-next (x ∷ es) zero a b h ea eb = subst (λ (z : Entry). KeyBelow (key_of z) (key_of b)) (same_Some _ _ ea)
    (Each-at (λ f. KeyBelow (key_of x) (key_of f)) es 0 b h.0 eb)
rising-next (x ∷ es) (suc i) a b h ea eb = rising-next es i a b h.1 ea eb
