-- The red-black law.
use Rattle.std.proofs.Common.{◌≡◌, ℕ, ◌+◌, ◌-◌, ◌*◌, ◌^◌, ◌≤◌, Bool, true, false, cond, refl, sym, ap, ◌∙◌, subst, ◌⊎◌}
use Rattle.std.proofs.Common.{inl, inr, arith, max, nat_le}
use Rattle.std.proofs.Math.Nat.{max-le, pow-le-pow_right}
use Rattle.std.proofs.lemmas.Nat.{pow-add}
use Rattle.tw_rbnode.specs.Shape.{Shape, Empty, Node, size, is_red, blacken, IsEven, IsRedBlack, recoloured, outer_left}
use Rattle.tw_rbnode.specs.Shape.{inner_left, over_red_left, over_left, join_left, outer_right, inner_right}
use Rattle.tw_rbnode.specs.Shape.{over_red_right, over_right, join_right, grown_shape, insert, depth}

-- one more for a red root
abbrev pub one_if : Bool → ℕ
one_if true = 1
one_if false = 0

one_if_le : (b : Bool) → one_if b ≤ 1
one_if_le true = omega arith
one_if_le false = omega arith

pub depth_bound : (h : ℕ) (t : Shape) → IsEven h t → depth t ≤ 2 * h + one_if (is_red t)
depth_bound h Empty e = omega arith
depth_bound h (Node true l r) e =
    let left : depth l ≤ 2 * h + 0 = rw (← ap one_if e.0) (depth_bound h l e.2) in
    let right : depth r ≤ 2 * h + 0 = rw (← ap one_if e.1) (depth_bound h r e.3) in
    let both : max (depth l) (depth r) ≤ 2 * h + 0 = max-le left right in
    omega arith
depth_bound h (Node false l r) e =
    let left : depth l ≤ 2 * e.0 + one_if (is_red l) = depth_bound e.0 l e.2 in
    let right : depth r ≤ 2 * e.0 + one_if (is_red r) = depth_bound e.0 r e.3 in
    let left_one : one_if (is_red l) ≤ 1 = one_if_le (is_red l) in
    let right_one : one_if (is_red r) ≤ 1 = one_if_le (is_red r) in
    let above : h ≡ e.0 + 1 = e.1 in
    let both : max (depth l) (depth r) ≤ 2 * e.0 + 1 = max-le (omega arith) (omega arith) in
    omega arith

-- as after a node was added: a red root may have one red child
abbrev pub IsAlmost : ℕ → Shape → Type 0
IsAlmost h Empty = h ≡ 0
IsAlmost h (Node true l r) = ((is_red l ≡ false) ⊎ (is_red r ≡ false)) × IsEven h l × IsEven h r
IsAlmost h (Node false l r) = (k : ℕ) × (h ≡ k + 1) × IsEven k l × IsEven k r

even_almost : (h : ℕ) (t : Shape) → IsEven h t → IsAlmost h t
even_almost h Empty e = e
even_almost h (Node true l r) e = (inl e.0, e.2, e.3)
even_almost h (Node false l r) e = e

inner_left_even : (k : ℕ) (a m r : Shape) → is_red a ≡ false → IsEven k a → IsEven k m → IsEven k r →
    IsEven (k + 1) (cond (is_red m) (cond (is_red r) (recoloured (Node true a m) r) (inner_left a m r))
    (Node false (Node true a m) r))
inner_left_even k a Empty r ab ea em er = (k, refl, (ab, refl, ea, em), er)
inner_left_even k a (Node false b c) r ab ea em er = (k, refl, (ab, refl, ea, em), er)
inner_left_even k a (Node true b c) Empty ab ea em er = (k, refl, (ab, em.0, ea, em.2), (em.1, refl, em.3, er))
inner_left_even k a (Node true b c) (Node false u v) ab ea em er =
    (k, refl, (ab, em.0, ea, em.2), (em.1, refl, em.3, er))
inner_left_even k a (Node true b c) (Node true u v) ab ea em er = (refl, refl, (k, refl, ea, em), (k, refl, er.2, er.3))

black_other : (m : Shape) → (◌≡◌ {A = Bool} true false) ⊎ (is_red m ≡ false) → is_red m ≡ false
black_other m (inl e) = absurd (let clash : true ≡ false = e in cc)
black_other m (inr e) = e

over_red_left_even : (k : ℕ) (a m r : Shape) → (is_red a ≡ false) ⊎ (is_red m ≡ false) → IsEven k a → IsEven k m
    → IsEven k r → IsEven (k + 1) (over_red_left a m r)
over_red_left_even k Empty m r one ea em er = inner_left_even k Empty m r refl ea em er
over_red_left_even k (Node false x y) m r one ea em er = inner_left_even k (Node false x y) m r refl ea em er
over_red_left_even k (Node true x y) m Empty one ea em er =
    (k, refl, (ea.0, ea.1, ea.2, ea.3), (black_other m one, refl, em, er))
over_red_left_even k (Node true x y) m (Node false u v) one ea em er =
    (k, refl, (ea.0, ea.1, ea.2, ea.3), (black_other m one, refl, em, er))
over_red_left_even k (Node true x y) m (Node true u v) one ea em er =
    (refl, refl, (k, refl, ea, em), (k, refl, er.2, er.3))

over_left_even : (k : ℕ) (l r : Shape) → IsAlmost k l → IsEven k r → IsEven (k + 1) (over_left l r)
over_left_even k Empty r a er = (k, refl, a, er)
over_left_even k (Node false x y) r a er = (k, refl, a, er)
over_left_even k (Node true x y) r a er = over_red_left_even k x y r a.0 a.1 a.2 er

inner_right_even : (k : ℕ) (l m d : Shape) → is_red d ≡ false → IsEven k l → IsEven k m → IsEven k d →
    IsEven (k + 1) (cond (is_red m) (cond (is_red l) (recoloured l (Node true m d)) (inner_right l m d))
    (Node false l (Node true m d)))
inner_right_even k l Empty d db el em ed = (k, refl, el, (refl, db, em, ed))
inner_right_even k l (Node false b c) d db el em ed = (k, refl, el, (refl, db, em, ed))
inner_right_even k Empty (Node true b c) d db el em ed = (k, refl, (refl, em.0, el, em.2), (em.1, db, em.3, ed))
inner_right_even k (Node false u v) (Node true b c) d db el em ed =
    (k, refl, (refl, em.0, el, em.2), (em.1, db, em.3, ed))
inner_right_even k (Node true u v) (Node true b c) d db el em ed =
    (refl, refl, (k, refl, el.2, el.3), (k, refl, em, ed))

black_one : (m : Shape) → (is_red m ≡ false) ⊎ (◌≡◌ {A = Bool} true false) → is_red m ≡ false
black_one m (inr e) = absurd (let clash : true ≡ false = e in cc)
black_one m (inl e) = e

over_red_right_even : (k : ℕ) (l m d : Shape) → (is_red m ≡ false) ⊎ (is_red d ≡ false) → IsEven k l → IsEven k m
    → IsEven k d → IsEven (k + 1) (over_red_right l m d)
over_red_right_even k l m Empty one el em ed = inner_right_even k l m Empty refl el em ed
over_red_right_even k l m (Node false x y) one el em ed = inner_right_even k l m (Node false x y) refl el em ed
over_red_right_even k Empty m (Node true x y) one el em ed =
    (k, refl, (refl, black_one m one, el, em), (ed.0, ed.1, ed.2, ed.3))
over_red_right_even k (Node false u v) m (Node true x y) one el em ed =
    (k, refl, (refl, black_one m one, el, em), (ed.0, ed.1, ed.2, ed.3))
over_red_right_even k (Node true u v) m (Node true x y) one el em ed =
    (refl, refl, (k, refl, el.2, el.3), (k, refl, em, ed))

over_right_even : (k : ℕ) (l r : Shape) → IsEven k l → IsAlmost k r → IsEven (k + 1) (over_right l r)
over_right_even k l Empty el a = (k, refl, el, a)
over_right_even k l (Node false x y) el a = (k, refl, el, a)
over_right_even k l (Node true x y) el a = over_red_right_even k l x y a.0 el a.1 a.2

-- a node more keeps the number of black nodes, and below a black node all of the law
pub grown_even : (h p : ℕ) (t : Shape) → IsEven h t → (is_red t ≡ false → IsEven h (grown_shape p t)) × IsAlmost h
    (grown_shape p t)
grown_even h p Empty e = (λ _. (refl, refl, e, e), (inl refl, e, e))
grown_even h p (Node true l r) e =
    let left = grown_even h p l e.2 in
    let right = grown_even h (p - (size l + 1)) r e.3 in
    let cases : (b : Bool)
    → IsAlmost h (cond b (Node true (grown_shape p l) r) (Node true l (grown_shape (p - (size l + 1)) r))) =
    elim [ true ↦ (inr e.1, left.0 e.0, e.3) | false ↦ (inl e.0, e.2, right.0 e.1) ]
    in (λ x. absurd (let clash : true ≡ false = x in cc), cases (nat_le p (size l)))
grown_even h p (Node false l r) e =
    let left = grown_even e.0 p l e.2 in
    let right = grown_even e.0 (p - (size l + 1)) r e.3 in
    let cases : (b : Bool)
    → IsEven (e.0 + 1) (cond b (over_left (grown_shape p l) r) (over_right l (grown_shape (p - (size l + 1)) r))) =
    elim [
      | true ↦ over_left_even e.0 (grown_shape p l) r left.1 e.3
      | false ↦ over_right_even e.0 l (grown_shape (p - (size l + 1)) r) e.2 right.1
    ]
    in
    let P : ℕ → Type 0 = λ n. IsEven n (grown_shape p (Node false l r)) in
    let even : IsEven h (grown_shape p (Node false l r)) = subst P (sym e.1) (cases (nat_le p (size l))) in
    (λ _. even, even_almost h (grown_shape p (Node false l r)) even)

blacken_lawful : (h : ℕ) (t : Shape) → IsAlmost h t → IsRedBlack (blacken t)
blacken_lawful h Empty e = (refl, h, e)
blacken_lawful h (Node true l r) e = (refl, h + 1, (h, refl, e.1, e.2))
blacken_lawful h (Node false l r) e = (refl, h, e)

pub insert_lawful : (p : ℕ) (t : Shape) → IsRedBlack t → IsRedBlack (insert p t)
insert_lawful p t law = blacken_lawful law.1 (grown_shape p t) (grown_even law.1 p t law.2).1

size_blacken : (t : Shape) → size (blacken t) ≡ size t
size_blacken Empty = refl
size_blacken (Node red l r) = refl

size_outer_left : (a m r : Shape) → size (outer_left a m r) ≡ size a + 1 + size m + 1 + size r
size_outer_left Empty m r = omega arith
size_outer_left (Node red a b) m r = omega arith

size_inner_left : (a m r : Shape) → size (inner_left a m r) ≡ size a + 1 + size m + 1 + size r
size_inner_left a Empty r = omega arith
size_inner_left a (Node red b c) r = omega arith

size_outer_right : (l m d : Shape) → size (outer_right l m d) ≡ size l + 1 + size m + 1 + size d
size_outer_right l m Empty = omega arith
size_outer_right l m (Node red b c) = omega arith

size_inner_right : (l m d : Shape) → size (inner_right l m d) ≡ size l + 1 + size m + 1 + size d
size_inner_right l Empty d = omega arith
size_inner_right l (Node red b c) d = omega arith

pub size_recoloured : (l r : Shape) → size (recoloured l r) ≡ size l + 1 + size r
size_recoloured l r = omega (arith, size_blacken l, size_blacken r)

-- a choice of trees that all have this size
chosen_size : (n : ℕ) (x y z : Bool) (recolour outer inner kept : Shape) → size recolour ≡ n → size outer ≡ n
    → size inner ≡ n → size kept ≡ n →
    size (cond x (cond y recolour outer) (cond z (cond y recolour inner) kept)) ≡ n
chosen_size n true true z recolour outer inner kept er eo ei ek = er
chosen_size n true false z recolour outer inner kept er eo ei ek = eo
chosen_size n false true true recolour outer inner kept er eo ei ek = er
chosen_size n false false true recolour outer inner kept er eo ei ek = ei
chosen_size n false y false recolour outer inner kept er eo ei ek = ek

size_over_left : (l r : Shape) → size (over_left l r) ≡ size l + 1 + size r
size_over_left Empty r = refl
size_over_left (Node false a m) r = refl
size_over_left (Node true a m) r = chosen_size (size a + 1 + size m + 1 + size r) (is_red a) (is_red r) (is_red m) _ _
    _ _
    (omega (arith, size_recoloured (Node true a m) r)) (size_outer_left a m r) (size_inner_left a m r) (omega arith)

size_over_right : (l r : Shape) → size (over_right l r) ≡ size l + 1 + size r
size_over_right l Empty = refl
size_over_right l (Node false m d) = refl
size_over_right l (Node true m d) = chosen_size (size l + 1 + (size m + 1 + size d)) (is_red d) (is_red l) (is_red m) _
    _ _ _
    (omega (arith, size_recoloured l (Node true m d))) (omega (arith, size_outer_right l m d))
    (omega (arith, size_inner_right l m d)) (omega arith)

pub size_join_left : (red : Bool) (l r : Shape) → size (join_left red l r) ≡ size l + 1 + size r
size_join_left true l r = refl
size_join_left false l r = size_over_left l r

pub size_join_right : (red : Bool) (l r : Shape) → size (join_right red l r) ≡ size l + 1 + size r
size_join_right true l r = refl
size_join_right false l r = size_over_right l r

pub size_grown : (p : ℕ) (t : Shape) → size (grown_shape p t) ≡ size t + 1
size_grown p Empty = omega arith
size_grown p (Node red l r) =
    let left = size_join_left red (grown_shape p l) r in
    let right = size_join_right red l (grown_shape (p - (size l + 1)) r) in
    let left_one = size_grown p l in
    let right_one = size_grown (p - (size l + 1)) r in
    let cases : (b : Bool) → size (cond b (join_left red (grown_shape p l) r)
    (join_right red l (grown_shape (p - (size l + 1)) r))) ≡ size l + 1 + size r + 1 =
    elim [ true ↦ omega (arith, left, left_one) | false ↦ omega (arith, right, right_one) ]
    in cases (nat_le p (size l))

pub size_insert : (p : ℕ) (t : Shape) → size (insert p t) ≡ size t + 1
size_insert p t = size_blacken (grown_shape p t) ∙ size_grown p t

-- black nodes make for many nodes
black_size : (h : ℕ) (t : Shape) → IsEven h t → 2 ^ h ≤ size t + 1
black_size h Empty e = let P : ℕ → Type 0 = λ n. 2 ^ n ≤ 0 + 1 in subst P (sym e) (omega arith)
black_size h (Node true l r) e = omega (arith, black_size h l e.2)
black_size h (Node false l r) e =
    let P : ℕ → Type 0 = λ n. 2 ^ n ≤ size l + 1 + size r + 1 in
    subst P (sym e.1) (omega (arith, pow-add 2 e.0 1, black_size e.0 l e.2, black_size e.0 r e.3))

low_height : (h : ℕ) → 2 ^ h ≤ 25 → h ≤ 4
low_height h few =
    let cases : (h ≤ 4) ⊎ (5 ≤ h) = grind arith in
    elim cases [
      | inl low ↦ low
      | inr high ↦ absurd (let five : 2 ^ 5 ≤ 2 ^ h = pow-le-pow_right (omega arith) high in omega arith)
    ]

-- 24 keys allow four black nodes on a way, and so eight nodes
pub depth_at_most : (t : Shape) → IsRedBlack t → size t ≤ 24 → depth t ≤ 8
depth_at_most t law few =
    let h = law.1 in
    let many : 2 ^ h ≤ size t + 1 = black_size h t law.2 in
    let low : h ≤ 4 = low_height h (omega arith) in
    let bound : depth t ≤ 2 * h + one_if (is_red t) = depth_bound h t law.2 in
    let black : one_if (is_red t) ≡ 0 = ap one_if law.0 in
    omega arith
