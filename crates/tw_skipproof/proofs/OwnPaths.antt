-- A history's own openings and paths compute its authenticators.
use Rattle.std.proofs.Common.{◌≡◌, ℕ, suc, zero, ◌-◌, ◌<◌, ◌≤◌, ◌^◌, List, [], ◌∷◌, length, get_or, drop, refl}
use Rattle.std.proofs.Common.{ap, sym, ◌∙◌, lit<, arith}
use Rattle.std.specs.Prelude.{Bool, true, false, map, nat_le, remove}
use Rattle.std.proofs.Math.Nat.{one-le-pow}
use Rattle.std.proofs.lemmas.Bool.{leb-false, leb-true}
use Rattle.tw_base.specs.kinds.Texts.{authenticator_text, link_text, step_datum_text}
use Rattle.tw_base.specs.history.History.{History}
use Rattle.tw_base.specs.kinds.Levels.{top_level}
use Rattle.tw_base.specs.history.Auth.{auth, auths, datum_text_at, link_texts_at}
use Rattle.tw_base.proofs.lemmas.history.Auths.{auth-suc, auths-at, label-at, length-link_texts}
use Rattle.tw_skipproof.specs.declared.opening.Opening.{Opening}
use Rattle.tw_skipproof.specs.declared.path.Link.{Link}
use Rattle.tw_skipproof.specs.Openings.{IsOpeningAt, opening_auth, opening_datum_text, opening_link_text}
use Rattle.tw_skipproof.specs.Paths.{HasShape, climbed, hop, hop_level, with_label}
use Rattle.tw_skipproof.specs.HistoryProofs.{IsOpeningOf, IsPathOf, labels_at}
use Rattle.tw_skipproof.proofs.Hops.{hop-below, hop_level-le}

-- ---- lists

length-mapped : (f : List ℕ → List ℕ) (xs : List (List ℕ)) → length (map f xs) ≡ length xs
length-mapped f [] = refl
length-mapped f (x ∷ xs) = ap suc (length-mapped f xs)

first_and_rest : (xs : List (List ℕ)) → 0 < length xs → xs ≡ get_or xs 0 [] ∷ drop 1 xs
first_and_rest [] l = absurd (omega arith)
first_and_rest (x ∷ xs) l = refl

length-rest : (xs : List (List ℕ)) (n : ℕ) → length xs ≡ suc n → length (drop 1 xs) ≡ n
length-rest [] n e = absurd (omega (arith, e))
length-rest (x ∷ xs) n e = omega (arith, e)

length-removed : (xs : List (List ℕ)) (i n : ℕ) → length xs ≡ suc n → i ≤ n → length (remove xs i) ≡ n
length-removed [] i n e l = absurd (omega (arith, e))
length-removed (x ∷ xs) zero n e l = omega (arith, e)
length-removed (x ∷ xs) (suc i) zero e l = absurd (omega (arith, l))
length-removed (x ∷ xs) (suc i) (suc n) e l = ap suc (length-removed xs i n (omega (arith, e)) (omega (arith, l)))

-- an element put back where it was removed
with_label-removed : (xs : List (List ℕ)) (i : ℕ) → i < length xs → with_label (remove xs i) i (get_or xs i []) ≡ xs
with_label-removed [] i l = absurd (omega arith)
with_label-removed (x ∷ xs) zero l = refl
with_label-removed (x ∷ xs) (suc i) l = ap (λ ys. x ∷ ys) (with_label-removed xs i (omega arith))

module _ (dig : List ℕ → List ℕ) (h : History) where
  -- the labels of step i + 1, over the authenticators of the steps to i
  abbrev own_labels : ℕ → List (List ℕ)
  own_labels i = map dig (link_texts_at dig h (auths dig h i) (suc i))

  labels_at-is : (i : ℕ) → labels_at dig h (suc i) ≡ own_labels i
  labels_at-is i = ap (λ n. map dig (link_texts_at dig h (auths dig h n) (suc i))) (let e : suc i - 1 ≡ i =
      omega arith in e)

  length-own_labels : (i : ℕ) → length (own_labels i) ≡ suc (top_level (suc i))
  length-own_labels i = length-mapped dig _ ∙ length-link_texts dig _ _ (suc i) (suc (top_level (suc i)))

  -- a label of the step, and the authenticator that it leads to
  own_label : (i level : ℕ) (datum below : List ℕ) → level ≤ top_level (suc i)
      → datum ≡ dig (datum_text_at dig h (suc i)) → below ≡ auth dig h (suc i - 2 ^ level)
      → dig (link_text (suc i) level datum below) ≡ get_or (own_labels i) level []
  own_label i level datum below l datum_is below_is =
      let some : 1 ≤ 2 ^ level = one-le-pow level 2 (lit< tt) in
      (λ k. dig (link_text (suc i) level (datum_is k)
      ((below_is ∙ sym (auths-at dig h i (suc i - 2 ^ level) (omega arith))) k)))
      ∙ sym (label-at dig (dig (datum_text_at dig h (suc i))) (auths dig h i) (suc i) level (suc (top_level (suc i)))
      (omega arith))

  opening-of_next : (i : ℕ) (o : Opening) → IsOpeningOf dig h (suc i) o → IsOpeningAt (suc i) o
      × (opening_auth dig (suc i) o ≡ auth dig h (suc i))
  unfolding opening_auth datum_text_at
  opening-of_next i o is =
      let others : o.others ≡ drop 1 (own_labels i) = is.others ∙ ap (drop 1) (labels_at-is i) in
      let datum : dig (opening_datum_text dig (suc i) o) ≡ dig (datum_text_at dig h (suc i)) =
      (λ k. dig (step_datum_text (sym is.binds.event_root k) (sym is.binds.archive_root k) (sym is.binds.count k)
      (sym is.binds.time k))) in
      let before : o.prev ≡ auth dig h (suc i - 2 ^ 0) = sym is.binds.prev in
      let first : dig (opening_link_text dig (suc i) o) ≡ get_or (own_labels i) 0 [] = own_label i 0 _ _ (omega arith)
      datum before in
      let all : dig (opening_link_text dig (suc i) o) ∷ o.others ≡ own_labels i =
      (λ k. first k ∷ others k) ∙ sym (first_and_rest (own_labels i) (omega (arith, length-own_labels i))) in (
        (omega arith, ap length others ∙ length-rest (own_labels i) (top_level (suc i)) (length-own_labels i)),
        ap (λ ls. dig (authenticator_text (suc i) ls)) all ∙ sym (auth-suc dig h i),
      )

  -- an opening of a history's step computes the step's authenticator
  pub opening-of : (step : ℕ) (o : Opening) → 0 < step → IsOpeningOf dig h step o → IsOpeningAt step o
      × (opening_auth dig step o ≡ auth dig h step)
  opening-of zero o p is = absurd (omega arith)
  opening-of (suc i) o p is = opening-of_next i o is

  -- a path of a history leads from the authenticator of its lower step to that of the upper one
  pub path-of : (links : List Link) (from to : ℕ) → to ≤ from → IsPathOf dig h links from to
      → HasShape links from to × (climbed dig links from to (auth dig h to) ≡ auth dig h from)
  unfolding climbed
  path-of [] from to order is = (is, ap (auth dig h) (let same : to ≡ from = omega (arith, order, is) in same))
  path-of (link ∷ links) zero to order is = absurd (omega (arith, is.0))
  path-of (link ∷ links) (suc i) to order is =
      let level : ℕ = hop_level (suc i) to in
      let fits : level ≤ top_level (suc i) = hop_level-le (suc i) to in
      let sized = length-own_labels i in
      let rest = path-of links (hop (suc i) to) to (hop-below (suc i) to is.0) is.3 in
      let others : link.others ≡ remove (own_labels i) level = is.2 ∙ ap (λ ls. remove ls level) (labels_at-is i) in
      let label : dig (link_text (suc i) level link.datum (climbed dig links (hop (suc i) to) to (auth dig h to)))
      ≡ get_or (own_labels i) level [] =
      own_label i level _ _ fits is.1 rest.1 in
      let count : length link.others ≡ top_level (suc i) = ap length others ∙ length-removed (own_labels i) level
      (top_level (suc i)) sized fits in (
        (is.0, count, rest.0),
        (λ k. dig (authenticator_text (suc i) (with_label (others k) level (label k))))
            ∙ ap (λ ls. dig (authenticator_text (suc i) ls)) (with_label-removed (own_labels i) level
            (omega (arith, fits, sized))) ∙ sym (auth-suc dig h i),
      )

  -- ---- a path that is made link by link, from the upper step downwards

  -- ---- there is a path down to each step

  abbrev pub HasPath : (from to : ℕ) → Type 0
  HasPath from to = (links : List Link) × IsPathOf dig h links from to

  -- each link leads a step or more down, and not below the lower step
  path-within : (most from to : ℕ) → from ≤ most → to ≤ from → HasPath from to
  path-within zero from to few order = ([], omega (arith, few))
  path-within (suc most) from to few order =
      let some : 1 ≤ 2 ^ hop_level from to = one-le-pow (hop_level from to) 2 (lit< tt) in
      by (nat_le from to) refl (λ below. path-within most (hop from to) to (omega (arith, few, below, some))
      (hop-below from to below))
    where
      by : (end : Bool) → nat_le from to ≡ end → (to < from → HasPath (hop from to) to) → HasPath from to
      by true is onward = ([], leb-true from to is)
      by false is onward =
          let below : to < from = leb-false from to is in
          let rest = onward below in
          let link : Link =
          record { datum = dig (datum_text_at dig h from); others = remove (labels_at dig h from) (hop_level from to) }
          in
          (link ∷ rest.0, (below, refl, refl, rest.1))

  pub path-made : (from to : ℕ) → to ≤ from → HasPath from to
  path-made from to order = path-within from from to (omega arith) order
