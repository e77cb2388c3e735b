-- A file of receipts has one list of them, or one place of its first bad byte, which more bytes behind it don't change.
use Rattle.std.proofs.Common.{◌≡◌, ◌⊎◌, ℕ, suc, zero, ◌+◌, ◌*◌, ◌<◌, ◌≤◌, List, [], ◌∷◌, ◌++◌, length, take, drop, refl}
use Rattle.std.proofs.Common.{sym, ◌∙◌, ap, subst, inl, inr, arith, append_assoc}
use Rattle.std.proofs.Math.Seq.{take-append_seam}
use Rattle.std.proofs.lemmas.Bool.{cases_lt}
use Rattle.std.proofs.lemmas.List.{append-nil, length-append, take-append-drop, take-append-le}
use Rattle.tw_base.specs.format.Formats.{IsFront, IsPlace, Spells, SpellsNothing}
use Rattle.tw_msg.specs.Receipts.{receipt_bytes, receipt_layout}
use Rattle.tw_msg.specs.declared.receipt.Receipt.{Receipt}
use Rattle.tw_atlas.specs.ReceiptFiles.{AreReceipts, GoesNoFurther, IsBadAt, IsFull, receipts_bytes}
use Rattle.tw_atlas.proofs.ReceiptLaws.{AreSpelled, empty-bytes, receipts-size, same-rest, word-size}

pub file-size : (most : ℕ) (bytes : List ℕ) (receipts : List Receipt) → AreReceipts most bytes receipts
    → length bytes ≡ 116 * length receipts
file-size most bytes receipts are =
    let size = receipts-size receipts are.begins.spelled in
    let all : length bytes ≡ length (receipts_bytes receipts ++ []) = ap (λ (bs : List ℕ). length bs)
    are.begins.split in
    omega (arith, size, all, length-append (receipts_bytes receipts) [])

-- two lists that begin the same bytes, where none is left of them
same-lists : (ones others : List Receipt) → AreSpelled ones → AreSpelled others → receipts_bytes ones ++ []
    ≡ receipts_bytes others ++ [] → ones ≡ others
same-lists [] [] p q e = refl
same-lists [] (s ∷ others) p q e =
    absurd (let none = empty-bytes (receipt_bytes s) (receipts_bytes others ++ []) (e ∙ append_assoc (receipt_bytes s)
    (receipts_bytes others) []) in let size = word-size s q.0 in omega (arith, none, size))
same-lists (r ∷ ones) [] p q e =
    absurd (let none = empty-bytes (receipt_bytes r) (receipts_bytes ones ++ []) (sym e ∙ append_assoc (receipt_bytes r)
    (receipts_bytes ones) []) in let size = word-size r p.0 in omega (arith, none, size))
same-lists (r ∷ ones) (s ∷ others) p q e =
    let both = same-rest r s (receipts_bytes ones ++ []) (receipts_bytes others ++ []) p.0 q.0
    (sym (append_assoc (receipt_bytes r) (receipts_bytes ones) []) ∙ e ∙ append_assoc (receipt_bytes s)
    (receipts_bytes others) []) in
    let rest = same-lists ones others p.1 q.1 both.0 in
    λ i. both.1 i ∷ rest i

pub one-list : (most more : ℕ) (bytes : List ℕ) (ones others : List Receipt) → AreReceipts most bytes ones
    → AreReceipts more bytes others → ones ≡ others
one-list most more bytes ones others p q = same-lists ones others p.begins.spelled q.begins.spelled
    (sym p.begins.split ∙ q.begins.split)

-- where reading stops
abbrev Stops : (most : ℕ) → List Receipt → List ℕ → ℕ → Type 0
Stops most receipts rest behind = IsFull most receipts rest behind ⊎ GoesNoFurther most receipts rest behind

-- behind fewer receipts than there may be, it stops where none goes on
none-there : (most : ℕ) (receipts : List Receipt) (rest : List ℕ) (behind : ℕ) → Stops most receipts rest behind
    → length receipts < most → (n : ℕ) → SpellsNothing receipt_layout (take n rest)
none-there most receipts rest behind (inl full) less = absurd (let all = full.all in omega (arith, all, less))
none-there most receipts rest behind (inr none) less = none.none

at-most : (most : ℕ) (receipts : List Receipt) (rest : List ℕ) (behind : ℕ) → Stops most receipts rest behind
    → length receipts ≤ most
at-most most receipts rest behind (inl full) = let all = full.all in omega (arith, all)
at-most most receipts rest behind (inr none) = let room = none.room in omega (arith, room)

goes-on-there : (s : Receipt) (others : List Receipt) (rest more : List ℕ) → Spells receipt_layout (receipt_bytes s) s
    → rest ≡ receipts_bytes (s ∷ others) ++ more
    → ((n : ℕ) → SpellsNothing receipt_layout (take n rest)) → ⊥
goes-on-there s others rest more spells e none =
    let whole : rest ≡ receipt_bytes s ++ (receipts_bytes others ++ more) = e ∙ append_assoc (receipt_bytes s)
    (receipts_bytes others) more in
    let front : take (length (receipt_bytes s)) rest ≡ receipt_bytes s = ap (take (length (receipt_bytes s))) whole
    ∙ take-append_seam (receipt_bytes s) (receipts_bytes others ++ more) in
    none (length (receipt_bytes s)) s (subst (λ (w : List ℕ). Spells receipt_layout w s) (sym front) spells)

same-place : (rest more : List ℕ) (p q : ℕ) → rest ≡ more → IsPlace receipt_layout rest p → IsPlace receipt_layout more
    q → p ≡ q
same-place rest more p q e one other =
    let other' = subst (λ (bs : List ℕ). IsPlace receipt_layout bs q) (sym e) other in
    let low = one.longest q other'.within other'.good in
    let high = other'.longest p one.within one.good in
    omega (arith, low, high)

-- two such beginnings are one; so many receipts were told before, in both
same-stops : (most done : ℕ) (ones others before after : List Receipt) (rest more : List ℕ) (p q : ℕ) → AreSpelled ones
    → AreSpelled others → receipts_bytes ones ++ rest ≡ receipts_bytes others ++ more
    → length before ≡ done + length ones → length after ≡ done + length others → Stops most before rest p
    → Stops most after more q
    → length (receipts_bytes ones) + p ≡ length (receipts_bytes others) + q
same-stops most done [] [] before after rest more p q one other e count tally (inl full) (inl whole) = let here =
    full.first in let there = whole.first in omega (arith, here, there)
same-stops most done [] [] before after rest more p q one other e count tally (inl full) (inr none) =
    absurd (let all = full.all in let room = none.room in omega (arith, all, room, count, tally))
same-stops most done [] [] before after rest more p q one other e count tally (inr none) (inl whole) =
    absurd (let all = whole.all in let room = none.room in omega (arith, all, room, count, tally))
same-stops most done [] [] before after rest more p q one other e count tally (inr none) (inr neither) = let same =
    same-place rest more p q e none.is_place neither.is_place in omega (arith, same)
same-stops most done [] (s ∷ others) before after rest more p q one other e count tally stop end =
    let less = at-most most after more q end in
    absurd (goes-on-there s others rest more other.0 e
    (none-there most before rest p stop (omega (arith, less, count, tally))))
same-stops most done (r ∷ ones) [] before after rest more p q one other e count tally stop end =
    let less = at-most most before rest p stop in
    absurd (goes-on-there r ones more rest one.0 (sym e)
    (none-there most after more q end (omega (arith, less, count, tally))))
same-stops most done (r ∷ ones) (s ∷ others) before after rest more p q one other e count tally stop end =
    let both = same-rest r s (receipts_bytes ones ++ rest) (receipts_bytes others ++ more) one.0 other.0
    (sym (append_assoc (receipt_bytes r) (receipts_bytes ones) rest) ∙ e ∙ append_assoc (receipt_bytes s)
    (receipts_bytes others) more) in
    let later = same-stops most (done + 1) ones others before after rest more p q one.1 other.1 both.0
    (omega (arith, count)) (omega (arith, tally)) stop end in
    let size = word-size r one.0 in let other-size = word-size s other.0 in
    omega (
      arith,
      later,
      size,
      other-size,
      length-append (receipt_bytes r) (receipts_bytes ones),
      length-append (receipt_bytes s) (receipts_bytes others),
    )

pub one-place : (most : ℕ) (bytes : List ℕ) (p q : ℕ) → IsBadAt most bytes p → IsBadAt most bytes q → p ≡ q
one-place most bytes p q one other =
    let same = same-stops most 0 one.receipts other.receipts one.receipts other.receipts one.rest other.rest one.behind
    other.behind one.begins.spelled other.begins.spelled
    (sym one.begins.split ∙ other.begins.split) (omega arith) (omega arith) one.bad other.bad in
    let first = one.place_is in let second = other.place_is in
    omega (arith, same, first, second)

-- ---- more bytes behind a bad one

front-part : (xs ys : List ℕ) → IsFront receipt_layout (xs ++ ys) → IsFront receipt_layout xs
front-part xs ys front = (
  ys ++ front.0,
  front.1,
  subst (λ (w : List ℕ). Spells receipt_layout w front.1) (append_assoc xs ys front.0) front.2,
)

-- the front of a longer word has this front of it
front-within : (bytes more : List ℕ) (n : ℕ) → length bytes ≤ n → IsFront receipt_layout (take n (bytes ++ more))
    → IsFront receipt_layout bytes
front-within bytes more n long front =
    let whole : List ℕ = take n (bytes ++ more) in
    let parts = subst (IsFront receipt_layout) (sym (take-append-drop (length bytes) whole)) front in
    let first : take (length bytes) whole ≡ bytes = take-shorter (bytes ++ more) (length bytes) n long
    ∙ take-append_seam bytes more in
    subst (IsFront receipt_layout) first (front-part (take (length bytes) whole) (drop (length bytes) whole) parts)
  where
    take-shorter : (bs : List ℕ) (m n : ℕ) → m ≤ n → take m (take n bs) ≡ take m bs
    take-shorter bs zero n order = refl
    take-shorter bs (suc m) zero order = absurd (omega (arith, order))
    take-shorter [] (suc m) (suc n) order = refl
    take-shorter (b ∷ bs) (suc m) (suc n) order = ap (λ (cs : List ℕ). b ∷ cs)
        (take-shorter bs m n (omega (arith, order)))

module _ (rest more : List ℕ) (behind : ℕ) (is_place : IsPlace receipt_layout rest behind)
    (early : behind < length rest) where
  no-longer : (n : ℕ) → IsFront receipt_layout (take n (rest ++ more)) → n ≤ behind
  no-longer n front = elim (cases_lt n (length rest)) [
    | inl less ↦ is_place.longest n (omega (arith, less))
        (subst (IsFront receipt_layout) (take-append-le n rest more (omega (arith, less))) front)
    | inr long ↦ absurd (
        let whole : take (length rest) rest ≡ rest = take-whole rest in
        let last = is_place.longest (length rest) (omega arith) (subst (IsFront receipt_layout) (sym whole)
        (front-within rest more n long front)) in
        omega (arith, last, early))
  ]
    where
      take-whole : (bs : List ℕ) → take (length bs) bs ≡ bs
      take-whole [] = refl
      take-whole (b ∷ bs) = ap (λ (cs : List ℕ). b ∷ cs) (take-whole bs)

  still-place : IsPlace receipt_layout (rest ++ more) behind
  still-place = record {
    within = omega (arith, length-append rest more, early);
    good = subst (IsFront receipt_layout) (sym (take-append-le behind rest more (omega (arith, early)))) is_place.good;
    longest = λ n within front. no-longer n front;
  }

  still-none : ((n : ℕ) → SpellsNothing receipt_layout (take n rest)) → (n : ℕ) → SpellsNothing receipt_layout
      (take n (rest ++ more))
  still-none none n r spells =
      let front : IsFront receipt_layout (take n (rest ++ more)) =
      ([], r, subst (λ (w : List ℕ). Spells receipt_layout w r) (sym (append-nil (take n (rest ++ more)))) spells) in
      let low = no-longer n front in
      none n r (subst (λ (w : List ℕ). Spells receipt_layout w r)
      (take-append-le n rest more (omega (arith, low, early))) spells)

pub bad-front : (most : ℕ) (front more : List ℕ) (place : ℕ) → IsBadAt most front place → place < length front
    → IsBadAt most (front ++ more) place
bad-front most front more place bad within = record {
  receipts = bad.receipts;
  rest = bad.rest ++ more;
  begins = record {
    split = ap (λ (bs : List ℕ). bs ++ more) bad.begins.split ∙ append_assoc (receipts_bytes bad.receipts) bad.rest
        more;
    spelled = bad.begins.spelled;
  };
  behind = bad.behind;
  bad = by bad.bad;
  place_is = bad.place_is;
}
  where
    early : bad.behind < length bad.rest
    early =
        let place-is = bad.place_is in
        let size : length front ≡ length (receipts_bytes bad.receipts ++ bad.rest) = ap (λ (bs : List ℕ). length bs)
        bad.begins.split in
        omega (arith, place-is, size, length-append (receipts_bytes bad.receipts) bad.rest, within)

    by : IsFull most bad.receipts bad.rest bad.behind ⊎ GoesNoFurther most bad.receipts bad.rest bad.behind
        → IsFull most bad.receipts (bad.rest ++ more) bad.behind ⊎ GoesNoFurther most bad.receipts (bad.rest ++ more)
        bad.behind
    by (inl full) =
        inl (record { all = full.all; more = omega (arith, length-append bad.rest more, early); first = full.first })
    by (inr none) = inr (record {
      room = none.room;
      more = omega (arith, length-append bad.rest more, early);
      none = still-none bad.rest more bad.behind none.is_place early none.none;
      is_place = still-place bad.rest more bad.behind none.is_place early;
    })
