-- The fields of equal texts are equal.
use Rattle.std.proofs.Common.{◌≡◌, ℕ, ◌<◌, ◌^◌, List, [], ◌∷◌, ◌++◌, length, get_or, take, drop, refl, ap, sym, ◌∙◌}
use Rattle.std.proofs.Common.{arith, Option, Some, None}
use Rattle.std.specs.Prelude.{IfSome}
use Rattle.std.proofs.lemmas.List.{take_at, drop_at}
use Rattle.std.proofs.lemmas.Nat.{from_be_bytes-to_be_bytes_4, from_be_bytes-to_be_bytes_8}
use Rattle.std.specs.Int.{w32, w64, to_be_bytes, from_be_bytes}
use Rattle.tw_base.specs.kinds.Digests.{AllDigests}
use Rattle.tw_base.specs.kinds.Texts.{joined, link_text, authenticator_text, datum_text, event_leaf_text}
use Rattle.tw_base.specs.kinds.Texts.{event_node_text, step_datum_text, timed_datum_text}

pub halves : (a b x y : List ℕ) → length a ≡ length b → a ++ x ≡ b ++ y → (a ≡ b) × (x ≡ y)
halves a b x y n e = (
  sym (take_at a x (length b) n) ∙ ap (take (length b)) e ∙ take_at b y (length b) refl,
  sym (drop_at a x (length b) n) ∙ ap (drop (length b)) e ∙ drop_at b y (length b) refl,
)

pub joined-fields : (xs ys : List (List ℕ)) → AllDigests xs → AllDigests ys → length xs ≡ length ys
    → joined xs ≡ joined ys → xs ≡ ys
joined-fields [] [] p q n e = refl
joined-fields [] (y ∷ ys) p q n e = absurd (omega arith)
joined-fields (x ∷ xs) [] p q n e = absurd (omega arith)
joined-fields (x ∷ xs) (y ∷ ys) p q n e =
    let parts = halves x y (joined xs) (joined ys) (p.0.0 ∙ sym q.0.0) e in
    let m : length xs ≡ length ys = omega arith in
    let rest = joined-fields xs ys p.1 q.1 m parts.1 in
    let head = parts.0 in
    cc

pub authenticator-fields : (i : ℕ) (xs ys : List (List ℕ)) → AllDigests xs → AllDigests ys → authenticator_text i xs
    ≡ authenticator_text i ys → xs ≡ ys
unfolding authenticator_text
authenticator-fields i xs ys p q e =
    joined-fields xs ys p q (ap (λ t. get_or t 9 0) e) (ap (drop 10) e)

pub link-fields : (i l : ℕ) (d d' b b' : List ℕ) → length d ≡ length d' → link_text i l d b ≡ link_text i l d' b'
    → (d ≡ d') × (b ≡ b')
unfolding link_text
link-fields i l d d' b b' n e = halves d d' b b' n (ap (drop 10) e)

pub record SameDatum (er ar : List ℕ) (c : ℕ) (t : Option ℕ) (er' ar' : List ℕ) (c' : ℕ) (t' : Option ℕ) : Type 0 where
  pub event_root : er ≡ er'
  pub archive_root : ar ≡ ar'
  pub count : c ≡ c'
  pub time : t ≡ t'

same-count : (c c' : ℕ) → c < 2 ^ 32 → c' < 2 ^ 32 → to_be_bytes w32 c ≡ to_be_bytes w32 c' → c ≡ c'
same-count c c' k k' e = sym (from_be_bytes-to_be_bytes_4 c k) ∙ ap (from_be_bytes w32) e ∙ from_be_bytes-to_be_bytes_4
    c' k'

module _ (er ar : List ℕ) (c : ℕ) (er' ar' : List ℕ) (c' : ℕ) (n : length er ≡ length er') (m : length ar ≡ length ar')
    (k : c < 2 ^ 32) (k' : c' < 2 ^ 32) where
  untimed-fields : datum_text er ar c ≡ datum_text er' ar' c' → SameDatum er ar c None er' ar' c' None
  unfolding datum_text
  untimed-fields e =
      let first = halves er er' (ar ++ to_be_bytes w32 c) (ar' ++ to_be_bytes w32 c') n (ap (drop 1) e) in
      let second = halves ar ar' (to_be_bytes w32 c) (to_be_bytes w32 c') m first.1 in
      record { event_root = first.0; archive_root = second.0; count = same-count c c' k k' second.1; time = refl }

  timed-fields : (t t' : ℕ) → t < 2 ^ 64 → t' < 2 ^ 64 → timed_datum_text er ar c t ≡ timed_datum_text er' ar' c' t'
      → SameDatum er ar c (Some t) er' ar' c' (Some t')
  unfolding timed_datum_text
  timed-fields t t' l l' e =
      let first = halves er er' (ar ++ (to_be_bytes w32 c ++ to_be_bytes w64 t))
      (ar' ++ (to_be_bytes w32 c' ++ to_be_bytes w64 t')) n (ap (drop 1) e) in
      let second = halves ar ar' (to_be_bytes w32 c ++ to_be_bytes w64 t) (to_be_bytes w32 c' ++ to_be_bytes w64 t') m
      first.1 in
      let third = halves (to_be_bytes w32 c) (to_be_bytes w32 c') (to_be_bytes w64 t) (to_be_bytes w64 t') refl
      second.1 in
      let same : t ≡ t' = sym (from_be_bytes-to_be_bytes_8 t l) ∙ ap (from_be_bytes w64) third.1
      ∙ from_be_bytes-to_be_bytes_8 t' l' in
      record {
        event_root = first.0;
        archive_root = second.0;
        count = same-count c c' k k' third.0;
        time = ap (λ (s : ℕ). Some s) same;
      }

  -- a text with a time is none without
  differ : (t : ℕ) → datum_text er ar c ≡ timed_datum_text er' ar' c' t → ⊥
  unfolding datum_text timed_datum_text
  differ t e = let no : 0x13 ≡ 0x16 = ap (λ text. get_or text 0 0) e in absurd (omega (arith, no))

  differ' : (t : ℕ) → timed_datum_text er ar c t ≡ datum_text er' ar' c' → ⊥
  unfolding datum_text timed_datum_text
  differ' t e = let no : 0x16 ≡ 0x13 = ap (λ text. get_or text 0 0) e in absurd (omega (arith, no))

  pub datum-fields : (t t' : Option ℕ) → IfSome t (λ s. s < 2 ^ 64) → IfSome t' (λ s. s < 2 ^ 64)
      → step_datum_text er ar c t ≡ step_datum_text er' ar' c' t' → SameDatum er ar c t er' ar' c' t'
  datum-fields None None l l' e = untimed-fields e
  datum-fields None (Some t') l l' e = absurd (differ t' e)
  datum-fields (Some t) None l l' e = absurd (differ' t e)
  datum-fields (Some t) (Some t') l l' e = timed-fields t t' l l' e

pub node-fields : (l r l' r' : List ℕ) → length l ≡ length l' → event_node_text l r ≡ event_node_text l' r'
    → (l ≡ l') × (r ≡ r')
unfolding event_node_text
node-fields l r l' r' n e = halves l l' r r' n (ap (drop 1) e)

pub leaf-fields : (x y : List ℕ) → event_leaf_text x ≡ event_leaf_text y → x ≡ y
unfolding event_leaf_text
leaf-fields x y e = ap (drop 1) e
