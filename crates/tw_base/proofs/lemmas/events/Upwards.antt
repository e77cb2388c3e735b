-- Going up a path: its highest label last.
use Rattle.std.proofs.Common.{◌≡◌, ℕ, suc, zero, List, [], ◌∷◌, ◌++◌, length, refl, ap, arith}
use Rattle.tw_base.specs.declared.events.side.Side.{Side}
use Rattle.tw_base.specs.kinds.Bytes.{HasBytes}
use Rattle.tw_base.specs.kinds.Digests.{AllDigests}
use Rattle.tw_base.specs.events.AuditPath.{node_text_beside, node_texts_above, root_above}

-- a list that isn't empty by its last element
pub record HasLast (path : List (List ℕ)) (n : ℕ) : Type 0 where
  pub front : List (List ℕ)
  pub last : List ℕ
  pub whole : path ≡ front ++ last ∷ []
  pub size : length front ≡ n

pub has_last : (path : List (List ℕ)) (n : ℕ) → length path ≡ suc n → HasLast path n
has_last [] n e = absurd (omega arith)
has_last (x ∷ []) n e = record { front = []; last = x; whole = refl; size = omega arith }
has_last (x ∷ y ∷ path) zero e = absurd (omega arith)
has_last (x ∷ y ∷ path) (suc n) e =
    let rest = has_last (y ∷ path) n (omega arith) in
    let size : length rest.front ≡ n = rest.size in
    record { front = x ∷ rest.front; last = rest.last; whole = ap (λ p. x ∷ p) rest.whole; size = omega arith }

pub AllDigests-front : (front : List (List ℕ)) (last : List ℕ) → AllDigests (front ++ last ∷ []) → AllDigests front
    × HasBytes 32 last
AllDigests-front [] last sizes = (tt, sizes.0)
AllDigests-front (x ∷ front) last sizes = let rest = AllDigests-front front last sizes.1 in ((sizes.0, rest.0), rest.1)

module _ (dig : List ℕ → List ℕ) where
  pub root_above-last : (sides : List Side) (side : Side) (path : List (List ℕ)) (label reached : List ℕ)
      → length sides ≡ length path
      → root_above dig (sides ++ side ∷ []) (path ++ label ∷ []) reached ≡ dig
      (node_text_beside side label (root_above dig sides path reached))
  unfolding root_above
  root_above-last [] side [] label reached n = refl
  root_above-last [] side (l ∷ path) label reached n = absurd (omega arith)
  root_above-last (s ∷ sides) side [] label reached n = absurd (omega arith)
  root_above-last (s ∷ sides) side (l ∷ path) label reached n = root_above-last sides side path label
      (dig (node_text_beside s l reached)) (omega arith)

  pub node_texts_above-last : (sides : List Side) (side : Side) (path : List (List ℕ)) (label reached : List ℕ)
      → length sides ≡ length path
      → node_texts_above dig (sides ++ side ∷ []) (path ++ label ∷ []) reached
      ≡ node_texts_above dig sides path reached ++ node_text_beside side label (root_above dig sides path reached) ∷ []
  unfolding root_above node_texts_above
  node_texts_above-last [] side [] label reached n = refl
  node_texts_above-last [] side (l ∷ path) label reached n = absurd (omega arith)
  node_texts_above-last (s ∷ sides) side [] label reached n = absurd (omega arith)
  node_texts_above-last (s ∷ sides) side (l ∷ path) label reached n =
      ap (λ ts. node_text_beside s l reached ∷ ts) (node_texts_above-last sides side path label
      (dig (node_text_beside s l reached)) (omega arith))

  pub root_above-none : (path : List (List ℕ)) (reached : List ℕ) → root_above dig [] path reached ≡ reached
  unfolding root_above
  root_above-none path reached = refl

  pub root_above-no_label : (side : Side) (sides : List Side) (reached : List ℕ) → root_above dig (side ∷ sides) []
      reached ≡ reached
  unfolding root_above
  root_above-no_label side sides reached = refl

  pub length-root_above : (size : (text : List ℕ) → length (dig text) ≡ 32) (sides : List Side) (path : List (List ℕ))
      (reached : List ℕ)
      → length reached ≡ 32 → length (root_above dig sides path reached) ≡ 32
  unfolding root_above
  length-root_above size [] path reached n = n
  length-root_above size (s ∷ sides) [] reached n = n
  length-root_above size (s ∷ sides) (l ∷ path) reached n = length-root_above size sides path
      (dig (node_text_beside s l reached)) (size _)
