-- Two different texts of bytes of one list with one digest: what every binding theorem leaves as the only way out.
use Rattle.std.specs.Prelude.{◌≡◌, ◌≢◌, ℕ, List, [], ◌∷◌, ◌++◌, ◌⊎◌, Option, Some, None, Bool, not, ◌&&◌, find}
use Rattle.std.specs.Option.{option_map_or}
use Rattle.std.specs.Str.{bytes_eq}
use Rattle.tw_base.specs.kinds.Bytes.{AreBytes}

abbrev pub Among : List ℕ → List (List ℕ) → Type 0
Among text [] = ⊥
Among text (first ∷ rest) = (text ≡ first) ⊎ Among text rest

-- every text of the first list is in the second
abbrev pub Within : List (List ℕ) → List (List ℕ) → Type 0
Within xs ys = (text : List ℕ) → Among text xs → Among text ys

-- two texts of the list, each of bytes, that differ and have one digest
pub record Clash (dig : List ℕ → List ℕ) (texts : List (List ℕ)) : Type 0 where
  pub one : List ℕ
  pub other : List ℕ
  pub has_one : Among one texts
  pub has_other : Among other texts
  pub one_bytes : AreBytes one
  pub other_bytes : AreBytes other
  pub differ : one ≢ other
  pub one_digest : dig one ≡ dig other

-- the fact holds, or two texts of the list clash
abbrev pub OrClash : (List ℕ → List ℕ) → List (List ℕ) → Type 0 → Type 0
OrClash dig texts P = P ⊎ Clash dig texts

-- ---- the ordered pair, which an extractor prints

pub record Pair : Type 0 where
  pub one : List ℕ
  pub other : List ℕ

module _ (dig : List ℕ → List ℕ) where
  -- the text clashes with an earlier one: they differ and have one digest
  abbrev pub clashes : (text earlier : List ℕ) → Bool
  clashes text earlier = bytes_eq (dig earlier) (dig text) && not (bytes_eq earlier text)

  -- over the texts before: the first text that clashes with an earlier one, and the earliest that it clashes with
  abbrev pub pair_after : (before : List (List ℕ)) → List (List ℕ) → Option Pair
  pair_after before [] = None
  pair_after before (text ∷ texts) =
      option_map_or (λ one. Some (record { one = one; other = text })) (find (clashes text) before) (pair_after (before ++ text ∷ []) texts)

  abbrev pub clash_pair : List (List ℕ) → Option Pair
  clash_pair texts = pair_after [] texts
