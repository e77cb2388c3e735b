-- The lines of a file, one by one.
use Rattle.std.proofs.Common.{◌≡◌, ℕ, zero, suc, eqb, false, ◌+◌, ◌<◌, ◌≤◌, List, [], ◌∷◌, length, take, refl, ap, ◌∙◌}
use Rattle.std.proofs.Common.{sym, arith, inl, inr, not}
use Rattle.std.specs.List.{slice_split, before_first, after_first, position_or_len}
use Rattle.std.proofs.Math.ListN.{drop_of_length-le}
use Rattle.std.proofs.Math.Seq.{take-length}
use Rattle.std.proofs.lemmas.Bool.{cases_lt}
use Rattle.std.proofs.lemmas.List.Splits.{slice_split_first, slice_split_none, length-slice_split}
use Rattle.std.proofs.lemmas.List.Sums.{prefix_len-le-length, fails_before_first}
use Rattle.tw_msg.specs.AnchorsFile.{lines, lines_of_parts, is_line_feed}

lines_of_parts-cons : (line : List ℕ) (parts : List (List ℕ)) → 0 < length parts → lines_of_parts (line ∷ parts) ≡ line
    ∷ lines_of_parts parts
lines_of_parts-cons line [] some = absurd (omega arith)
lines_of_parts-cons line (next ∷ more) some = refl

lines_of_parts-one : (line : List ℕ) → 0 < length line → lines_of_parts (line ∷ []) ≡ line ∷ []
lines_of_parts-one [] some = absurd (omega arith)
lines_of_parts-one (b ∷ line) some = refl

-- a file that is not empty has a first line, and then those of what follows its line feed
pub lines-first : (bytes : List ℕ) → 0 < length bytes →
    lines bytes ≡ before_first is_line_feed bytes ∷ lines (after_first is_line_feed bytes)
lines-first bytes some = elim (cases_lt (position_or_len is_line_feed bytes) (length bytes)) [
  | inl below ↦
      let after = after_first is_line_feed bytes in
      let parts : 0 < length (slice_split is_line_feed after) = omega (arith, length-slice_split is_line_feed after) in
      ap lines_of_parts (slice_split_first is_line_feed bytes 0 below)
      ∙ lines_of_parts-cons (before_first is_line_feed bytes) (slice_split is_line_feed after) parts
  | inr above ↦
      let place : position_or_len is_line_feed bytes ≡ length bytes =
      omega (arith, above, prefix_len-le-length (λ b. not (is_line_feed b)) bytes) in
      let none : slice_split is_line_feed bytes ≡ bytes ∷ [] =
      slice_split_none is_line_feed bytes (λ k d within. fails_before_first is_line_feed bytes k d
      (omega (arith, place, within))) in
      let all : before_first is_line_feed bytes ≡ bytes = ap (λ n. take n bytes) place ∙ take-length bytes in
      let past : length bytes ≤ position_or_len is_line_feed bytes + 1 = omega (arith, place) in
      let nothing : after_first is_line_feed bytes ≡ [] = drop_of_length-le bytes past in
      ap lines_of_parts none ∙ lines_of_parts-one bytes some
      ∙ sym (ap (λ line. line ∷ lines (after_first is_line_feed bytes)) all ∙ ap (λ after. bytes ∷ lines after) nothing)
]

-- an empty file has none
pub lines-empty : (bytes : List ℕ) → length bytes ≡ 0 → lines bytes ≡ []
lines-empty [] empty = refl
lines-empty (b ∷ bytes) empty = absurd (omega arith)

-- a file that is not empty has some byte
pub length-some : (n : ℕ) → eqb n 0 ≡ false → 0 < n
length-some zero some = absurd (cc)
length-some (suc n) some = omega arith
