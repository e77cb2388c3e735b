-- What holds of a file in memory, whatever its calls were. These lemmas stand in specs/ since the laws of an impl cite them.
use Rattle.std.specs.Prelude.{◌≡◌, ℕ, ◌≤◌, List, [], ◌∷◌, length, Some}
use Rattle.std.proofs.Common.{◌+◌, ◌-◌, ◌++◌, min, take, drop, slice_index, refl, ap, sym, ◌∙◌, subst, arith}
use Rattle.std.proofs.Math.Seq.{take-length}
use Rattle.std.proofs.lemmas.List.{take_all, length-append, length-take, length-drop, get_or_append_left, get_or-append_right, get_or-take, get_or-drop}
use Rattle.tw_hostio.specs.FileBytes.{put_bytes, TornBytes}
use Rattle.tw_hostio.specs.FileSteps.{TornOf, written_after, LeftAfter, LeftOf, LeftSince}
use Rattle.tw_hostio.specs.declared.file_step.FileStep.{FileStep}
use Rattle.tw_hostio.specs.declared.file_step.FileStep.TheVariants.{Wrote, Synced}

-- a write leaves the other bytes
pub TornBytes-put : (at : ℕ) (bytes file : List ℕ) → TornBytes at (length bytes) file (put_bytes at bytes file)
unfolding put_bytes
TornBytes-put at bytes file =
    let front : length (take at file) ≡ min at (length file) = length-take at file in
    let size : length (take at file ++ (bytes ++ drop (at + length bytes) file)) ≡ min at (length file) + (length bytes + (length file - (at + length bytes))) =
    omega (arith, front, length-append (take at file) (bytes ++ drop (at + length bytes) file), length-append bytes (drop (at + length bytes) file), length-drop (at + length bytes) file) in
    record {
      no_shorter = omega (arith, size);
      no_longer = omega (arith, size);
      below = λ k within low. get_or_append_left (take at file) _ 0 k (omega (arith, front)) ∙ get_or-take at file k 0 low;
      above = λ k within high.
          let back : at + length bytes + (k - at - length bytes) ≡ k = omega arith in
          get_or-append_right (take at file) (bytes ++ drop (at + length bytes) file) at k 0 (omega (arith, front)) (omega arith)
          ∙ get_or-append_right bytes (drop (at + length bytes) file) (length bytes) (k - at) 0 refl (omega arith)
          ∙ get_or-drop (at + length bytes) file (k - at - length bytes) 0 ∙ ap (slice_index file) back;
    }

reads_from : (bytes : List ℕ) (outcomes : List ℕ → Type 0) (steps : List FileStep) → outcomes bytes → LeftAfter bytes outcomes steps (written_after bytes steps)
reads_from bytes outcomes [] left = left
reads_from bytes outcomes (Wrote at piece ∷ steps) left =
    reads_from (put_bytes at piece.items bytes) (TornOf outcomes at (length piece.items)) steps (record { before = bytes; was = left; torn = TornBytes-put at piece.items bytes })
reads_from bytes outcomes (Synced ∷ steps) left = reads_from bytes (λ c. c ≡ bytes) steps refl

-- the bytes as they read are an outcome
pub left_as_read : (first now : List ℕ) (steps : List FileStep) (bytes : List ℕ) → now ≡ written_after first steps → Some now ≡ Some bytes → LeftOf first steps bytes
left_as_read first now steps bytes are is =
    let same : written_after first steps ≡ bytes = cc in
    subst (λ (c : List ℕ). LeftOf first steps c) same (reads_from first (λ c. c ≡ first) steps refl)

-- this moment is one of those since an earlier one
pub file_since_now : (first : List ℕ) (steps : List FileStep) (t : ℕ) (c : List ℕ) → t ≤ length steps → LeftOf first steps c → LeftSince first steps t c
file_since_now first steps t c le left = record {
  at = length steps;
  from = le;
  to = omega arith;
  left = subst (λ (s : List FileStep). LeftOf first s c) (sym (take-length steps)) left;
}

-- since this moment there is no other
pub only_since : (first : List ℕ) (steps : List FileStep) (c : List ℕ) → LeftSince first steps (length steps) c → LeftOf first steps c
only_since first steps c since = subst (λ (s : List FileStep). LeftOf first s c) (take_all since.at steps (omega (arith, since.from))) since.left
