-- What a file tells, call after call.
use Rattle.std.proofs.Common.{ℕ, ◌+◌, ◌≤◌, List, refl, ◌∙◌, inl, inr, arith}
use Rattle.tw_hostio.specs.PageFile.{FileView, IsSameFile, FileTimeGoesOn, FollowsByWrite, KeepsOutcomes}
use Rattle.tw_hostio.proofs.ByteLaws.{TornBytes-within, TornBytes-none}

pub same_file : (file : FileView) → IsSameFile file file
same_file file = record { bytes = refl; outcomes = λ c. (λ left. left, λ left. left); later = omega arith; outcomes_since = λ t c le. (λ left. left, λ left. left) }

pub same_file_on : (old mid new : FileView) → IsSameFile old mid → IsSameFile mid new → IsSameFile old new
same_file_on old mid new first second = record {
  bytes = second.bytes ∙ first.bytes;
  outcomes = λ c. (λ left. (first.outcomes c).0 ((second.outcomes c).0 left), λ left. (second.outcomes c).1 ((first.outcomes c).1 left));
  later = omega (arith, first.later, second.later);
  outcomes_since = λ t c le. (
    λ left. (first.outcomes_since t c le).0 ((second.outcomes_since t c (omega (arith, le, first.later))).0 left),
    λ left. (second.outcomes_since t c (omega (arith, le, first.later))).1 ((first.outcomes_since t c le).1 left),
  );
}

-- a file that is the same has gone on in time
pub time_of_same : (old new : FileView) → IsSameFile old new → FileTimeGoesOn old new
time_of_same old new same = record {
  later = same.later;
  nothing_else = λ t c le left. inl ((same.outcomes_since t c le).0 left);
  keeps = λ t c le left. (same.outcomes_since t c le).1 left;
}

-- time that goes on twice, where what might be left between may be left still
pub time_on : (old mid new : FileView) → FileTimeGoesOn old mid → FileTimeGoesOn mid new → KeepsOutcomes mid.may_leave new.may_leave → FileTimeGoesOn old new
time_on old mid new first second keeps = record {
  later = omega (arith, first.later, second.later);
  nothing_else = λ t c le left. elim (second.nothing_else t c (omega (arith, le, first.later)) left) [
    | inl between ↦ elim (first.nothing_else t c le between) [ inl before ↦ inl before | inr then ↦ inr (keeps c then) ]
    | inr now ↦ inr now
  ];
  keeps = λ t c le left. second.keeps t c (omega (arith, le, first.later)) (first.keeps t c le left);
}

-- nothing was written
pub follows_none : (at n : ℕ) (outcomes : List ℕ → Type 0) → FollowsByWrite at n outcomes outcomes
follows_none at n outcomes c left = (c, left, TornBytes-none at n c)

-- a write of fewer bytes, within the place of another
pub follows_within : (at n from m : ℕ) (old mid new : List ℕ → Type 0) → at ≤ from → from + m ≤ at + n
    → FollowsByWrite at n old mid → FollowsByWrite from m mid new → FollowsByWrite at n old new
follows_within at n from m old mid new low high first second c left =
    let (d, was, torn) = second c left in
    let (e, before, earlier) = first d was in
    (e, before, TornBytes-within at n from m e d c low high earlier torn)
