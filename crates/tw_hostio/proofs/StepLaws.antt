-- What a file in memory tells, one kept call more.
use Rattle.std.proofs.Common.{◌≡◌, ℕ, ◌+◌, ◌≤◌, List, [], ◌∷◌, ◌++◌, length, take, refl, sym, ap, ◌∙◌, subst, inl, inr, arith}
use Rattle.std.specs.Prelude.{Option}
use Rattle.std.proofs.lemmas.Bool.{cases_lt}
use Rattle.std.proofs.lemmas.List.{length_push, take-append-le, take_all}
use Rattle.tw_hostio.specs.FileBytes.{put_bytes}
use Rattle.tw_hostio.specs.FileSteps.{TornOf, written_after, LeftAfter, LeftOf, LeftSince, IsWriteOf, IsWriteKept}
use Rattle.tw_hostio.specs.FileStepsSteps.{TornBytes-put}
use Rattle.tw_hostio.specs.PageFile.{FollowsByWrite, KeepsOutcomes, FileTimeGoesOn, OnlyBytes}
use Rattle.tw_hostio.specs.declared.file_step.FileStep.{FileStep}
use Rattle.tw_hostio.specs.declared.file_step.FileStep.TheVariants.{Wrote, Synced}
use Rattle.tw_hostio.specs.declared.file_stage.FileStage.{FileStage}
use Rattle.tw_hostio.proofs.ByteLaws.{TornBytes-wider, TornBytes-none}

-- one write more
wrote_after : (bytes : List ℕ) (steps : List FileStep) (step : FileStep) (at : ℕ) (piece : List ℕ) → IsWriteOf at piece step
    → written_after bytes (steps ++ step ∷ []) ≡ put_bytes at piece (written_after bytes steps)
wrote_after bytes [] (Wrote place kept) at piece is = ap (λ (k : ℕ). put_bytes k kept.items bytes) is.0 ∙ ap (λ (p : List ℕ). put_bytes at p bytes) is.1
wrote_after bytes [] Synced at piece is = absurd is
wrote_after bytes (Wrote place kept ∷ steps) step at piece is = wrote_after (put_bytes place kept.items bytes) steps step at piece is
wrote_after bytes (Synced ∷ steps) step at piece is = wrote_after bytes steps step at piece is

left_wrote : (bytes : List ℕ) (outcomes : List ℕ → Type 0) (steps : List FileStep) (step : FileStep) (at : ℕ) (piece c : List ℕ) → IsWriteOf at piece step
    → LeftAfter bytes outcomes (steps ++ step ∷ []) c → TornOf (LeftAfter bytes outcomes steps) at (length piece) c
left_wrote bytes outcomes [] (Wrote place kept) at piece c is left =
    subst (λ (p : List ℕ). TornOf outcomes at (length p) c) is.1 (subst (λ (k : ℕ). TornOf outcomes k (length kept.items) c) is.0 left)
left_wrote bytes outcomes [] Synced at piece c is left = absurd is
left_wrote bytes outcomes (Wrote place kept ∷ steps) step at piece c is left = left_wrote (put_bytes place kept.items bytes) (TornOf outcomes place (length kept.items)) steps step at piece c is left
left_wrote bytes outcomes (Synced ∷ steps) step at piece c is left = left_wrote bytes (λ d. d ≡ bytes) steps step at piece c is left

left_still : (bytes : List ℕ) (outcomes : List ℕ → Type 0) (steps : List FileStep) (step : FileStep) (at : ℕ) (piece c : List ℕ) → IsWriteOf at piece step
    → LeftAfter bytes outcomes steps c → LeftAfter bytes outcomes (steps ++ step ∷ []) c
left_still bytes outcomes [] (Wrote place kept) at piece c is left = record { before = c; was = left; torn = TornBytes-none place (length kept.items) c }
left_still bytes outcomes [] Synced at piece c is left = absurd is
left_still bytes outcomes (Wrote place kept ∷ steps) step at piece c is left = left_still (put_bytes place kept.items bytes) (TornOf outcomes place (length kept.items)) steps step at piece c is left
left_still bytes outcomes (Synced ∷ steps) step at piece c is left = left_still bytes (λ d. d ≡ bytes) steps step at piece c is left

-- one sync more
synced_after : (bytes : List ℕ) (steps : List FileStep) → written_after bytes (steps ++ Synced ∷ []) ≡ written_after bytes steps
synced_after bytes [] = refl
synced_after bytes (Wrote place kept ∷ steps) = synced_after (put_bytes place kept.items bytes) steps
synced_after bytes (Synced ∷ steps) = synced_after bytes steps

left_synced : (bytes : List ℕ) (outcomes : List ℕ → Type 0) (steps : List FileStep) (c : List ℕ)
    → LeftAfter bytes outcomes (steps ++ Synced ∷ []) c → c ≡ written_after bytes steps
left_synced bytes outcomes [] c left = left
left_synced bytes outcomes (Wrote place kept ∷ steps) c left = left_synced (put_bytes place kept.items bytes) (TornOf outcomes place (length kept.items)) steps c left
left_synced bytes outcomes (Synced ∷ steps) c left = left_synced bytes (λ d. d ≡ bytes) steps c left

reads_on : (bytes : List ℕ) (outcomes : List ℕ → Type 0) (steps : List FileStep) → outcomes bytes → LeftAfter bytes outcomes steps (written_after bytes steps)
reads_on bytes outcomes [] left = left
reads_on bytes outcomes (Wrote at piece ∷ steps) left =
    reads_on (put_bytes at piece.items bytes) (TornOf outcomes at (length piece.items)) steps (record { before = bytes; was = left; torn = TornBytes-put at piece.items bytes })
reads_on bytes outcomes (Synced ∷ steps) left = reads_on bytes (λ c. c ≡ bytes) steps refl

-- the bytes that are kept, after a write
pub kept_bytes : (first old new : List ℕ) (steps more : List FileStep) (at : ℕ) (piece : List ℕ) → old ≡ written_after first steps → IsWriteKept at piece steps more
    → new ≡ put_bytes at piece old → new ≡ written_after first more
kept_bytes first old new steps more at piece was kept put =
    put ∙ ap (put_bytes at piece) was ∙ sym (wrote_after first steps kept.step at piece kept.is) ∙ ap (written_after first) (sym kept.steps)

pub kept_sync : (first now : List ℕ) (steps : List FileStep) → now ≡ written_after first steps → now ≡ written_after first (steps ++ Synced ∷ [])
kept_sync first now steps was = was ∙ sym (synced_after first steps)

pub kept_crash : (first : List ℕ) (steps more : List FileStep) (at n : ℕ) (piece : List ℕ) → IsWriteKept at piece steps more → length piece ≤ n
    → FollowsByWrite at n (LeftOf first steps) (LeftOf first more)
kept_crash first steps more at n piece kept few c left =
    let torn = left_wrote first (λ d. d ≡ first) steps kept.step at piece c kept.is (subst (λ (s : List FileStep). LeftOf first s c) kept.steps left) in
    (torn.before, torn.was, TornBytes-wider at (length piece) n torn.before c few torn.torn)

pub kept_outcomes : (first : List ℕ) (steps more : List FileStep) (at : ℕ) (piece : List ℕ) → IsWriteKept at piece steps more
    → KeepsOutcomes (LeftOf first steps) (LeftOf first more)
kept_outcomes first steps more at piece kept c left =
    subst (λ (s : List FileStep). LeftOf first s c) (sym kept.steps) (left_still first (λ d. d ≡ first) steps kept.step at piece c kept.is left)

-- after a sync nothing is left but the bytes
pub synced_only : (first now : List ℕ) (steps : List FileStep) → now ≡ written_after first steps → OnlyBytes now (LeftOf first (steps ++ Synced ∷ []))
synced_only first now steps was c left = left_synced first (λ d. d ≡ first) steps c left ∙ sym was

pub synced_crash : (first : List ℕ) (steps : List FileStep) → KeepsOutcomes (LeftOf first (steps ++ Synced ∷ [])) (LeftOf first steps)
synced_crash first steps c left =
    subst (λ (d : List ℕ). LeftOf first steps d) (sym (left_synced first (λ d. d ≡ first) steps c left)) (reads_on first (λ d. d ≡ first) steps refl)

-- time goes on by one call
pub push_time : (first : List ℕ) (steps more : List FileStep) (step : FileStep) (old_bytes new_bytes : Option (List ℕ)) (old_stage new_stage : FileStage) (old_faults new_faults : ℕ)
    → more ≡ steps ++ step ∷ []
    → FileTimeGoesOn (record { bytes = old_bytes; may_leave = LeftOf first steps; moment = length steps; left_since = LeftSince first steps; stage = old_stage; faults = old_faults })
    (record { bytes = new_bytes; may_leave = LeftOf first more; moment = length more; left_since = LeftSince first more; stage = new_stage; faults = new_faults })
push_time first steps more step old_bytes new_bytes old_stage new_stage old_faults new_faults is =
    let size : length more ≡ length steps + 1 = ap length is ∙ length_push steps step in
    let front : (k : ℕ) → k ≤ length steps → take k more ≡ take k steps = λ k le. ap (take k) is ∙ take-append-le k steps (step ∷ []) le in
    record {
      later = omega (arith, size);
      nothing_else = λ t c le since. elim (cases_lt (length steps) since.at) [
        | inl now ↦ inr (subst (λ (s : List FileStep). LeftOf first s c) (take_all since.at more (omega (arith, size, now))) since.left)
        | inr before ↦ inl (record { at = since.at; from = since.from; to = before; left = subst (λ (s : List FileStep). LeftOf first s c) (front since.at before) since.left })
      ];
      keeps = λ t c le since. record {
        at = since.at;
        from = since.from;
        to = omega (arith, size, since.to);
        left = subst (λ (s : List FileStep). LeftOf first s c) (sym (front since.at since.to)) since.left;
      };
    }
