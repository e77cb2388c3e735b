-- The steps that a table stands for, one by one.
use Rattle.std.proofs.Common.{◌≡◌, ℕ, suc, zero, ◌-◌, ◌<◌, ◌≤◌, List, [], ◌∷◌, length, get_or, drop, refl, ap, sym}
use Rattle.std.proofs.Common.{subst, ◌∙◌, arith, Option, Some, None, ◌+◌, add-one, length-drop, sum_by, take}
use Rattle.std.proofs.lemmas.Option.{slice_get-get_or, slice_get_past}
use Rattle.std.proofs.lemmas.List.Sums.{sum_by-drop_more}
use Rattle.std.proofs.Math.Seq.{drop-cons, drop-nil}
use Rattle.std.specs.Prelude.{slice_get, option_map, option_and_then}
use Rattle.tw_base.specs.declared.history.thread.Thread.{Thread}
use Rattle.tw_base.specs.history.Entries.{key_of, thread_key}
use Rattle.tw_base.specs.history.History.{History, entry_at, thread_of}
use Rattle.tw_history.specs.declared.step.Step.{Step}
use Rattle.tw_history.specs.declared.step.Node.{Node}
use Rattle.tw_history.specs.Tables.{step_of, steps_of_table}

-- what a step of a table received
abbrev pub thread_in : Option Step → Option Thread
thread_in None = None
thread_in (Some s) = thread_of (Some (step_of s []))

pub thread_of-steps_of_table : (steps : List Step) (nodes : List Node) (i : ℕ)
    → thread_of (slice_get (steps_of_table steps nodes) i) ≡ thread_in (slice_get steps i)
thread_of-steps_of_table [] nodes i = refl
thread_of-steps_of_table (s ∷ steps) nodes zero = refl
thread_of-steps_of_table (s ∷ steps) nodes (suc i) = thread_of-steps_of_table steps (drop s.fresh nodes) i

key_of-thread : (k : ℕ) (t : Option Thread)
    → option_map key_of (option_and_then (λ u. Some (record { thread = u; archived = k })) t) ≡ option_map thread_key t
key_of-thread k None = refl
key_of-thread k (Some t) = refl

-- the key of what a step received, where the table has that step
pub key_at-found : (h : History) (steps : List Step) (nodes : List Node) (step index : ℕ) (s : Step)
    → h.steps ≡ steps_of_table steps nodes → (1 ≤ step) × (index ≡ step - 1)
    → index < length steps → s ≡ get_or steps index s → option_map thread_key (thread_of (Some (step_of s [])))
    ≡ option_map key_of (entry_at h step)
key_at-found h steps nodes zero index s is at within got = absurd (omega (arith, at.0))
key_at-found h steps nodes (suc i) index s is at within got =
    let same : index ≡ i = omega (arith, at.1) in
    let there : slice_get steps i ≡ Some s = subst (λ k. slice_get steps k ≡ Some s) same
    (slice_get-get_or steps index s within ∙ ap (λ (x : Step). Some x) (sym got)) in
    sym (key_of-thread (suc i) (thread_of (slice_get h.steps i))
    ∙ ap (λ o. option_map thread_key (thread_of (slice_get o i))) is
    ∙ ap (option_map thread_key) (thread_of-steps_of_table steps nodes i ∙ ap thread_in there))

-- and where it has none
pub key_at-missing : (h : History) (steps : List Step) (nodes : List Node) (step index : ℕ) → h.steps ≡ steps_of_table
    steps nodes → (1 ≤ step) × (index ≡ step - 1)
    → length steps ≤ index → None ≡ option_map key_of (entry_at h step)
key_at-missing h steps nodes zero index is at past = absurd (omega (arith, at.0))
key_at-missing h steps nodes (suc i) index is at past =
    let same : index ≡ i = omega (arith, at.1) in
    let none : slice_get steps i ≡ None = slice_get_past steps i (omega (arith, same, past)) in
    sym (key_of-thread (suc i) (thread_of (slice_get h.steps i))
    ∙ ap (λ o. option_map thread_key (thread_of (slice_get o i))) is
    ∙ ap (option_map thread_key) (thread_of-steps_of_table steps nodes i ∙ ap thread_in none))

slice_get-drop : {X : Type 0} (xs : List X) (k : ℕ) (y : X) (ys : List X) → y ∷ ys ≡ drop k xs → slice_get xs k ≡ Some y
slice_get-drop {X = X} [] k y ys is = cc (drop-nil {A = X} k)
slice_get-drop (x ∷ xs) zero y ys is = cc
slice_get-drop (x ∷ xs) (suc k) y ys is = slice_get-drop xs k y ys is

drop-drop : {X : Type 0} (xs : List X) (k : ℕ) (y : X) (ys : List X) → y ∷ ys ≡ drop k xs → ys ≡ drop (suc k) xs
drop-drop {X = X} [] k y ys is = cc (drop-nil {A = X} k)
drop-drop (x ∷ xs) zero y ys is = cc
drop-drop (x ∷ xs) (suc k) y ys is = drop-drop xs k y ys is

module _ (h : History) (steps : List Step) (rest : List Node) (k : ℕ) (step : Step)
    (ahead : steps_of_table (drop k steps) rest ≡ drop k h.steps) (within : k < length steps)
    (got : step ≡ get_or steps k step) where
  here : drop k steps ≡ step ∷ drop (suc k) steps
  here = drop-cons steps k step within ∙ ap (λ (x : Step). x ∷ drop (suc k) steps) (sym got)

  front : step_of step (take step.fresh rest) ∷ steps_of_table (drop (suc k) steps) (drop step.fresh rest) ≡ drop k
      h.steps
  front = sym (ap (λ ss. steps_of_table ss rest) here) ∙ ahead

  -- the next step of the table is the history's step k + 1
  pub step-there : slice_get h.steps k ≡ Some (step_of step (take step.fresh rest))
  step-there = slice_get-drop h.steps k _ _ front

  -- and behind it come the others, with the nodes that are left
  pub steps-ahead : steps_of_table (drop (k + 1) steps) (drop step.fresh rest) ≡ drop (k + 1) h.steps
  steps-ahead =
      ap (λ n. steps_of_table (drop n steps) (drop step.fresh rest)) (add-one k) ∙ drop-drop h.steps k _ _ front
      ∙ ap (λ n. drop n h.steps) (sym (add-one k))

  pub steps-counted : sum_by (λ s. s.fresh) (drop k steps) ≡ length rest → sum_by (λ s. s.fresh) (drop (k + 1) steps)
      ≡ length (drop step.fresh rest)
  steps-counted counted =
      let this = sum_by-drop_more (λ (s : Step). s.fresh) steps k step within in
      let same : step.fresh ≡ (get_or steps k step).fresh = ap (λ (x : Step). x.fresh) got in
      omega (arith, counted, this, same, length-drop step.fresh rest)
