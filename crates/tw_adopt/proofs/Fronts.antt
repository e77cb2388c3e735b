-- The first steps of a history: they are sound where it is, the same as it is, and no longer in their file.
use Rattle.std.proofs.Common.{◌≡◌, ℕ, suc, zero, ◌+◌, ◌<◌, ◌≤◌, List, [], ◌∷◌, ◌++◌, length, take, drop, refl, ap, sym}
use Rattle.std.proofs.Common.{◌∙◌, subst, arith, inl, inr}
use Rattle.std.specs.Prelude.{Option, Some, flat_map, IfSome, IsSome}
use Rattle.std.specs.Option.{option_map}
use Rattle.std.proofs.lemmas.Bool.{cases_lt}
use Rattle.std.proofs.lemmas.List.{append-nil, append_assoc, append_cancel_left, length-append, length-take-le}
use Rattle.std.proofs.lemmas.List.{length_push, take-append-drop, take_all}
use Rattle.std.proofs.lemmas.Option.{slice_get_within}
use Rattle.tw_base.specs.declared.history.thread.Entry.{Entry}
use Rattle.tw_base.specs.history.Auth.{auth}
use Rattle.tw_base.specs.history.History.{History, Node, Step, plus, step_at, thread_of, time_of}
use Rattle.tw_base.specs.history.HistoryCodec.{history_bytes, step_codec}
use Rattle.tw_base.specs.history.Rules.{KeepsRule, NodesFit, Rule}
use Rattle.tw_base.specs.history.Rules.Rule.{EventsFit, HoldsAllThreads, IsOfAnother, NodesAreKnown, StepsRise}
use Rattle.tw_base.specs.history.Rules.Rule.{TimesDontFall, TreesRise}
use Rattle.tw_base.specs.history.Sound.{IsSound, IsSoundStep}
use Rattle.tw_base.specs.history.Tree.{IsRising, Tree, entries, forest, new_trees, tree}
use Rattle.tw_base.specs.kinds.Lists.{Each}
use Rattle.tw_base.proofs.lemmas.history.Plus.{auth-plus, entry_to-plus, forest-plus, received-plus, step_at-plus}
use Rattle.tw_base.proofs.lemmas.history.Plus.{times-plus, tree-plus}
use Rattle.tw_history.proofs.ByteCounts.{file-size}
use Rattle.tw_adopt.specs.HistoryFronts.{Same, first_steps}

-- ---- one step less

module _ (g : History) (s : Step) where
  -- the steps before the last one have the nodes that they had
  nodes-fit : (step number : ℕ) (ns : List Node) → step ≤ length g.steps → NodesFit (plus g s) step number ns
      → NodesFit g step number ns
  nodes-fit step number [] within fit = tt
  nodes-fit step number (n ∷ ns) within fit = (
    (fit.0.0, fit.0.1, subst (λ (o : Option Entry). IsSome o) (entry_to-plus g s step n.entry within) fit.0.2),
    nodes-fit step (suc number) ns within fit.1,
  )

  new_trees-plus : (i : ℕ) → i < length g.steps → new_trees (plus g s) i ≡ new_trees g i
  unfolding forest
  new_trees-plus i inside =
      append_cancel_left (forest g i) (new_trees (plus g s) i) (new_trees g i)
      (ap (λ (ts : List Tree). ts ++ new_trees (plus g s) i) (sym (forest-plus g s i (omega (arith, inside))))
      ∙ forest-plus g s (suc i) (omega (arith, inside)))

  -- a rule that a step keeps, it keeps where the last step is gone
  keeps-rule : (i : ℕ) (t : Step) → i < length g.steps → (rule : Rule) → KeepsRule (plus g s) i t rule
      → KeepsRule g i t rule
  keeps-rule i t inside NodesAreKnown kept = (
    subst (λ (ts : List Tree). NodesFit g (suc i) (length ts) t.fresh) (forest-plus g s i (omega (arith, inside)))
        (nodes-fit (suc i) (length (forest (plus g s) i)) t.fresh (omega (arith, inside)) kept.0),
    subst (λ (ts : List Tree). t.root < length ts) (forest-plus g s (suc i) (omega (arith, inside))) kept.1,
  )
  keeps-rule i t inside TreesRise kept = subst (λ (ts : List Tree). Each (λ u. IsRising (entries u)) ts)
      (new_trees-plus i inside) kept
  keeps-rule i t inside HoldsAllThreads kept =
      ap (λ (u : Tree). length (entries u)) (sym (tree-plus g s (suc i) (omega (arith, inside)))) ∙ kept
      ∙ ap (λ (es : List Entry). length es) (received-plus g s (suc i) (omega (arith, inside)))
  keeps-rule i t inside IsOfAnother kept = kept
  keeps-rule i t inside StepsRise kept =
      subst (λ (es : List Entry). IfSome (thread_of (Some t))
      (λ u. Each (λ e. e.thread.from ≡ u.from → e.thread.step < u.step) es))
      (received-plus g s i (omega (arith, inside))) kept
  keeps-rule i t inside EventsFit kept = kept
  keeps-rule i t inside TimesDontFall kept =
      subst (λ (ts : List ℕ). IfSome t.time (λ time. Each (λ earlier. earlier ≤ time) ts))
      (times-plus g s i (omega (arith, inside))) kept

  sound-less : IsSound (plus g s) → IsSound g
  sound-less sound = record {
    name = sound.name;
    length = (let most = sound.length in omega (arith, most, length_push g.steps s));
    steps = one;
  }
    where
      one : (i : ℕ) (t : Step) → step_at g (suc i) ≡ Some t → IsSoundStep g i t
      one i t at =
          let inside : i < length g.steps = slice_get_within g.steps i t at in
          let same = sound.steps i t (step_at-plus g s (suc i) (omega (arith, inside)) ∙ at) in
          record {
            rules = λ rule. keeps-rule i t inside rule (same.rules rule);
            limits = same.limits;
            time = same.time;
          }

-- ---- any number of steps less

abbrev of_steps : (name : List ℕ) → List Step → History
of_steps name steps = record { name = name; steps = steps }

sound-front : (name : List ℕ) (front rest : List Step) → IsSound (of_steps name (front ++ rest))
    → IsSound (of_steps name front)
sound-front name front [] sound = subst (λ (ss : List Step). IsSound (of_steps name ss)) (append-nil front) sound
sound-front name front (s ∷ rest) sound =
    sound-less (of_steps name front) s
    (sound-front name (front ++ s ∷ []) rest (subst (λ (ss : List Step). IsSound (of_steps name ss))
    (sym (append_assoc front (s ∷ []) rest)) sound))

-- a step with its tree and its authenticator is that of the other history
record Kept (dig : List ℕ → List ℕ) (h g : History) (j : ℕ) : Type 0 where
  step : step_at h j ≡ step_at g j
  archive : tree h j ≡ tree g j
  auth_same : auth dig h j ≡ auth dig g j

kept-front : (dig : List ℕ → List ℕ) (name : List ℕ) (front rest : List Step) (j : ℕ) → j ≤ length front
    → Kept dig (of_steps name (front ++ rest)) (of_steps name front) j
kept-front dig name front [] j within =
    subst (λ (ss : List Step). Kept dig (of_steps name ss) (of_steps name front) j) (sym (append-nil front))
    (record { step = refl; archive = refl; auth_same = refl })
kept-front dig name front (s ∷ rest) j within =
    let g : History = of_steps name front in
    let more = kept-front dig name (front ++ s ∷ []) rest j (omega (arith, within, length_push front s)) in
    let all : Kept dig (of_steps name (front ++ s ∷ rest)) (plus g s) j =
    subst (λ (ss : List Step). Kept dig (of_steps name ss) (plus g s) j) (append_assoc front (s ∷ []) rest) more in
    record {
      step = all.step ∙ step_at-plus g s j within;
      archive = all.archive ∙ tree-plus g s j within;
      auth_same = all.auth_same ∙ auth-plus g s dig j within;
    }

-- ---- the first steps

pub sound-first_steps : (h : History) (count : ℕ) → IsSound h → IsSound (first_steps h count)
sound-first_steps h count sound =
    sound-front h.name (take count h.steps) (drop count h.steps)
    (subst (λ (ss : List Step). IsSound (of_steps h.name ss)) (sym (take-append-drop count h.steps)) sound)

within-take : (count step : ℕ) (steps : List Step) → step ≤ count → step ≤ length steps
    → step ≤ length (take count steps)
within-take count step steps few within =
    elim (cases_lt (length steps) count) [
      | inl past ↦ subst (λ (ss : List Step). step ≤ length ss) (sym (take_all count steps (omega (arith, past))))
          within
      | inr inside ↦ (let size = length-take-le count steps inside in omega (arith, size, few))
    ]

kept-first_steps : (dig : List ℕ → List ℕ) (h : History) (count j : ℕ) → j ≤ count → j ≤ length h.steps
    → Kept dig h (first_steps h count) j
kept-first_steps dig h count j few within =
    subst (λ (ss : List Step). Kept dig (of_steps h.name ss) (first_steps h count) j) (take-append-drop count h.steps)
    (kept-front dig h.name (take count h.steps) (drop count h.steps) j (within-take count j h.steps few within))

pub same-first_steps : (dig : List ℕ → List ℕ) (h : History) (count step : ℕ) → step ≤ count → step ≤ length h.steps
    → Same h (first_steps h count) step × (auth dig (first_steps h count) step ≡ auth dig h step)
same-first_steps dig h count step few within =
    let kept : (j : ℕ) → j ≤ step → Kept dig h (first_steps h count) j = λ j upto. kept-first_steps dig h count j
    (omega (arith, upto, few)) (omega (arith, upto, within)) in (
      record {
        name = refl;
        has = within;
        other_has = within-take count step h.steps few within;
        contents = λ j upto. ap (option_map (λ (s : Step). s.content)) (kept j upto).step;
        times = λ j upto. ap time_of (kept j upto).step;
        trees = λ j upto. (kept j upto).archive;
      },
      sym (kept step (omega arith)).auth_same,
    )

-- ---- their file

flat-front : (f : Step → List ℕ) (count : ℕ) (steps : List Step) → length (flat_map f (take count steps)) ≤ length
    (flat_map f steps)
flat-front f zero steps = omega arith
flat-front f (suc count) [] = omega arith
flat-front f (suc count) (s ∷ steps) =
    let rest = flat-front f count steps in
    omega (arith, rest, length-append (f s) (flat_map f (take count steps)), length-append (f s) (flat_map f steps))

pub short-first_steps : (h : History) (count : ℕ) → length (history_bytes (first_steps h count)) ≤ length
    (history_bytes h)
short-first_steps h count =
    let less = flat-front step_codec.write count h.steps in
    let own = file-size h in
    let its = file-size (first_steps h count) in
    omega (arith, less, own, its)
