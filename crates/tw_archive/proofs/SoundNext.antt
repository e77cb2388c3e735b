-- One more sound step keeps a history sound.
use Rattle.std.proofs.Common.{◌≡◌, ℕ, suc, zero, ◌<◌, ◌≤◌, List, [], ◌∷◌, ◌++◌, length, refl, ap, sym, ◌∙◌, subst}
use Rattle.std.proofs.Common.{arith, inl, inr}
use Rattle.std.specs.Prelude.{Option, Some, None, IfSome, IsSome, slice_get}
use Rattle.std.proofs.lemmas.Bool.{cases_lt}
use Rattle.std.proofs.lemmas.List.{length_push}
use Rattle.std.proofs.lemmas.Option.{slice_get_cases, slice_get_within}
use Rattle.tw_base.specs.declared.history.thread.Entry.{Entry}
use Rattle.tw_base.specs.declared.kinds.limits.TheConstants.{LAST_STEP}
use Rattle.tw_base.specs.history.History.{History, Node, Step, entry_to, fresh_of, plus, received, step_at, thread_of}
use Rattle.tw_base.specs.history.Rules.{KeepsRule, NodesFit, Rule}
use Rattle.tw_base.specs.history.Rules.Rule.{NodesAreKnown, TreesRise, HoldsAllThreads, IsOfAnother, StepsRise}
use Rattle.tw_base.specs.history.Rules.Rule.{EventsFit, TimesDontFall}
use Rattle.tw_base.specs.history.Sound.{IsSound, IsSoundStep}
use Rattle.tw_base.specs.history.Tree.{IsRising, Tree, entries, forest, new_trees, planted, tree}
use Rattle.tw_base.specs.kinds.Lists.{Each}
use Rattle.tw_base.proofs.lemmas.history.Plus.{entry_to-plus, forest-plus, received-plus, step_at-new, step_at-plus}
use Rattle.tw_base.proofs.lemmas.history.Plus.{times-plus, tree-plus}

-- in a sound history the archive has as many entries as threads were received
pub same-length : (h : History) → IsSound h → (i : ℕ) → i ≤ length h.steps → length (entries (tree h i)) ≡ length
    (received h i)
unfolding received tree forest
same-length h sound zero within = refl
same-length h sound (suc i) within = by (step_at h (suc i)) refl
  where
    by : (s : Option Step) → step_at h (suc i) ≡ s → length (entries (tree h (suc i))) ≡ length (received h (suc i))
    by None none = elim ((slice_get_cases h.steps i).1) [
      | inl there ↦ (let some : slice_get h.steps i ≡ Some there.0 = there.2 in let never : None ≡ Some there.0 =
          sym none ∙ some in cc)
      | inr past ↦ absurd (omega (arith, past.0, within))
    ]
    by (Some s) is = (sound.steps i s is).rules HoldsAllThreads

module _ (h : History) (s : Step) where
  nodes-moved : (i : ℕ) → i ≤ length h.steps → (ns : List Node) (number : ℕ) → NodesFit h i number ns
      → NodesFit (plus h s) i number ns
  nodes-moved i within [] number fit = tt
  nodes-moved i within (n ∷ ns) number fit = (
    (fit.0.0, fit.0.1, subst (λ (o : Option Entry). IsSome o) (sym (entry_to-plus h s i n.entry within)) fit.0.2),
    nodes-moved i within ns (suc number) fit.1,
  )

  new_trees-plus : (i : ℕ) → i < length h.steps → new_trees (plus h s) i ≡ new_trees h i
  new_trees-plus i less =
      (λ j. planted (λ k. entry_to-plus h s (suc i) k less j) (forest (plus h s) i)
      (fresh_of (step_at (plus h s) (suc i))))
      ∙ ap (λ (ts : List Tree). planted (entry_to h (suc i)) ts (fresh_of (step_at (plus h s) (suc i))))
      (forest-plus h s i (omega (arith, less)))
      ∙ ap (λ (o : Option Step). planted (entry_to h (suc i)) (forest h i) (fresh_of o)) (step_at-plus h s (suc i) less)

  moved : (i : ℕ) (x : Step) → i < length h.steps → ((rule : Rule) → KeepsRule h i x rule) → (rule : Rule)
      → KeepsRule (plus h s) i x rule
  moved i x less old NodesAreKnown =
      let known = old NodesAreKnown in (
        nodes-moved (suc i) less x.fresh (length (forest (plus h s) i))
            (subst (λ (ts : List Tree). NodesFit h (suc i) (length ts) x.fresh)
            (sym (forest-plus h s i (omega (arith, less)))) known.0),
        subst (λ (ts : List Tree). x.root < length ts) (sym (forest-plus h s (suc i) less)) known.1,
      )
  moved i x less old TreesRise = subst (λ (ts : List Tree). Each (λ t. IsRising (entries t)) ts)
      (sym (new_trees-plus i less)) (old TreesRise)
  moved i x less old HoldsAllThreads =
      ap (λ (t : Tree). length (entries t)) (tree-plus h s (suc i) less) ∙ old HoldsAllThreads
      ∙ sym (ap (λ (es : List Entry). length es) (received-plus h s (suc i) less))
  moved i x less old IsOfAnother = old IsOfAnother
  moved i x less old StepsRise =
      subst (λ (es : List Entry). IfSome (thread_of (Some x))
      (λ t. Each (λ e. e.thread.from ≡ t.from → e.thread.step < t.step) es))
      (sym (received-plus h s i (omega (arith, less)))) (old StepsRise)
  moved i x less old EventsFit = old EventsFit
  moved i x less old TimesDontFall =
      subst (λ (ts : List ℕ). IfSome x.time (λ time. Each (λ earlier. earlier ≤ time) ts))
      (sym (times-plus h s i (omega (arith, less)))) (old TimesDontFall)

  pub sound-plus : IsSound h → length h.steps < LAST_STEP → IsSoundStep (plus h s) (length h.steps) s
      → IsSound (plus h s)
  sound-plus sound short last = record {
    name = sound.name;
    length = omega (arith, short, length_push h.steps s);
    steps = λ i x there. elim (cases_lt i (length h.steps)) [
      | inl before ↦ (let old = sound.steps i x (sym (step_at-plus h s (suc i) before) ∙ there) in
          record { rules = moved i x before old.rules; limits = old.limits; time = old.time })
      | inr past ↦ (let within = slice_get_within (h.steps ++ s ∷ []) i x there in
          let count = length_push h.steps s in
          let here : length h.steps ≡ i = omega (arith, past, within, count) in
          let both : Some s ≡ Some x = sym (step_at-new h s) ∙ subst (λ (k : ℕ). step_at (plus h s) (suc k) ≡ Some x)
          (sym here) there in
          let same : s ≡ x = cc in
          subst (λ (k : ℕ). IsSoundStep (plus h s) k x) here
          (subst (λ (y : Step). IsSoundStep (plus h s) (length h.steps) y) same last))
    ];
  }
