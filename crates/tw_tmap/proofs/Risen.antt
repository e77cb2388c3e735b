-- A sound history receives threads of one service with rising steps.
use Rattle.std.proofs.Common.{◌≡◌, ℕ, suc, zero, ◌<◌, List, [], ◌∷◌, ◌++◌, refl, sym, subst}
use Rattle.std.specs.Prelude.{Option, Some, None, IfSome}
use Rattle.std.specs.Option.{option_to_list}
use Rattle.std.proofs.lemmas.List.{append-nil}
use Rattle.tw_base.specs.declared.history.thread.Entry.{Entry}
use Rattle.tw_base.specs.declared.history.thread.Thread.{Thread}
use Rattle.tw_base.specs.history.History.{History, Step, entry_at, received, step_at, thread_of}
use Rattle.tw_base.specs.history.Rules.Rule.{StepsRise}
use Rattle.tw_base.specs.history.Sound.{IsSound}
use Rattle.tw_base.specs.kinds.Lists.{Each}
use Rattle.tw_base.proofs.lemmas.history.Trees.{entry_at-parts}
use Rattle.tw_base.proofs.lemmas.kinds.ListLemmas.{Each-append}

-- behind each entry those of its service have later steps
abbrev pub Rises : List Entry → Type 0
Rises [] = Unit {0}
Rises (e ∷ es) = Each (λ (f : Entry). f.thread.from ≡ e.thread.from → e.thread.step < f.thread.step) es × Rises es

rises-snoc : (es : List Entry) (e : Entry) → Rises es → Each (λ (f : Entry). f.thread.from ≡ e.thread.from
    → f.thread.step < e.thread.step) es → Rises (es ++ e ∷ [])
rises-snoc [] e rises below = (tt, tt)
rises-snoc (x ∷ es) e rises below =
    (Each-append _ es (e ∷ []) rises.0 (λ same. below.0 (sym same), tt), rises-snoc es e rises.1 below.1)

module _ (h : History) (sound : IsSound h) where
  rule-kept : (i : ℕ) (o : Option Step) (t : Thread) → step_at h (suc i) ≡ o → thread_of o ≡ Some t
      → Each (λ (e : Entry). e.thread.from ≡ t.from → e.thread.step < t.step) (received h i)
  rule-kept i None t at is = absurd (cc)
  rule-kept i (Some s) t at is =
      let P : Thread → Type 0 = λ t. Each (λ (e : Entry). e.thread.from ≡ t.from → e.thread.step < t.step)
      (received h i) in
      subst (λ o. IfSome o P) is ((sound.steps i s at).rules StepsRise)

  pub received-rises : (i : ℕ) → Rises (received h i)
  unfolding received
  received-rises zero = tt
  received-rises (suc i) =
      let before : Rises (received h i) = received-rises i in
      let cases : (o : Option Entry) → entry_at h (suc i) ≡ o → Rises (received h i ++ option_to_list o) =
      elim [
        | None ↦ λ is. subst Rises (sym (append-nil (received h i))) before
        | Some e ↦ λ is. rises-snoc (received h i) e before (rule-kept i (step_at h (suc i)) e.thread refl
            (entry_at-parts h (suc i) e is).1)
      ]
      in cases (entry_at h (suc i)) refl
