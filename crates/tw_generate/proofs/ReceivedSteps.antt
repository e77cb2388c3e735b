-- What the steps of a table received.
use Rattle.std.proofs.Common.{◌≡◌, ℕ, suc, zero, ◌+◌, ◌-◌, ◌<◌, ◌≤◌, List, [], ◌++◌, length, get_or, refl, ap, sym, ◌∙◌}
use Rattle.std.proofs.Common.{subst, add-one, arith}
use Rattle.std.specs.Prelude.{Option, Some, None, option_and_then}
use Rattle.std.specs.Option.{option_or, option_to_list}
use Rattle.std.proofs.lemmas.List.{length-append}
use Rattle.std.proofs.lemmas.List.Folds.{find-append}
use Rattle.tw_base.specs.declared.history.thread.Entry.{Entry}
use Rattle.tw_base.specs.declared.history.thread.Thread.{Thread}
use Rattle.tw_base.specs.history.History.{History, entry_at, received}
use Rattle.tw_base.specs.history.HistoryCodec.{thread_in}
use Rattle.tw_history.specs.Tables.{steps_of_table}
use Rattle.tw_history.specs.declared.step.Node.{Node}
use Rattle.tw_history.specs.declared.step.Step.{Step}
use Rattle.tw_history.proofs.TableSteps.{thread_at-table}
use Rattle.tw_tmap.specs.Bounds.{first_from}
use Rattle.tw_generate.proofs.FirstEntries.{first-stays as stays}

-- the entry of the thread that a step of a table received
abbrev pub entry_in : Step → ℕ → Option Entry
entry_in s archived = option_and_then (λ (t : Thread). Some (record { thread = t; archived = archived }))
    (thread_in s.content)

pub received-none : (h : History) → received h 0 ≡ []
unfolding received
received-none h = refl

pub received-more : (h : History) (i : ℕ) → received h (i + 1) ≡ received h i ++ option_to_list (entry_at h (i + 1))
unfolding received
received-more h i = ap (received h) (add-one i) ∙ ap (λ n. received h i ++ option_to_list (entry_at h n))
    (sym (add-one i))

module _ (h : History) (steps : List Step) (nodes : List Node) (is : h.steps ≡ steps_of_table steps nodes) where
  pub received-step : (i : ℕ) (d : Step) → i < length steps → received h (i + 1) ≡ received h i ++ option_to_list
      (entry_in (get_or steps i d) (i + 1))
  received-step i d inside =
      received-more h i
      ∙ ap (λ (o : Option Thread). received h i ++ option_to_list
      (option_and_then (λ (t : Thread). Some (record { thread = t; archived = i + 1 })) o))
      (thread_at-table h steps nodes is i d inside)

  pub count-step : (i : ℕ) (d : Step) → i < length steps → length (received h (i + 1)) ≡ length (received h i) + length
      (option_to_list (entry_in (get_or steps i d) (i + 1)))
  count-step i d inside = ap length (received-step i d inside) ∙ length-append (received h i) _

  -- where there was no entry of the service before, the first one is what the next step has
  pub first-step : (from : List ℕ) (least i : ℕ) (s : Step) (o : Option Entry) → i < length steps → s ≡ get_or steps i s
      → o ≡ entry_in s (i + 1) → first_from from least (received h i) ≡ None
      → first_from from least (received h (i + 1)) ≡ first_from from least (option_to_list o)
  first-step from least i s o inside at has none =
      ap (first_from from least) (received-step i s inside ∙ ap (λ (x : Step). received h i ++ option_to_list
      (entry_in x (i + 1))) (sym at) ∙ ap (λ (x : Option Entry). received h i ++ option_to_list x) (sym has))
      ∙ find-append _ (received h i) (option_to_list o)
      ∙ ap (λ (x : Option Entry). option_or x (first_from from least (option_to_list o))) none

module _ (h : History) (from : List ℕ) (least : ℕ) where
  first-later : (e : Entry) (i d : ℕ) → first_from from least (received h i) ≡ Some e → first_from from least
      (received h (d + i)) ≡ Some e
  first-later e i zero is = subst (λ n. first_from from least (received h n) ≡ Some e) (omega arith) is
  first-later e i (suc d) is =
      let next : suc d + i ≡ d + i + 1 = omega arith in
      ap (λ n. first_from from least (received h n)) next ∙ ap (first_from from least) (received-more h (d + i))
      ∙ stays from least (received h (d + i)) _ e (first-later e i d is)

  -- and it stays the first one
  pub first-stays : (e : Entry) (i n : ℕ) → i ≤ n → first_from from least (received h i) ≡ Some e
      → first_from from least (received h n) ≡ Some e
  first-stays e i n le is = subst (λ m. first_from from least (received h m) ≡ Some e) (omega arith)
      (first-later e i (n - i) is)
