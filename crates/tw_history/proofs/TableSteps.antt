-- What a table stands for at each step.
use Rattle.std.proofs.Common.{◌≡◌, ℕ, suc, zero, ◌+◌, ◌<◌, ◌≤◌, List, [], ◌∷◌, length, get_or, take, drop, refl, ap}
use Rattle.std.proofs.Common.{sym, ◌∙◌, subst, add-one, arith}
use Rattle.std.specs.Prelude.{Option, Some, None, slice_get, sum_by, option_and_then, if◌then◌else◌}
use Rattle.std.proofs.lemmas.Bool.{le-leb, lt-leb}
use Rattle.std.proofs.lemmas.List.{drop-drop, length-append, length-drop, length-map, length-take-le}
use Rattle.std.proofs.lemmas.List.Sums.{sum_by-cons, sum_by_more, sum_by_more_le}
use Rattle.tw_base.specs.declared.history.thread.Thread.{Thread}
use Rattle.tw_base.specs.declared.history.thread.Entry.{Entry}
use Rattle.tw_base.specs.kinds.Lists.{Each}
use Rattle.tw_base.specs.history.History.{History, entry_at, entry_to, events_at, events_of, fresh_of, step_at}
use Rattle.tw_base.specs.history.History.{thread_of, time_at, time_of}
use Rattle.tw_base.specs.history.History.{Node as NodeMeant, Step as StepMeant}
use Rattle.tw_base.specs.history.Tree.{Tree, forest, planted}
use Rattle.tw_base.specs.declared.history.content.Content.{Content}
use Rattle.tw_base.specs.declared.history.content.Content.TheVariants.{Events, Received}
use Rattle.tw_history.specs.declared.step.Step.{Step}
use Rattle.tw_history.specs.declared.step.Node.{Node}
use Rattle.tw_history.specs.Tables.{node_of, step_of, steps_of_table}
use Rattle.tw_base.specs.history.HistoryCodec.{thread_in}
use Rattle.tw_history.specs.PassSteps.{passed_events}

pub Each-inside : {X : Type 0} (P : X → Type 0) (xs : List X) (i : ℕ) (d : X) → i < length xs → Each P xs
    → P (get_or xs i d)
Each-inside P [] i d inside all = absurd (omega arith)
Each-inside P (x ∷ xs) zero d inside all = all.0
Each-inside P (x ∷ xs) (suc i) d inside all = Each-inside P xs i d (omega arith) all.1

some_step : (steps : List Step) (i : ℕ) → i < length steps → Step
some_step [] i inside = absurd (omega arith)
some_step (s ∷ steps) i inside = s

-- how many nodes the first steps add
abbrev pub nodes_of_first : List Step → ℕ → ℕ
nodes_of_first steps i = sum_by (λ s. s.fresh) (take i steps)

nodes_of_first-suc : (steps : List Step) (i : ℕ) (d : Step) → i < length steps → nodes_of_first steps (suc i)
    ≡ nodes_of_first steps i + (get_or steps i d).fresh
nodes_of_first-suc steps i d inside = ap (nodes_of_first steps) (sym (add-one i)) ∙ sum_by_more (λ (x : Step). x.fresh)
    steps i d inside

-- the step at an index, with its nodes
pub steps_of_table-at : (steps : List Step) (nodes : List Node) (i : ℕ) (d : Step) → i < length steps
    → slice_get (steps_of_table steps nodes) i ≡ Some
    (step_of (get_or steps i d) (take (get_or steps i d).fresh (drop (nodes_of_first steps i) nodes)))
steps_of_table-at [] nodes i d inside = absurd (omega arith)
steps_of_table-at (s ∷ steps) nodes zero d inside = refl
steps_of_table-at (s ∷ steps) nodes (suc i) d inside =
    steps_of_table-at steps (drop s.fresh nodes) i d (omega arith)
    ∙ ap (λ (ns : List Node). Some (step_of (get_or steps i d) (take (get_or steps i d).fresh ns)))
    (drop-drop (nodes_of_first steps i) s.fresh nodes ∙ ap (λ n. drop n nodes)
    (sym (sum_by-cons (λ (x : Step). x.fresh) s (take i steps))))

pub events_of-content : (c : Content) (s : Step) (fresh : List Node) → s.content ≡ c
    → events_of (Some (step_of s fresh)) ≡ passed_events s.content
events_of-content (Events events) s fresh e = rw e
events_of-content (Received t) s fresh e = rw e

pub thread_of-content : (c : Content) (s : Step) (fresh : List Node) → s.content ≡ c
    → thread_of (Some (step_of s fresh)) ≡ thread_in s.content
thread_of-content (Events events) s fresh e = rw e
thread_of-content (Received t) s fresh e = rw e

pub length-planted : (entry : ℕ → Option Entry) (trees : List Tree) (ns : List NodeMeant)
    → length (planted entry trees ns) ≡ length ns
unfolding planted
length-planted entry trees [] = refl
length-planted entry trees (n ∷ ns) = ap suc (length-planted entry _ ns)

-- a history that a table stands for
module _ (h : History) (steps : List Step) (nodes : List Node) (is : h.steps ≡ steps_of_table steps nodes) where
  pub step_at-table : (i : ℕ) (d : Step) → i < length steps
      → step_at h (suc i) ≡ Some
      (step_of (get_or steps i d) (take (get_or steps i d).fresh (drop (nodes_of_first steps i) nodes)))
  step_at-table i d inside = ap (λ (ss : List StepMeant). slice_get ss i) is ∙ steps_of_table-at steps nodes i d inside

  pub events_at-table : (i : ℕ) (d : Step) → i < length steps → events_at h (i + 1) ≡ passed_events
      (get_or steps i d).content
  events_at-table i d inside =
      ap (events_at h) (add-one i) ∙ ap events_of (step_at-table i d inside) ∙ events_of-content
      (get_or steps i d).content (get_or steps i d)
      (take (get_or steps i d).fresh (drop (nodes_of_first steps i) nodes)) refl

  pub thread_at-table : (i : ℕ) (d : Step) → i < length steps → thread_of (step_at h (i + 1)) ≡ thread_in
      (get_or steps i d).content
  thread_at-table i d inside = ap (λ n. thread_of (step_at h n)) (add-one i) ∙ ap thread_of (step_at-table i d inside)
      ∙ thread_of-content (get_or steps i d).content (get_or steps i d)
      (take (get_or steps i d).fresh (drop (nodes_of_first steps i) nodes)) refl

  pub time_at-table : (i : ℕ) (d : Step) → i < length steps → time_at h (i + 1) ≡ (get_or steps i d).time
  time_at-table i d inside = ap (time_at h) (add-one i) ∙ ap time_of (step_at-table i d inside)

  length-fresh : sum_by (λ s. s.fresh) steps ≡ length nodes → (i : ℕ) (d : Step) → i < length steps
      → length (fresh_of (step_at h (suc i))) ≡ (get_or steps i d).fresh
  length-fresh counted i d inside =
      let s : Step = get_or steps i d in
      let rest : List Node = drop (nodes_of_first steps i) nodes in
      let fits : nodes_of_first steps i + s.fresh ≤ length nodes = subst (λ n. nodes_of_first steps i + s.fresh ≤ n)
      counted (sum_by_more_le (λ (x : Step). x.fresh) steps i d inside) in
      let enough : s.fresh ≤ length rest = omega (arith, length-drop (nodes_of_first steps i) nodes, fits) in
      ap (λ (o : Option StepMeant). length (fresh_of o)) (step_at-table i d inside)
      ∙ length-map (take s.fresh rest) node_of ∙ length-take-le s.fresh rest enough

  -- the trees are those of the nodes so far, and the empty one
  pub length-forest : sum_by (λ s. s.fresh) steps ≡ length nodes → (i : ℕ) → i ≤ length steps
      → length (forest h i) ≡ nodes_of_first steps i + 1
  unfolding forest
  length-forest counted zero l = refl
  length-forest counted (suc i) l =
      let d : Step = some_step steps i l in
      length-append (forest h i) (planted (entry_to h (suc i)) (forest h i) (fresh_of (step_at h (suc i))))
      ∙ omega (
        arith,
        length-forest counted i (omega arith),
        length-planted (entry_to h (suc i)) (forest h i) (fresh_of (step_at h (suc i))),
        length-fresh counted i d l,
        nodes_of_first-suc steps i d l,
      )

-- ---- entries of the steps up to one

pub entry_to-past : (h : History) (last k : ℕ) → last < k → entry_to h last k ≡ None
unfolding entry_to
entry_to-past h last k past = ap (λ b. if b then entry_at h k else None) (lt-leb k last past)

entry_to-within : (h : History) (last k : ℕ) → k ≤ last → entry_to h last k ≡ entry_at h k
unfolding entry_to
entry_to-within h last k within = ap (λ b. if b then entry_at h k else None) (le-leb k last within)

pub entry_to-none : (h : History) (last k : ℕ) → k ≤ last → None ≡ thread_of (step_at h k) → entry_to h last k ≡ None
entry_to-none h last k within none =
    entry_to-within h last k within ∙ ap (option_and_then (λ (t : Thread). Some (record { thread = t; archived = k })))
    (sym none)

pub entry_to-some : (h : History) (last k : ℕ) (t : Thread) → k ≤ last → Some t ≡ thread_of (step_at h k)
    → entry_to h last k ≡ Some (record { thread = t; archived = k })
entry_to-some h last k t within some =
    entry_to-within h last k within ∙ ap (option_and_then (λ (u : Thread). Some (record { thread = u; archived = k })))
    (sym some)
