-- The first steps of a table, with the nodes that they add, stand for the first steps of the history.
use Rattle.std.proofs.Common.{◌≡◌, ℕ, suc, zero, ◌+◌, ◌≤◌, List, [], ◌∷◌, length, take, drop, refl, ap, sym, ◌∙◌, subst}
use Rattle.std.proofs.Common.{arith, sum_by}
use Rattle.std.proofs.lemmas.List.{drop-take, length-take-le, take-append-drop, take-take}
use Rattle.std.proofs.lemmas.List.Sums.{sum_by-cons, sum_by-take-le}
use Rattle.tw_base.specs.history.Limits.{IsTimeWithinLimits}
use Rattle.tw_base.specs.kinds.Lists.{Each}
use Rattle.tw_base.proofs.lemmas.kinds.ListLemmas.{Each-parts}
use Rattle.tw_history.specs.declared.step.Node.{Node}
use Rattle.tw_history.specs.declared.step.Step.{Step}
use Rattle.tw_history.specs.Tables.{IsInRange, IsTable, step_of, steps_of_table}
use Rattle.tw_history.proofs.TableSteps.{nodes_of_first}

pub steps_of_table-take : (steps : List Step) (nodes : List Node) (k : ℕ)
    → steps_of_table (take k steps) (take (nodes_of_first steps k) nodes) ≡ take k (steps_of_table steps nodes)
steps_of_table-take [] nodes zero = refl
steps_of_table-take [] nodes (suc k) = refl
steps_of_table-take (s ∷ steps) nodes zero = refl
steps_of_table-take (s ∷ steps) nodes (suc k) =
    let count : nodes_of_first (s ∷ steps) (suc k) ≡ s.fresh + nodes_of_first steps k =
    sum_by-cons (λ (x : Step). x.fresh) s (take k steps) in
    let all : List Node = take (s.fresh + nodes_of_first steps k) nodes in
    ap (λ (n : ℕ). steps_of_table (s ∷ take k steps) (take n nodes)) count
    ∙ ap (λ (ns : List Node). step_of s ns ∷ steps_of_table (take k steps) (drop s.fresh all))
    (take-take s.fresh (s.fresh + nodes_of_first steps k) nodes (omega arith))
    ∙ ap (λ (ns : List Node). step_of s (take s.fresh nodes) ∷ steps_of_table (take k steps) ns)
    (drop-take s.fresh (nodes_of_first steps k) nodes)
    ∙ ap (λ ss. step_of s (take s.fresh nodes) ∷ ss) (steps_of_table-take steps (drop s.fresh nodes) k)

each-take : {X : Type 0} (P : X → Type 0) (k : ℕ) (xs : List X) → Each P xs → Each P (take k xs)
each-take P k xs all =
    (Each-parts P (take k xs) (drop k xs) (subst (λ ys. Each P ys) (sym (take-append-drop k xs)) all)).0

-- no more nodes than the table has
pub few-nodes : (steps : List Step) (nodes : List Node) (k : ℕ) → IsTable steps nodes → nodes_of_first steps k ≤ length
    nodes
few-nodes steps nodes k table = let most = sum_by-take-le (λ (s : Step). s.fresh) steps k in
    omega (arith, most, table.counted)

pub table-take : (steps : List Step) (nodes : List Node) (k : ℕ) → k ≤ length steps → IsTable steps nodes
    → IsTable (take k steps) (take (nodes_of_first steps k) nodes)
table-take steps nodes k within table = record {
  counted = sym (length-take-le (nodes_of_first steps k) nodes (few-nodes steps nodes k table));
  few = (let few = table.few in omega (arith, within, few, length-take-le k steps within));
  contents = each-take (λ (s : Step). IsInRange s.content) k steps table.contents;
  times = each-take (λ (s : Step). IsTimeWithinLimits s.time) k steps table.times;
  entries = each-take _ (nodes_of_first steps k) nodes table.entries;
}

-- of the first k steps, and as many nodes as they add
module _ (steps first : List Step) (nodes known : List Node) (k count : ℕ) (front : first ≡ take k steps)
    (counted : count ≡ sum_by (λ (s : Step). s.fresh) first) (there : known ≡ take count nodes) where
  known_is : known ≡ take (nodes_of_first steps k) nodes
  known_is = there ∙ ap (λ (n : ℕ). take n nodes) (counted ∙ ap (λ (ss : List Step). sum_by (λ (s : Step). s.fresh) ss)
      front)

  pub first-table : k ≤ length steps → IsTable steps nodes → IsTable first known
  first-table within table =
      subst (λ (ss : List Step). IsTable ss known) (sym front) (subst (λ (ns : List Node). IsTable (take k steps) ns)
      (sym known_is) (table-take steps nodes k within table))

  pub first-steps : steps_of_table first known ≡ take k (steps_of_table steps nodes)
  first-steps =
      let same : steps_of_table first known ≡ steps_of_table (take k steps) (take (nodes_of_first steps k) nodes) =
      λ i. steps_of_table (front i) (known_is i) in
      same ∙ steps_of_table-take steps nodes k
