-- Steps read into a table with their nodes.
use Rattle.std.proofs.Common.{◌≡◌, ℕ, suc, ◌+◌, ◌-◌, ◌≤◌, List, [], ◌∷◌, ◌++◌, length, map, take, drop, ap, sym, ◌∙◌}
use Rattle.std.proofs.Common.{arith, subst, sum_by}
use Rattle.std.proofs.Math.Seq.{drop-append_seam, drop-length}
use Rattle.std.proofs.lemmas.List.{append-nil, append_assoc, drop-append-le, length-append, length-drop, map-append}
use Rattle.std.proofs.lemmas.List.{take-append-le, take_all}
use Rattle.std.proofs.lemmas.List.Sums.{sum_by-append, sum_by-cons}
use Rattle.tw_base.specs.format.Codecs.{Codec}
use Rattle.tw_base.specs.kinds.Lists.{Each}
use Rattle.tw_base.proofs.lemmas.kinds.ListLemmas.{Each-append}
use Rattle.tw_base.proofs.lemmas.format.TakeLaws.{ManyTaken}
use Rattle.tw_history.specs.declared.step.Step.{Step}
use Rattle.tw_history.specs.declared.step.Node.{Node}
use Rattle.tw_history.specs.Tables.{added_behind, node_of, step_of, steps_of_table}

module _ {X : Type 0} where
  -- so many are left that one can be taken
  pub one_left : (c : Codec X) (bytes : List ℕ) (start n i at : ℕ) (xs : List X) → i + 1 ≤ n → ManyTaken c bytes start n
      (n - i) xs at → ManyTaken c bytes start n (suc (n - (i + 1))) xs at
  one_left c bytes start n i at xs l t = let P : ℕ → Type 0 = λ left. ManyTaken c bytes start n left xs at in
      subst P (let e : n - i ≡ suc (n - (i + 1)) = omega (arith, l) in e) t

  -- a property of each, with one more
  pub each_further : (P : X → Type 0) (xs more : List X) (x : X) → more ≡ xs ++ x ∷ [] → Each P xs → P x → Each P more
  each_further P xs more x pushed all one = subst (λ ys. Each P ys) (sym pushed)
      (Each-append P xs (x ∷ []) all (one, tt))

  -- nothing was appended
  pub added-none : (xs : List X) → (added_behind xs xs ≡ []) × (xs ≡ xs ++ added_behind xs xs)
  added-none xs = let none : added_behind xs xs ≡ [] = drop-length xs in
      (none, sym (append-nil xs) ∙ ap (λ ys. xs ++ ys) (sym none))

  -- an item more
  pub added-push : (old now next : List X) (x : X) → now ≡ old ++ added_behind old now → next ≡ now ++ x ∷ []
      → (added_behind old next ≡ added_behind old now ++ x ∷ []) × (next ≡ old ++ added_behind old next)
  added-push old now next x kept pushed =
      let whole : next ≡ old ++ (added_behind old now ++ x ∷ []) = pushed ∙ ap (λ xs. xs ++ x ∷ []) kept ∙ append_assoc
      old (added_behind old now) (x ∷ []) in
      let same : added_behind old next ≡ added_behind old now ++ x ∷ [] = ap (added_behind old) whole ∙ drop-append_seam
      old (added_behind old now ++ x ∷ []) in
      (same, whole ∙ ap (λ xs. old ++ xs) (sym same))

-- the nodes of a table, with one more
pub nodes-push : (old now next : List Node) (n : Node) → now ≡ old ++ added_behind old now → next ≡ now ++ n ∷ []
    → map node_of (added_behind old next) ≡ map node_of (added_behind old now) ++ node_of n ∷ []
nodes-push old now next n kept pushed = ap (map node_of) (added-push old now next n kept pushed).0 ∙ map-append node_of
    (added_behind old now) (n ∷ [])

-- one step more takes the nodes that are appended with it
steps_of_table-push : (steps : List Step) (nodes fresh : List Node) (s : Step) → sum_by (λ s. s.fresh) steps ≡ length
    nodes → s.fresh ≡ length fresh
    → steps_of_table (steps ++ s ∷ []) (nodes ++ fresh) ≡ steps_of_table steps nodes ++ step_of s fresh ∷ []
steps_of_table-push [] [] fresh s counted count = ap (λ ns. step_of s ns ∷ []) (ap (λ n. take n fresh) count
    ∙ take_all (length fresh) fresh (omega arith))
steps_of_table-push [] (n ∷ nodes) fresh s counted count = absurd (omega (arith, counted))
steps_of_table-push (t ∷ steps) nodes fresh s counted count =
    let sum = sum_by-cons (λ s. s.fresh) t steps in
    let enough : t.fresh ≤ length nodes = omega (arith, counted, sum) in
    let left : sum_by (λ s. s.fresh) steps ≡ length (drop t.fresh nodes) =
    omega (arith, counted, sum, length-drop t.fresh nodes) in
    ap (λ ns. step_of t ns ∷ steps_of_table (steps ++ s ∷ []) (drop t.fresh (nodes ++ fresh)))
    (take-append-le t.fresh nodes fresh enough)
    ∙ ap (λ ns. step_of t (take t.fresh nodes) ∷ steps_of_table (steps ++ s ∷ []) ns)
    (drop-append-le t.fresh nodes fresh enough)
    ∙ ap (λ ss. step_of t (take t.fresh nodes) ∷ ss) (steps_of_table-push steps (drop t.fresh nodes) fresh s left count)

-- a table with one step more, and the nodes that it added
pub record Further (steps more : List Step) (nodes all : List Node) (s : Step) : Type 0 where
  pub taken : steps_of_table more all ≡ steps_of_table steps nodes ++ step_of s (added_behind nodes all) ∷ []
  pub counted : sum_by (λ s. s.fresh) more ≡ length all

pub steps_further : (steps more : List Step) (nodes all : List Node) (s : Step)
    → sum_by (λ s. s.fresh) steps ≡ length nodes → more ≡ steps ++ s ∷ [] → all ≡ nodes ++ added_behind nodes all
    → length all ≡ length nodes + s.fresh → Further steps more nodes all s
steps_further steps more nodes all s counted pushed kept count =
    let fresh : s.fresh ≡ length (added_behind nodes all) =
    omega (arith, count, ap length kept, length-append nodes (added_behind nodes all)) in
    record {
      taken = ap (λ ss. steps_of_table ss all) pushed ∙ ap (steps_of_table (steps ++ s ∷ [])) kept ∙ steps_of_table-push
          steps nodes (added_behind nodes all) s counted fresh;
      counted =
          omega (
            arith,
            ap (sum_by (λ s. s.fresh)) pushed,
            sum_by-append (λ s. s.fresh) steps (s ∷ []),
            sum_by-cons (λ s. s.fresh) s [],
            counted,
            count,
          );
    }
