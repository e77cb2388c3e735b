-- The texts of each archive of a history are texts of the history.
use Rattle.std.proofs.Common.{ℕ, suc, zero, ◌<◌, ◌≤◌, List, [], ◌∷◌, ◌++◌, length, get_or, sym, subst, arith, inl, inr}
use Rattle.std.specs.Prelude.{Option, Some, None}
use Rattle.tw_base.specs.declared.history.thread.Entry.{Entry}
use Rattle.tw_base.specs.kinds.Texts.{empty_tree_text}
use Rattle.tw_base.specs.kinds.Clash.{Among, Within}
use Rattle.tw_base.specs.kinds.Lists.{Each}
use Rattle.tw_base.specs.history.History.{History, Node, entry_to, fresh_of, root_of, step_at}
use Rattle.tw_base.specs.history.Tree.{Tree, branch, forest, new_trees, planted, tree}
use Rattle.tw_base.specs.history.Tree.Tree.{Empty}
use Rattle.tw_base.specs.history.HistoryTexts.{history_texts, node_texts, top_texts, tree_texts}
use Rattle.tw_base.proofs.lemmas.kinds.Clashes.{Among-left, Among-right}
use Rattle.tw_base.proofs.lemmas.kinds.ListLemmas.{Each-append, Each-get_or}
use Rattle.tw_base.proofs.lemmas.history.Auths.{has-empty_text, has-node_text}

pub joined_within : (xs ys texts : List (List ℕ)) → Within xs texts → Within ys texts → Within (xs ++ ys) texts
joined_within [] ys texts p q text a = q text a
joined_within (x ∷ xs) ys texts p q text (inl e) = p text (inl e)
joined_within (x ∷ xs) ys texts p q text (inr a) = joined_within xs ys texts (λ t b. p t (inr b)) q text a

one_text : (texts : List (List ℕ)) (text : List ℕ) → Among text (empty_tree_text ∷ []) → Among empty_tree_text texts
    → Among text texts
one_text texts text (inl e) p = subst (λ t. Among t texts) (sym e) p
one_text texts text (inr a) p = absurd a

module _ (dig : List ℕ → List ℕ) (texts : List (List ℕ)) (none : Among empty_tree_text texts) where
  abbrev TextsIn : Tree → Type 0
  TextsIn t = Within (tree_texts dig t) texts

  empty-texts : TextsIn Empty
  unfolding tree_texts
  empty-texts text a = one_text texts text a none

  branch-texts : (e : Option Entry) (l r : Tree) → TextsIn l → TextsIn r → Within (top_texts dig (branch e l r)) texts
      → TextsIn (branch e l r)
  unfolding tree_texts
  branch-texts None l r left right top = λ text a. one_text texts text a none
  branch-texts (Some e) l r left right top = λ text a.
      joined_within (tree_texts dig l) _ texts left (joined_within (tree_texts dig r) _ texts right top) text a

  planted-texts : (entry : ℕ → Option Entry) (trees : List Tree) (ns : List Node) → Each TextsIn trees
      → Within (node_texts dig (planted entry trees ns)) texts → Each TextsIn (planted entry trees ns)
  unfolding planted node_texts
  planted-texts entry trees [] all tops = tt
  planted-texts entry trees (n ∷ ns) all tops =
      let t : Tree = branch (entry n.entry) (get_or trees n.left Empty) (get_or trees n.right Empty) in
      let here : TextsIn t = branch-texts (entry n.entry) _ _
      (Each-get_or TextsIn trees n.left Empty empty-texts all) (Each-get_or TextsIn trees n.right Empty empty-texts all)
      (λ text a. tops text (Among-left text (top_texts dig t) _ a)) in (
        here,
        planted-texts entry (trees ++ t ∷ []) ns (Each-append TextsIn trees (t ∷ []) all (here, tt))
            (λ text a. tops text (Among-right text (top_texts dig t) _ a)),
      )

  forest-texts : (h : History) (i : ℕ) → ((k : ℕ) → k < i → Within (node_texts dig (new_trees h k)) texts)
      → Each TextsIn (forest h i)
  unfolding forest
  forest-texts h zero news = (empty-texts, tt)
  forest-texts h (suc i) news =
      let before = forest-texts h i (λ k l. news k (omega arith)) in
      Each-append TextsIn (forest h i) (new_trees h i) before
      (planted-texts (entry_to h (suc i)) (forest h i) (fresh_of (step_at h (suc i))) before (news i (omega arith)))

pub tree_texts-within : (dig : List ℕ → List ℕ) (h : History) (i : ℕ) → i ≤ length h.steps
    → Within (tree_texts dig (tree h i)) (history_texts dig h)
unfolding tree
tree_texts-within dig h i within =
    let none : Among empty_tree_text (history_texts dig h) = has-empty_text dig h in
    Each-get_or (TextsIn dig (history_texts dig h) none) (forest h i) (root_of (step_at h i)) Empty
    (empty-texts dig (history_texts dig h) none)
    (forest-texts dig (history_texts dig h) none h i (λ k l text a. has-node_text dig h text k (omega arith) a))
