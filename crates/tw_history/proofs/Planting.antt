-- How the trees of new nodes come one by one, and what is kept of them.
use Rattle.std.proofs.Common.{◌≡◌, ◌↔◌, ℕ, suc, zero, ◌+◌, ◌<◌, ◌≤◌, List, [], ◌∷◌, ◌++◌, length, get_or, map, refl, ap}
use Rattle.std.proofs.Common.{sym, subst, ◌∙◌, Option, Some, None, Bool, IsTrue, drop, add-one}
use Rattle.std.specs.Prelude.{if◌then◌else◌, is_some, option_map, IsSome}
use Rattle.std.proofs.lemmas.Bool.{le-leb, lt-leb}
use Rattle.std.proofs.lemmas.List.{append-nil, append_assoc, get_or-map, length_push, map-append}
use Rattle.std.proofs.Math.Seq.{drop-cons}
use Rattle.tw_base.specs.declared.history.thread.Entry.{Entry}
use Rattle.tw_base.specs.declared.history.thread.Key.{Key}
use Rattle.tw_base.specs.kinds.Lists.{Each}
use Rattle.tw_base.specs.history.Entries.{key_of}
use Rattle.tw_base.specs.history.History.{History, Node, entry_at, entry_to, fresh_of, step_at}
use Rattle.tw_base.specs.history.Rules.{NodesFit}
use Rattle.tw_base.specs.history.Tree.{Tree, IsRising, branch, entries, forest, new_trees, planted}
use Rattle.tw_base.specs.history.Tree.Tree.{Empty, Branch}
use Rattle.tw_base.proofs.lemmas.kinds.ListLemmas.{Each-append, Each-get_or, Each-parts}
use Rattle.tw_base.proofs.lemmas.history.Trees.{entry_at-parts, entry_to-at}
use Rattle.tw_history.specs.declared.soundness.summary.Summary.{Summary}
use Rattle.tw_history.specs.declared.step.Node.{Node as NodeOfTable}
use Rattle.tw_history.specs.JudgingSteps.{AreReceived, summary_of}
use Rattle.tw_history.specs.Tables.{node_of}

abbrev pub Rises : Tree → Type 0
Rises t = IsRising (entries t)

-- the trees so far, after some of the new nodes of step i + 1; the rest of the nodes is still to be planted
pub record Planted (h : History) (i : ℕ) (summaries : List Summary) (rest : List Node) : Type 0 where
  pub trees : List Tree
  pub kept : summaries ≡ map summary_of trees
  pub rise : Each Rises trees
  pub ahead : trees ++ planted (entry_to h (suc i)) trees rest ≡ forest h (suc i)
  pub fit : NodesFit h (suc i) (length trees) rest

-- each entry of a tree so far is the thread that its step received
abbrev pub Received : History → Tree → Type 0
Received h t = AreReceived h (entries t)

branch-received : (h : History) (i k : ℕ) (o : Option Entry) (l r : Tree) → entry_to h i k ≡ o → Received h l
    → Received h r → Received h (branch o l r)
branch-received h i k None l r at left right = tt
branch-received h i k (Some e) l r at left right =
    let there = (entry_to-at h i k e at).1 in
    let here : entry_at h e.archived ≡ Some e = subst (λ n. entry_at h n ≡ Some e) (entry_at-parts h k e there).0
    there in
    Each-append _ (entries l) (e ∷ entries r) left (here, right)

planted-received : (h : History) (i : ℕ) (trees : List Tree) (ns : List Node) → Each (Received h) trees
    → Each (Received h) (planted (entry_to h i) trees ns)
unfolding planted
planted-received h i trees [] all = tt
planted-received h i trees (n ∷ ns) all =
    let here = branch-received h i n.entry (entry_to h i n.entry) _ _ refl (Each-get_or (Received h) trees n.left Empty
    tt all) (Each-get_or (Received h) trees n.right Empty tt all) in (
      here,
      planted-received h i (trees ++ branch (entry_to h i n.entry) (get_or trees n.left Empty)
          (get_or trees n.right Empty) ∷ []) ns (Each-append (Received h) trees _ all (here, tt)),
    )

pub forest-received : (h : History) (i : ℕ) → Each (Received h) (forest h i)
unfolding forest
forest-received h zero = (tt, tt)
forest-received h (suc i) = Each-append (Received h) (forest h i) _ (forest-received h i)
    (planted-received h (suc i) (forest h i) _ (forest-received h i))

pub forest-next : (h : History) (i : ℕ) → forest h (suc i) ≡ forest h i ++ new_trees h i
unfolding forest
forest-next h i = refl

-- before the first of the new nodes
pub planted-first : (h : History) (i : ℕ) (summaries : List Summary) (nodes : List Node) → fresh_of (step_at h (suc i))
    ≡ nodes → summaries ≡ map summary_of (forest h i)
    → Each Rises (forest h i) → NodesFit h (suc i) (length (forest h i)) nodes → Planted h i summaries nodes
planted-first h i summaries nodes fresh kept rise fit = record {
  trees = forest h i;
  kept = kept;
  rise = rise;
  ahead = sym (forest-next h i ∙ ap (λ ns. forest h i ++ planted (entry_to h (suc i)) (forest h i) ns) fresh);
  fit = fit;
}

-- after the last
pub planted-last : (h : History) (i : ℕ) (summaries : List Summary) → Planted h i summaries []
    → (summaries ≡ map summary_of (forest h (suc i))) × Each Rises (new_trees h i)
unfolding planted
planted-last h i summaries p =
    let all : p.trees ≡ forest h (suc i) = sym (append-nil p.trees) ∙ p.ahead in (
      p.kept ∙ ap (map summary_of) all,
      (Each-parts Rises (forest h i) (new_trees h i) (subst (Each Rises) (all ∙ forest-next h i) p.rise)).1,
    )

module _ (h : History) (i : ℕ) (summaries : List Summary) (n : Node) (ns : List Node)
    (p : Planted h i summaries (n ∷ ns)) where
  abbrev pub left_of : Tree
  left_of = get_or p.trees n.left Empty

  abbrev pub right_of : Tree
  right_of = get_or p.trees n.right Empty

  received-so_far : Each (Received h) p.trees
  received-so_far =
      (Each-parts (Received h) p.trees _ (subst (Each (Received h)) (sym p.ahead) (forest-received h (suc i)))).0

  -- what is kept of a node so far is the summary of its tree
  pub summary-of_node : (k : ℕ) (d : Summary) → k < length p.trees → get_or summaries k d ≡ summary_of
      (get_or p.trees k Empty)
  summary-of_node k d within = ap (λ xs. get_or xs k d) p.kept ∙ get_or-map summary_of p.trees k Empty d within

  pub received-of_node : (k : ℕ) → Received h (get_or p.trees k Empty)
  received-of_node k = Each-get_or (Received h) p.trees k Empty tt received-so_far

  pub rises-of_node : (k : ℕ) → Rises (get_or p.trees k Empty)
  rises-of_node k = Each-get_or Rises p.trees k Empty tt p.rise

  planted-more : (e : Entry) → entry_to h (suc i) n.entry ≡ Some e
      → planted (entry_to h (suc i)) p.trees (n ∷ ns) ≡ Branch left_of e right_of ∷ planted (entry_to h (suc i))
      (p.trees ++ Branch left_of e right_of ∷ []) ns
  unfolding planted
  planted-more e at = ap (λ (o : Option Entry). branch o left_of right_of ∷ planted (entry_to h (suc i))
      (p.trees ++ branch o left_of right_of ∷ []) ns) at

  -- with one more tree that rises
  pub planted-next : (e : Entry) (s : Summary) → entry_to h (suc i) n.entry ≡ Some e
      → s ≡ summary_of (Branch left_of e right_of) → Rises (Branch left_of e right_of)
      → Planted h i (summaries ++ s ∷ []) ns
  planted-next e s at is rises =
      let t : Tree = Branch left_of e right_of in
      record {
        trees = p.trees ++ t ∷ [];
        kept = ap (λ xs. xs ++ s ∷ []) p.kept ∙ ap (λ (x : Summary). map summary_of p.trees ++ x ∷ []) is
            ∙ sym (map-append summary_of p.trees (t ∷ []));
        rise = Each-append Rises p.trees (t ∷ []) p.rise (rises, tt);
        ahead = append_assoc p.trees (t ∷ []) (planted (entry_to h (suc i)) (p.trees ++ t ∷ []) ns)
            ∙ ap (λ xs. p.trees ++ xs) (sym (planted-more e at)) ∙ p.ahead;
        fit = subst (λ m. NodesFit h (suc i) m ns) (sym (length_push p.trees t ∙ add-one (length p.trees))) p.fit.1;
      }

  -- a tree that doesn't rise is one of the step's new trees
  pub planted-breaks : (e : Entry) → entry_to h (suc i) n.entry ≡ Some e → Each Rises (forest h i)
      → (Rises (Branch left_of e right_of) → ⊥) → Each Rises (new_trees h i) → ⊥
  planted-breaks e at before falls all =
      let every : Each Rises (forest h (suc i)) = subst (Each Rises) (sym (forest-next h i))
      (Each-append Rises (forest h i) (new_trees h i) before all) in
      let ahead = (Each-parts Rises p.trees _ (subst (Each Rises) (sym p.ahead) every)).1 in
      falls (subst (Each Rises) (planted-more e at) ahead).0

  -- the entry of the node
  pub entry-of_node : (e : Entry) × (entry_to h (suc i) n.entry ≡ Some e) × (entry_at h n.entry ≡ Some e)
      × (n.entry ≡ e.archived)
  entry-of_node = by (entry_to h (suc i) n.entry) refl p.fit.0.2
    where
      by : (o : Option Entry) → entry_to h (suc i) n.entry ≡ o → IsSome o → (e : Entry)
          × (entry_to h (suc i) n.entry ≡ Some e) × (entry_at h n.entry ≡ Some e) × (n.entry ≡ e.archived)
      by None at some = cc
      by (Some e) at some =
          let there = (entry_to-at h (suc i) n.entry e at).1 in (e, at, there, (entry_at-parts h n.entry e there).0)

  -- whether the node's tree rises, by a test of whatever sides and entry
  pub rises_by : (left right d f : Summary) (rises : Bool) → left ≡ get_or summaries n.left d
      → right ≡ get_or summaries n.right f
      → ((l r : Tree) (e : Entry) → left ≡ summary_of l → right ≡ summary_of r → Received h l → Received h r → Rises l
      → Rises r → entry_at h n.entry ≡ Some e → IsTrue rises ↔ Rises (Branch l e r))
      → (left ≡ summary_of left_of) × (right ≡ summary_of right_of)
      × (IsTrue rises ↔ Rises (Branch left_of entry-of_node.0 right_of))
  rises_by left right d f rises left_is right_is test =
      let one = left_is ∙ summary-of_node n.left d p.fit.0.0 in
      let other = right_is ∙ summary-of_node n.right f p.fit.0.1 in (
        one,
        other,
        test left_of right_of entry-of_node.0 one other (received-of_node n.left) (received-of_node n.right)
            (rises-of_node n.left) (rises-of_node n.right) entry-of_node.2,
      )

-- whether there is an entry of a step up to i
pub entry_to-within : (h : History) (i k : ℕ) → k ≤ i → entry_to h i k ≡ entry_at h k
unfolding entry_to
entry_to-within h i k within = ap (λ b. if b then entry_at h k else None) (le-leb k i within)

pub entry_to-past : (h : History) (i k : ℕ) → i < k → entry_to h i k ≡ None
unfolding entry_to
entry_to-past h i k past = ap (λ b. if b then entry_at h k else None) (lt-leb k i past)

pub some_key : (o : Option Entry) (key : Option Key) → key ≡ option_map key_of o → IsTrue (is_some key) ↔ IsSome o
some_key None key is = ((λ yes. cc), (λ some. cc))
some_key (Some e) key is = ((λ _. refl), (λ _. ap is_some is))

-- the nodes that are left, by their index
pub nodes_left : (nodes : List NodeOfTable) (k : ℕ) (d : NodeOfTable) → k < length nodes → map node_of (drop k nodes)
    ≡ node_of (get_or nodes k d) ∷ map node_of (drop (k + 1) nodes)
nodes_left nodes k d within = ap (map node_of) (drop-cons nodes k d within)
    ∙ ap (λ m. node_of (get_or nodes k d) ∷ map node_of (drop m nodes)) (sym (add-one k))
