-- The texts that the authenticators of a history hash, in their order.
use Rattle.std.specs.Prelude.{ℕ, suc, zero, List, [], ◌∷◌, ◌++◌, length}
use Rattle.tw_base.specs.kinds.Texts.{genesis_text, empty_tree_text}
use Rattle.tw_base.specs.history.Entries.{entry_text}
use Rattle.tw_base.specs.events.EventTree.{event_texts}
use Rattle.tw_base.specs.history.History.{History, events_at}
use Rattle.tw_base.specs.history.Tree.{Tree, new_trees}
use Rattle.tw_base.specs.history.Tree.Tree.{Empty, Branch}
use Rattle.tw_base.specs.history.Auth.{auth_text, auths, datum_text_at, link_texts_at, tree_label}

module _ (dig : List ℕ → List ℕ) where
  -- the text of a tree's root
  abbrev pub top_texts : Tree → List (List ℕ)
  top_texts Empty = []
  top_texts (Branch left e right) = entry_text (tree_label dig left) e (tree_label dig right) ∷ []

  -- the texts of all nodes of a tree, and of the empty tree
  unfoldable pub tree_texts : Tree → List (List ℕ)
  tree_texts Empty = empty_tree_text ∷ []
  tree_texts (Branch left e right) = tree_texts left ++ (tree_texts right ++ entry_text (tree_label dig left) e (tree_label dig right) ∷ [])

  -- the texts of new nodes, of which the trees are given
  unfoldable pub node_texts : List Tree → List (List ℕ)
  node_texts [] = []
  node_texts (t ∷ ts) = top_texts t ++ node_texts ts

  -- those of step i + 1: its events, its new nodes, the datum, its links from level 0 on, and the authenticator
  unfoldable pub step_texts : History → ℕ → List (List ℕ)
  step_texts h i =
      event_texts dig (events_at h (suc i)) ++ (node_texts (new_trees h i)
      ++ (datum_text_at dig h (suc i) ∷ (link_texts_at dig h (auths dig h i) (suc i) ++ auth_text dig h (auths dig h i) (suc i) ∷ [])))

  unfoldable pub texts_to : History → ℕ → List (List ℕ)
  texts_to h zero = genesis_text h.name ∷ empty_tree_text ∷ []
  texts_to h (suc i) = texts_to h i ++ step_texts h i

  unfoldable pub history_texts : History → List (List ℕ)
  history_texts h = texts_to h (length h.steps)
