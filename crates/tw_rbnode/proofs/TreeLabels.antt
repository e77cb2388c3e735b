-- The label of a page is that of its tree.
use Rattle.std.proofs.Common.{◌≡◌, ℕ, suc, zero, ◌+◌, List, [], ◌∷◌, Option, Some, None, refl, ap, ◌∙◌, slice_get}
use Rattle.std.specs.Prelude.{map, slice_index_or}
use Rattle.tw_base.specs.declared.history.thread.Entry.{Entry}
use Rattle.tw_base.specs.history.Auth.{tree_label}
use Rattle.tw_base.specs.kinds.Texts.{empty_tree_text}
use Rattle.tw_base.specs.history.Tree.{Tree, branch}
use Rattle.tw_base.specs.history.Tree.Tree.{Empty as NoEntry}
use Rattle.tw_rbnode.specs.Page.{TreePage}
use Rattle.tw_rbnode.specs.Shape.{Shape, Empty, Node, size}
use Rattle.tw_rbnode.specs.Trees.{label_at, label_over, labels_of, page_label, page_tree, tree_at}

module _ (dig : List ℕ → List ℕ) where
  label_of-tree : (trees : List Tree) (i : ℕ) → slice_index_or (map (tree_label dig) trees) i (dig empty_tree_text)
      ≡ tree_label dig (slice_index_or trees i NoEntry)
  unfolding tree_label
  label_of-tree [] i = refl
  label_of-tree (t ∷ trees) zero = refl
  label_of-tree (t ∷ trees) (suc i) = label_of-tree trees i

  over-branch : (o : Option Entry) (left right : Tree) → label_over dig (tree_label dig left) o (tree_label dig right)
      ≡ tree_label dig (branch o left right)
  unfolding tree_label
  over-branch None left right = refl
  over-branch (Some e) left right = refl

  pub label-tree : (es : List Entry) (trees : List Tree) (base : ℕ) (t : Shape)
      → label_at dig es (map (tree_label dig) trees) base t ≡ tree_label dig (tree_at es trees base t)
  unfolding label_at tree_at
  label-tree es trees base Empty = label_of-tree trees base
  label-tree es trees base (Node red l r) =
      (λ k. label_over dig (label-tree es trees base l k) (slice_get es (base + size l))
      (label-tree es trees (base + size l + 1) r k))
      ∙ over-branch (slice_get es (base + size l)) (tree_at es trees base l) (tree_at es trees (base + size l + 1) r)

  pub page-label : (p : TreePage) (trees : List Tree) → labels_of p.children ≡ map (tree_label dig) trees
      → page_label dig p ≡ tree_label dig (page_tree p trees)
  page-label p trees e = ap (λ (ls : List (List ℕ)). label_at dig p.entries ls 0 p.shape) e ∙ label-tree p.entries trees
      0 p.shape
