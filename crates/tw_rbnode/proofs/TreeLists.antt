-- The list of a page's tree: those of its children, with the page's entries between them.
use Rattle.std.proofs.Common.{◌≡◌, ℕ, suc, zero, ◌+◌, ◌<◌, ◌≤◌, List, [], ◌∷◌, ◌++◌, length, Option, Some, None, refl}
use Rattle.std.proofs.Common.{sym, ap, ◌∙◌, arith, slice_get, append_assoc}
use Rattle.std.specs.Prelude.{map, slice_index_or}
use Rattle.std.proofs.lemmas.Option.{none-some, same_Some}
use Rattle.tw_base.specs.declared.history.thread.Entry.{Entry}
use Rattle.tw_base.specs.history.Tree.{Tree, branch, entries}
use Rattle.tw_base.specs.history.Tree.Tree.{Empty as NoEntry}
use Rattle.tw_rbnode.specs.Page.{IsNode, TreePage}
use Rattle.tw_rbnode.specs.Shape.{Shape, Empty, Node, size}
use Rattle.tw_rbnode.specs.Trees.{page_tree, tree_at, woven}

-- what the entries behind base list, so many of them, with the trees from base on
unfoldable window : List Entry → List Tree → (base n : ℕ) → List Entry
window es trees base zero = entries (slice_index_or trees base NoEntry)
window es trees base (suc n) = entries (slice_index_or trees base NoEntry) ++ elim (slice_get es base)
    [ None ↦ [] | Some e ↦ e ∷ window es trees (base + 1) n ]

module _ (es : List Entry) (trees : List Tree) where
  window-more : (base n : ℕ) (e : Entry) → slice_get es base ≡ Some e → window es trees base (suc n) ≡ entries
      (slice_index_or trees base NoEntry) ++ e ∷ window es trees (base + 1) n
  unfolding window
  window-more base n e h = rw h refl

  window-zero : (base : ℕ) → window es trees base 0 ≡ entries (slice_index_or trees base NoEntry)
  unfolding window
  window-zero base = refl

  pub get-some : (xs : List Entry) (i : ℕ) → i < length xs → (e : Entry) × (slice_get xs i ≡ Some e)
  get-some [] i l = absurd (omega arith)
  get-some (x ∷ xs) zero l = (x, refl)
  get-some (x ∷ xs) (suc i) l = get-some xs i (omega arith)

  window-cut : (base l r : ℕ) (e : Entry) → base + l + 1 + r ≤ length es → slice_get es (base + l) ≡ Some e
      → window es trees base (l + 1 + r) ≡ window es trees base l ++ e ∷ window es trees (base + l + 1) r
  window-cut base zero r e room h =
      ap (window es trees base) (let s : 0 + 1 + r ≡ suc r = omega arith in s)
      ∙ window-more base r e (ap (slice_get es) (let s : base ≡ base + 0 = omega arith in s) ∙ h)
      ∙ (λ i. sym (window-zero base) i ++ e ∷ window es trees (let s : base + 1 ≡ base + 0 + 1 = omega arith in s i) r)
  window-cut base (suc l) r e room h =
      let first = get-some es base (omega arith) in
      let f = first.0 in
      let rest = window-cut (base + 1) l r e (omega (arith, room))
      (ap (slice_get es) (let s : base + 1 + l ≡ base + suc l = omega arith in s) ∙ h) in
      let t = entries (slice_index_or trees base NoEntry) in
      ap (window es trees base) (let s : suc l + 1 + r ≡ suc (l + 1 + r) = omega arith in s)
      ∙ window-more base (l + 1 + r) f first.1
      ∙ ap (λ (xs : List Entry). t ++ f ∷ xs) rest
      ∙ sym (append_assoc t (f ∷ window es trees (base + 1) l) (e ∷ window es trees (base + 1 + l + 1) r))
      ∙ (λ i. sym (window-more base l f first.1) i ++ e ∷ window es trees (let s : base + 1 + l + 1 ≡ base + suc l + 1 =
      omega arith in s i) r)

  branch-list : (o : Option Entry) (e : Entry) (l r : Tree) → o ≡ Some e → entries (branch o l r) ≡ entries l ++ e
      ∷ entries r
  branch-list None e l r h = absurd (none-some e h)
  branch-list (Some f) e l r h = ap (λ (g : Entry). entries l ++ g ∷ entries r) (same_Some _ _ h)

  tree-window : (base : ℕ) (t : Shape) → base + size t ≤ length es → entries (tree_at es trees base t) ≡ window es trees
      base (size t)
  unfolding tree_at
  tree-window base Empty room = sym (window-zero base)
  tree-window base (Node red l r) room =
      let here = get-some es (base + size l) (omega (arith, room)) in
      branch-list (slice_get es (base + size l)) here.0 (tree_at es trees base l)
      (tree_at es trees (base + size l + 1) r) here.1
      ∙ (λ i. tree-window base l (omega (arith, room)) i ++ here.0 ∷ tree-window (base + size l + 1) r
      (omega (arith, room)) i)
      ∙ sym (window-cut base (size l) (size r) here.0 (omega (arith, room)) here.1)

-- the window over all of a page is what is woven
drop-window : (e : Entry) (es : List Entry) (t : Tree) (trees : List Tree) (base n : ℕ) → window (e ∷ es) (t ∷ trees)
    (suc base) n ≡ window es trees base n
unfolding window
drop-window e es t trees base zero = refl
drop-window e es t trees base (suc n) =
    over (slice_get es base) (ap (λ (b : ℕ). window (e ∷ es) (t ∷ trees) b n) (let s : suc base + 1 ≡ suc (base + 1) =
    omega arith in s) ∙ drop-window e es t trees (base + 1) n)
  where
    over : (o : Option Entry) → window (e ∷ es) (t ∷ trees) (suc base + 1) n ≡ window es trees (base + 1) n
        → entries (slice_index_or trees base NoEntry) ++ elim o
        [ None ↦ [] | Some f ↦ f ∷ window (e ∷ es) (t ∷ trees) (suc base + 1) n ]
        ≡ entries (slice_index_or trees base NoEntry) ++ elim o
        [ None ↦ [] | Some f ↦ f ∷ window es trees (base + 1) n ]
    over None rest = refl
    over (Some f) rest = ap (λ (xs : List Entry). entries (slice_index_or trees base NoEntry) ++ f ∷ xs) rest

whole-window : (es : List Entry) (trees : List Tree) → length trees ≡ length es + 1 → window es trees 0 (length es)
    ≡ woven (map entries trees) es
whole-window es [] h = absurd (omega (arith, h))
whole-window [] (t ∷ trees) h = window-zero [] (t ∷ trees) 0
whole-window (e ∷ es) (t ∷ trees) h =
    window-more (e ∷ es) (t ∷ trees) 0 (length es) e refl
    ∙ ap (λ (xs : List Entry). entries t ++ e ∷ xs) (drop-window e es t trees 0 (length es) ∙ whole-window es trees
    (omega (arith, h)))

pub page-list : (p : TreePage) (trees : List Tree) → IsNode p → length trees ≡ length p.children
    → entries (page_tree p trees) ≡ woven (map entries trees) p.entries
page-list p trees node count =
    tree-window p.entries trees 0 p.shape (omega (arith, node.sized)) ∙ ap (window p.entries trees 0) node.sized
    ∙ whole-window p.entries trees (omega (arith, count, node.places))
