-- The children of pages with one more entry are of their level.
use Rattle.std.proofs.Common.{ℕ, ◌+◌, List, ◌∷◌, [], subst, sym}
use Rattle.tw_base.specs.declared.history.thread.Entry.{Entry}
use Rattle.tw_base.specs.kinds.Lists.{Each}
use Rattle.tw_base.proofs.lemmas.kinds.ListLemmas.{Each-parts}
use Rattle.tw_rbnode.specs.declared.child.Child.{Child}
use Rattle.tw_rbnode.specs.declared.node.Added.{Added}
use Rattle.tw_rbnode.specs.declared.node.Added.TheVariants.{One, Two}
use Rattle.tw_rbnode.specs.Answers.{IsAdded}
use Rattle.tw_rbnode.specs.Children.{AddedHasChildren, HasChildren, IsChildAt}
use Rattle.tw_rbnode.specs.Page.{TreePage}
use Rattle.tw_rbnode.proofs.Rising.{Each-two}

pub added_children : (dig : List ℕ → List ℕ) (p : TreePage) (place : ℕ) (entry : Entry) (left right : Child) (a : Added)
    → IsAdded p place entry left right a
    → IsChildAt dig p.level left → IsChildAt dig p.level right → HasChildren dig p → AddedHasChildren dig a
added_children dig p place entry left right (One one) is l r all =
    let P : List Child → Type 0 = Each (IsChildAt dig p.level) in
    let Q : ℕ → Type 0 = λ level. Each (IsChildAt dig level) one.children in
    subst Q (sym is.level) (subst P (sym is.children) (Each-two (IsChildAt dig p.level) p.children place (place + 1)
    (left ∷ right ∷ []) all (l, (r, tt))))
added_children dig p place entry left right (Two first middle second) is l r all =
    let P : List Child → Type 0 = Each (IsChildAt dig p.level) in
    let Q : ℕ → Type 0 = λ level. Each (IsChildAt dig level) first.children in
    let R : ℕ → Type 0 = λ level. Each (IsChildAt dig level) second.children in
    let both = Each-parts (IsChildAt dig p.level) first.children second.children
    (subst P (sym is.children) (Each-two (IsChildAt dig p.level) p.children place (place + 1) (left ∷ right ∷ []) all
    (l, (r, tt)))) in
    (subst Q (sym is.levels.0) both.0, subst R (sym is.levels.1) both.1)
