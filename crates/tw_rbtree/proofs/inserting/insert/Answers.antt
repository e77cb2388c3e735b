use Rattle.std.proofs.Common.{[], ◌∷◌, ap, refl, sym, ◌∙◌}
use Rattle.std.specs.Prelude.{Ok}
use Rattle.tw_base.specs.history.Asking.{with_entry}
use Rattle.tw_base.specs.history.Tree.{Tree, entries}
use Rattle.tw_base.specs.history.Tree.Tree.{Empty}
use Rattle.tw_rbtree.specs.Standing.{HasNamed}
use Rattle.tw_rbtree.proofs.GrowLaws.{leaf-below}
use Rattle.tw_rbtree.proofs.PutLaws.{put-empty}
use Rattle.tw_rbtree.proofs.RootGrowing.{empty-tree, inserted-plain}
use Rattle.tw_rbtree.proofs.inserting.insert.Goals as goal

pub returns-then-root-eq0-clause-inserted : goal.returns-then-root-eq0-clause-inserted
returns-then-root-eq0-clause-inserted g c = λ ps told named under t stands.
    let dig = g.H.Hasher.dig in
    let none = empty-tree dig (HasNamed named) ps c.args.root.now t stands c.if-root-eq0.true in
    let leaf = leaf-below dig (HasNamed named) ps 0 (record { page = 0; label = c.empty_tree.result }) refl in
    let lists = c.in_ok-stage_single.ensures.lists ps told named under (Empty ∷ Empty ∷ []) (leaf, (leaf, tt))
    (tt, tt) in
    (lists.0, lists.1, lists.2, lists.3, lists.4 ∙ ap (λ (x : Tree). with_entry (entries x) c.args.entry) (sym none))

pub returns-then-root-eq0-clause-plain : goal.returns-then-root-eq0-clause-plain
returns-then-root-eq0-clause-plain g c = λ ps told.
    inserted-plain g.H.Hasher.dig ps _ c.args.entry _ _ (Ok c.in_ok-stage_single.field-0)
    (returns-then-root-eq0-clause-inserted g c ps told)

pub returns-then-root-eq0-clause-put : goal.returns-then-root-eq0-clause-put
returns-then-root-eq0-clause-put g c = λ ps told.
    let put = c.in_ok-stage_single.ensures.put ps told in
    put-empty g.H.Hasher.dig ps c.args.root.now c.args.entry c.in_ok-stage_single.field-0 _ c.empty_tree.result
    ((g.P.Pages.view c.args.pages.now).used) put.0 c.if-root-eq0.true c.empty_tree.ensures
    (g.met.P.Pages.told_count c.args.pages.now ps told) put.1 put.2

pub returns-clause-plain : goal.returns-clause-plain
returns-clause-plain g c = λ ps told.
    inserted-plain g.H.Hasher.dig ps _ c.args.entry _ _ c.insert_below.result
    (c.insert_below.ensures.inserted ps told)
