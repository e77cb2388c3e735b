use Rattle.std.proofs.Common.{List, [], ◌∷◌, ◌++◌, length, ap, refl, sym, ◌∙◌, subst, arith}
use Rattle.std.specs.Prelude.{map}
use Rattle.tw_base.specs.history.Tree.{IsRising, entries}
use Rattle.tw_rbnode.specs.declared.child.Child.{Child}
use Rattle.tw_rbnode.specs.Trees.{page_label, woven}
use Rattle.tw_rbtree.specs.Growing.{IsOverLevel}
use Rattle.tw_rbtree.specs.Standing.{AreTrees, IsTreeBelow, HasNamed}
use Rattle.tw_rbtree.proofs.PutLaws.{root-is_of}
use Rattle.tw_rbtree.proofs.RootGrowing.{root-stands}
use Rattle.tw_rbtree.proofs.Staging.{above-named, put_behind, staged-tree}
use Rattle.tw_rbtree.proofs.inserting.stage_single.Goals as goal

pub returns-clause-lists : goal.returns-clause-lists
returns-clause-lists g c = λ ps told named under ts are rising.
    let dig = g.H.Hasher.dig in
    let used = g.met.P.Pages.told_count c.args.pages.now ps told in
    let node = c.single-node in
    let ok = c.in_ok-stage_node in
    let put = ok.ensures.put in
    let over : IsOverLevel dig (HasNamed named) ps c.args.own 1 node.result
    (woven (map entries ts) (c.args.middle ∷ [])) = record {
      level_is = node.ensures.level;
      least_keys = omega (arith, ap length node.ensures.entries);
      trees = ts;
      are_trees = subst (λ (cs : List Child). AreTrees (IsTreeBelow dig (HasNamed named) ps c.args.own) cs ts)
          (sym node.ensures.children) are;
      lists = ap (woven (map entries ts)) node.ensures.entries;
    } in
    let tree = staged-tree dig (HasNamed named) ps put.0 ((g.P.Pages.view c.args.pages.now).used) c.args.own 1
    node.result ok.field-0 (woven (map entries ts) (c.args.middle ∷ [])) (above-named named _ under) used
    ok.ensures.staged put.1 ok.ensures.node node.ensures.kinds over in (
      ps ++ put.0 ∷ [],
      tree.0,
      put_behind _ ps put.0 _ told put.2,
      root-stands dig (HasNamed named) (ps ++ put.0 ∷ []) c.args.own 1 ok.field-0 tree.0 c.root_of.result (omega arith)
          tree.1 (subst IsRising (sym tree.2) rising) c.root_of.ensures.page c.root_of.ensures.label,
      tree.2,
    )

pub returns-clause-put : goal.returns-clause-put
returns-clause-put g c = λ ps told.
    let node = c.single-node in
    let ok = c.in_ok-stage_node in
    let put = ok.ensures.put in
    let is = root-is_of c.root_of.result ((g.P.Pages.view c.args.pages.now).used) (page_label g.H.Hasher.dig
    node.result) (c.root_of.ensures.page ∙ ok.ensures.staged.page_is)
    (c.root_of.ensures.label ∙ ok.ensures.staged.label_is) in (
      put.0 ∷ [],
      put_behind _ ps put.0 _ told put.2,
      (
        node.result,
        put.0,
        record { node = ok.ensures.node; spelled = put.1 },
        refl,
        is,
        node.ensures.level,
        node.ensures.entries,
        node.ensures.children,
      ),
    )
