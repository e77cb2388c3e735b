use Rattle.std.proofs.Common.{arith, [], ◌∷◌, ◌++◌, ◌∙◌, append_assoc, ap, refl, subst, sym}
use Rattle.std.specs.Prelude.{Some}
use Rattle.tw_disk.specs.Image.{Image}
use Rattle.tw_rbnode.specs.declared.node.Added.{Added}
use Rattle.tw_rbnode.specs.Children.{AddedHasChildren}
use Rattle.tw_rbtree.specs.Standing.{HasNamed}
use Rattle.tw_rbtree.specs.Growing.{AddedLists}
use Rattle.tw_rbtree.specs.Putting.{ArePages}
use Rattle.tw_disk.proofs.ReadingLaws.{only_adds_on}
use Rattle.tw_rbtree.proofs.Staging.{above-named, child_tree-kept, over-kept, put_behind, staged-tree}
use Rattle.tw_rbtree.proofs.inserting.stage_added.Goals as goal

pub returns-in_ok-stage_node-in-One-clause-lists : goal.returns-in_ok-stage_node-in-One-clause-lists
returns-in_ok-stage_node-in-One-clause-lists g c = λ ps told kinds named under own least es over.
    let used = g.met.P.Pages.told_count c.args.pages.now ps told in
    let ok = c.in_ok-stage_node-in-One in
    let own_over = subst (AddedLists g.H.Hasher.dig (HasNamed named) ps own least es) c.in-One.is over in
    let own_kinds = subst (AddedHasChildren g.H.Hasher.dig) c.in-One.is kinds in
    let put = ok.ensures.put in
    let tree = staged-tree g.H.Hasher.dig (HasNamed named) ps put.0 ((g.P.Pages.view c.args.pages.now).used) own least
    c.in-One.node ok.field-0 es (above-named named _ under) used
    ok.ensures.staged put.1 ok.ensures.node own_kinds own_over in
    (ps ++ put.0 ∷ [], put_behind _ ps put.0 _ told put.2, tree)

pub returns-in_ok-right-in-Two-clause-lists : goal.returns-in_ok-right-in-Two-clause-lists
returns-in_ok-right-in-Two-clause-lists g c = λ ps told kinds named under own least es over.
    let dig = g.H.Hasher.dig in
    let two = subst (AddedLists dig (HasNamed named) ps own least es) c.in-Two.is over in
    let both = subst (AddedHasChildren dig) c.in-Two.is kinds in
    let used = g.met.P.Pages.told_count c.args.pages.now ps told in
    let first = c.in_ok-left-in-Two in
    let second = c.in_ok-right-in-Two in
    let put = first.ensures.put in
    let mid : Image = ps ++ put.0 ∷ [] in
    let told_mid = put_behind _ ps put.0 _ told put.2 in
    let used_mid = g.met.P.Pages.told_count _ mid told_mid in
    let more = second.ensures.put in
    let told_last = put_behind _ mid more.0 _ told_mid more.2 in
    let l = staged-tree dig (HasNamed named) ps put.0 ((g.P.Pages.view c.args.pages.now).used) own 12 c.in-Two.left
    first.left two.0 (above-named named _ under) used first.ensures.staged put.1 first.ensures.node both.0 two.2 in
    let r = staged-tree dig (HasNamed named) mid more.0 _ own 12 c.in-Two.right second.right two.1
    (above-named named _ (omega (arith, under, first.ensures.used))) used_mid second.ensures.staged more.1
    second.ensures.node both.1
    (over-kept dig (HasNamed named) ps (put.0 ∷ []) own 12 c.in-Two.right two.1 two.3) in (
      mid ++ more.0 ∷ [],
      told_last,
      (
        l.0,
        r.0,
        child_tree-kept dig (HasNamed named) mid (more.0 ∷ []) own 12 first.left l.0 l.1,
        r.1,
        (λ i. l.2 i ++ c.in-Two.middle ∷ r.2 i) ∙ two.4,
      ),
    )

pub returns-in_err-right-in-Two-clause-kept : goal.returns-in_err-right-in-Two-clause-kept
returns-in_err-right-in-Two-clause-kept g c =
    only_adds_on g.P.Pages.view g.P.Pages.same _ _ _ (Unit {0}) (Unit {0}) (Unit {0}) g.met.P.Pages.same_on (λ good. tt)
    (λ good. tt)
    c.in_ok-left-in-Two.ensures.kept c.in_err-right-in-Two.ensures.kept

pub returns-in_ok-right-in-Two-clause-kept : goal.returns-in_ok-right-in-Two-clause-kept
returns-in_ok-right-in-Two-clause-kept g c =
    only_adds_on g.P.Pages.view g.P.Pages.same _ _ _ (Unit {0}) (Unit {0}) (Unit {0}) g.met.P.Pages.same_on (λ good. tt)
    (λ good. tt)
    c.in_ok-left-in-Two.ensures.kept c.in_ok-right-in-Two.ensures.kept

pub returns-in_ok-stage_node-in-One-clause-put : goal.returns-in_ok-stage_node-in-One-clause-put
returns-in_ok-stage_node-in-One-clause-put g c = λ ps told.
    let ok = c.in_ok-stage_node-in-One in
    let put = ok.ensures.put in (
      put.0 ∷ [],
      put_behind _ ps put.0 _ told put.2,
      subst (λ (a : Added). ArePages a (put.0 ∷ [])) (sym c.in-One.is)
          (put.0, record { node = ok.ensures.node; spelled = put.1 }, refl),
    )

pub returns-in_ok-right-in-Two-clause-put : goal.returns-in_ok-right-in-Two-clause-put
returns-in_ok-right-in-Two-clause-put g c = λ ps told.
    let first = c.in_ok-left-in-Two in
    let second = c.in_ok-right-in-Two in
    let put = first.ensures.put in
    let mid : Image = ps ++ put.0 ∷ [] in
    let told_mid = put_behind _ ps put.0 _ told put.2 in
    let more = second.ensures.put in
    let both : Image = put.0 ∷ more.0 ∷ [] in (
      both,
      put_behind _ mid more.0 _ told_mid more.2 ∙ ap (λ (xs : Image). Some xs)
          (append_assoc ps (put.0 ∷ []) (more.0 ∷ [])),
      subst (λ (a : Added). ArePages a both) (sym c.in-Two.is) (
        put.0,
        more.0,
        record { node = first.ensures.node; spelled = put.1 },
        record { node = second.ensures.node; spelled = more.1 },
        refl,
      ),
    )
