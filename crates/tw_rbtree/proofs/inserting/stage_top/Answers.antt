use Rattle.std.proofs.Common.{◌≡◌, ℕ, suc, ◌+◌, [], ◌∷◌, ap, refl, sym, ◌∙◌, subst, arith}
use Rattle.std.specs.Prelude.{Some}
use Rattle.std.proofs.lemmas.List.{append-nil}
use Rattle.tw_base.specs.history.Tree.{IsRising, Tree}
use Rattle.tw_disk.specs.Image.{Image}
use Rattle.tw_rbnode.specs.declared.child.Child.{Child}
use Rattle.tw_rbtree.specs.declared.inserting.Grown.{Grown}
use Rattle.tw_rbtree.specs.Growing.{GrownLists, IsChildTree}
use Rattle.tw_rbtree.specs.Putting.{IsTop}
use Rattle.tw_rbtree.specs.Standing.{HasNamed, IsTreeBelow}
use Rattle.tw_rbtree.proofs.GrowLaws.{less-keys}
use Rattle.tw_rbtree.proofs.PutLaws.{root-is_of}
use Rattle.tw_rbtree.proofs.RootGrowing.{root-stands}
use Rattle.tw_rbtree.proofs.inserting.stage_top.Goals as goal

pub returns-in-One-clause-lists : goal.returns-in-One-clause-lists
returns-in-One-clause-lists g c = λ ps told named under least some es rising lists.
    let dig = g.H.Hasher.dig in
    let one = subst (GrownLists dig (HasNamed named) ps c.args.own least es) c.in-One.is lists in (
      ps,
      one.0,
      told,
      root-stands dig (HasNamed named) ps c.args.own least c.in-One.child one.0 c.root_of.result some one.1
          (subst IsRising (sym one.2) rising) c.root_of.ensures.page c.root_of.ensures.label,
      one.2,
    )

pub returns-in_ok-stage_single-in-Two-clause-lists : goal.returns-in_ok-stage_single-in-Two-clause-lists
returns-in_ok-stage_single-in-Two-clause-lists g c = λ ps told named under least some es rising lists.
    let dig = g.H.Hasher.dig in
    let two = subst (GrownLists dig (HasNamed named) ps c.args.own least es) c.in-Two.is lists in
    let l = two.0 in
    let r = two.1 in
    let up : suc c.args.own ≡ c.args.own + 1 = omega arith in
    let side = λ (link : Child) (x : Tree) (is : IsChildTree dig (HasNamed named) ps c.args.own 12 link x).
    subst (λ (n : ℕ). IsTreeBelow dig (HasNamed named) ps n link x) up
    (less-keys dig (HasNamed named) ps c.args.own 12 link x (omega arith) is) in
    let last = c.in_ok-stage_single-in-Two.ensures.lists ps told named under (l ∷ r ∷ [])
    (side c.in-Two.left l two.2, (side c.in-Two.right r two.3, tt)) (subst IsRising (sym two.4) rising) in
    (last.0, last.1, last.2, last.3, last.4 ∙ two.4)

pub returns-in-One-clause-put : goal.returns-in-One-clause-put
returns-in-One-clause-put g c = λ ps told.
    let new = c.root_of.result in
    let child = c.in-One.child in (
      [],
      told ∙ ap (λ (xs : Image). Some xs) (sym (append-nil ps)),
      subst (λ (a : Grown). IsTop g.H.Hasher.dig ((g.P.Pages.view c.args.pages.now).used) (c.args.own + 1) a [] new)
          (sym c.in-One.is)
          (refl, root-is_of new child.page child.label c.root_of.ensures.page c.root_of.ensures.label),
    )

pub returns-in_ok-stage_single-in-Two-clause-put : goal.returns-in_ok-stage_single-in-Two-clause-put
returns-in_ok-stage_single-in-Two-clause-put g c = λ ps told.
    let put = c.in_ok-stage_single-in-Two.ensures.put ps told in
    let new = c.in_ok-stage_single-in-Two.field-0 in (
      put.0,
      put.1,
      subst (λ (a : Grown). IsTop g.H.Hasher.dig ((g.P.Pages.view c.args.pages.now).used) (c.args.own + 1) a put.0 new)
          (sym c.in-Two.is) put.2,
    )
