use Rattle.std.proofs.Common.{rules, ◌≡◌, ◌≤◌, ◌++◌, ◌∙◌, ap, subst, sym}
use Rattle.std.specs.Prelude.{IfOk, Some}
use Rattle.tw_base.specs.history.Asking.{with_entry}
use Rattle.tw_base.specs.history.Tree.{Tree, entries}
use Rattle.tw_disk.specs.Image.{Image}
use Rattle.tw_rbtree.specs.Putting.{PutsIn}
use Rattle.tw_rbtree.specs.Standing.{HasNamed, StandsWith}
use Rattle.tw_archive.proofs.near.insert_near.Goals as goal

pub returns-clause-inserted : goal.returns-clause-inserted
returns-clause-inserted g c = λ ps told named below t stands.
    let lent = c.over-near.ensures.pages.1 in
    subst (λ (p : g.row.P.Denot). IfOk c.insert.result (λ new. (now : Image) × (grown : Tree)
    × ((g.P.Pages.view p).list ≡ Some now)
    × StandsWith g.H.Hasher.dig (HasNamed named) now new grown × (entries grown ≡ with_entry (entries t) c.args.entry)))
    (search rules)
    (c.insert.ensures.inserted ps (ap (λ p. (g.P.Pages.view p).list) lent ∙ told) named
    (subst (λ p. named.below ≤ (g.P.Pages.view p).used) (sym lent) below) t stands)

pub returns-clause-put : goal.returns-clause-put
returns-clause-put g c = λ ps told.
    let lent = c.over-near.ensures.pages.1 in
    subst (λ (p : g.row.P.Denot). IfOk c.insert.result (λ new. (more : Image)
    × ((g.P.Pages.view p).list ≡ Some (ps ++ more)) × PutsIn g.H.Hasher.dig ps c.args.root.now c.args.entry more new))
    (search rules)
    (c.insert.ensures.put ps (ap (λ p. (g.P.Pages.view p).list) lent ∙ told))
