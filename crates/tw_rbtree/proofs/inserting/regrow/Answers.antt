use Rattle.std.proofs.Common.{Bool, ap, arith, length, refl, rules, sym}
use Rattle.std.specs.Prelude.{map}
use Rattle.tw_base.specs.history.Asking.{with_entry}
use Rattle.tw_base.specs.history.Tree.{entries}
use Rattle.tw_rbnode.specs.Trees.{woven}
use Rattle.tw_disk.specs.Found.Found.{Is}
use Rattle.tw_rbtree.specs.Standing.{HasNamed}
use Rattle.tw_rbtree.proofs.GrowLaws.{grown-in, two-on}
use Rattle.tw_rbtree.proofs.Replacing.{with-lists}
use Rattle.tw_rbtree.proofs.inserting.regrow.Goals as goal

pub returns-clause-adds : goal.returns-clause-adds
returns-clause-adds g c =
    let kept = c.in_ok-grown.ensures.kept in record {
      answer = λ ps told. ap (λ (b : Bool). Is b) (sym (two-on g.H.Hasher.dig _ c.args.place c.args.node.now
          c.args.below.now _ c.with_grown-added.result c.with_grown-added.ensures.with
          c.in_ok-grown.ensures.staged));
      own = search rules;
      kept = record {
        used_grows = kept.used_grows;
        list_grows = kept.list_grows;
        same_kept = kept.same_kept;
        unbroken_kept = λ good is. kept.unbroken_kept tt is;
      };
      faults = search rules;
    }

pub returns-clause-grown : goal.returns-clause-grown
returns-clause-grown g c = λ low high lie lies.
    grown-in g.H.Hasher.dig _ c.args.place c.args.node.now low high c.args.below.now _ c.with_grown-added.result
    (omega (arith, g.met.P.Pages.from_first c.args.pages.now)) c.see_node.ensures lie lies
    c.with_grown-added.ensures.with c.in_ok-grown.ensures.staged

pub returns-clause-lists : goal.returns-clause-lists
returns-clause-lists g c = λ ps told kinds named under ts are rising entry between sides.
    let p = c.args.node.now in
    c.in_ok-grown.ensures.lists ps told (c.with_grown-added.ensures.kinds kinds) named under p.level (length p.entries)
    (with_entry (woven (map entries ts) p.entries) entry)
    (with-lists g.H.Hasher.dig (HasNamed named) ps p.level p c.see_node.ensures refl ts are rising c.args.place entry
    between c.args.below.now sides c.with_grown-added.result c.with_grown-added.ensures.with c.see_added.ensures)

pub returns-clause-put : goal.returns-clause-put
returns-clause-put g c = λ ps told.
    let put = c.in_ok-grown.ensures.put ps told in (
      put.0,
      put.1,
      record {
        added = c.with_grown-added.result;
        with_it = c.with_grown-added.ensures.with;
        staged = c.in_ok-grown.ensures.staged;
        are = put.2;
      },
    )
