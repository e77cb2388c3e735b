use Rattle.std.proofs.Common.{◌≡◌, ℕ, ◌+◌, ◌++◌, length, length-append, refl, sym, ◌∙◌, subst, arith, rules}
use Rattle.std.specs.Prelude.{Some}
use Rattle.std.proofs.lemmas.Result.{IfOk-weaker}
use Rattle.tw_base.specs.declared.history.root.Root.{Root}
use Rattle.tw_base.specs.history.Entries.{key_of}
use Rattle.tw_base.specs.history.Asking.{with_entry}
use Rattle.tw_base.specs.history.Tree.{entries}
use Rattle.tw_disk.specs.Answers.{AnswersOr}
use Rattle.tw_disk.specs.Image.{Image}
use Rattle.tw_disk.proofs.ReadingLaws.{only_adds_on}
use Rattle.tw_rbtree.specs.FaultWords.{tree_faults}
use Rattle.tw_rbtree.specs.Growing.{GrownLists}
use Rattle.tw_rbtree.specs.Putting.{IsTop}
use Rattle.tw_rbtree.specs.Standing.{HasNamed}
use Rattle.tw_rbtree.proofs.Inserts.{insert-over, insert-root}
use Rattle.tw_rbtree.proofs.PutLaws.{Put, put-top}
use Rattle.tw_rbtree.proofs.RootGrowing.{all-lie_between, root-grown}
use Rattle.tw_rbtree.proofs.Staging.{read-adds}
use Rattle.tw_rbtree.proofs.inserting.insert_below.Goals as goal

pub returns-in_err-first-clause-adds : goal.returns-in_err-first-clause-adds
returns-in_err-first-clause-adds g c =
    record {
      answer = λ ps told. grind (arith, insert-root);
      own = search rules;
      kept = search rules;
      faults = search rules;
    }

pub grow_below-grown-requires-clause-lie : goal.grow_below-grown-requires-clause-lie
grow_below-grown-requires-clause-lie g c = all-lie_between c.in_ok-first.first.entries

pub returns-clause-adds : goal.returns-clause-adds
returns-clause-adds g c = record {
  answer = λ ps told.
      let reads = c.in_ok-first.ensures.reads in
      let told_then = reads.kept.list_kept ∙ told in
      let now = c.in_ok-grown.ensures.put ps told_then in
      subst (AnswersOr tree_faults (λ (_ : Root). tt) c.stage_top.result)
      (sym (insert-over g.H.Hasher.dig ps c.args.root.now (key_of c.args.entry.now) c.requires.some
      c.in_ok-first.first _ c.level-own.result c.level-own.ensures (reads.answer ps told)
      (c.in_ok-grown.ensures.adds.answer ps told_then)))
      (c.stage_top.ensures.adds.answer (ps ++ now.1) now.2);
  own = search rules;
  kept = only_adds_on g.P.Pages.view g.P.Pages.same _ _ _ (Unit {0}) _ _ g.met.P.Pages.same_on (λ _. tt) (λ all. all)
      (read-adds g.P.Pages.view g.P.Pages.same g.met.P.Pages.same_on _ _ _ _ _ _ c.in_ok-first.ensures.reads.kept
      c.in_ok-grown.ensures.adds.kept refl refl) c.stage_top.ensures.adds.kept;
  faults = search rules;
}

pub returns-clause-inserted : goal.returns-clause-inserted
returns-clause-inserted g c = λ ps told named under t stands.
    let dig = g.H.Hasher.dig in
    let reads = c.in_ok-first.ensures.reads in
    let p = c.in_ok-first.first in
    let told_then = reads.kept.list_kept ∙ told in
    let below = c.in_ok-grown.ensures in
    let top = root-grown dig (HasNamed named) ps c.args.root.now t stands c.args.entry.now p _ _ c.in_ok-grown.field-0
    c.requires.some (reads.answer ps told) (below.adds.answer ps told_then)
    (below.lists ps told_then named (omega (arith, under, reads.kept.used_kept))) in
    c.stage_top.ensures.lists top.now top.told_now named
    (omega (arith, under, reads.kept.used_kept, below.adds.kept.used_grows)) (length p.entries) top.keys
    (with_entry (entries t) c.args.entry.now) top.rising
    (subst (λ (n : ℕ). GrownLists dig (HasNamed named) top.now n (length p.entries)
    (with_entry (entries t) c.args.entry.now) c.in_ok-grown.field-0) (sym c.level-own.ensures) top.lists)

pub returns-clause-put : goal.returns-clause-put
returns-clause-put g c = λ ps told.
    let dig = g.H.Hasher.dig in
    let reads = c.in_ok-first.ensures.reads in
    let put = c.in_ok-grown.ensures.put ps (reads.kept.list_kept ∙ told) in
    let first = reads.kept.used_kept ∙ g.met.P.Pages.told_count c.args.pages.now ps told in
    let after = g.met.P.Pages.told_count c.grow_below-grown.new.pages (ps ++ put.1) put.2 in
    let sum = length-append ps put.1 in
    let last : (g.P.Pages.view c.grow_below-grown.new.pages).used ≡ 4 + length ps + length put.1 =
    omega (arith, after, sum) in
    let grown = c.in_ok-grown.field-0 in
    IfOk-weaker c.stage_top.result (λ new. (top : Image) × ((g.P.Pages.view c.stage_top.new.pages).list ≡ Some ((ps
    ++ put.1) ++ top)) × IsTop dig ((g.P.Pages.view c.grow_below-grown.new.pages).used) (c.level-own.result + 1) grown
    top new)
    (Put dig ps c.args.root.now c.args.entry.now ((g.P.Pages.view c.stage_top.new.pages).list))
    (λ new top. put-top dig ps c.args.root.now c.args.entry.now new _ c.in_ok-first.first put.0 put.1
    ((g.P.Pages.view c.read_root.new.pages).used) grown c.requires.some (reads.answer ps told) put.3 first put.4
    top.0 ((g.P.Pages.view c.grow_below-grown.new.pages).used) c.level-own.result last c.level-own.ensures top.1 top.2)
    (c.stage_top.ensures.put (ps ++ put.1) put.2)

pub returns-clause-page : goal.returns-clause-page
returns-clause-page g c = c.stage_top.ensures.page c.in_ok-grown.ensures.last
