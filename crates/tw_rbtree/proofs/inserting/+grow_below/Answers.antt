use Rattle.std.proofs.Common.{◌≡◌, ◌+◌, ◌<◌, [], ◌++◌, ◌∙◌, arith, length, length-append, refl, rules, sym, subst}
use Rattle.std.specs.Prelude.{Some, map, slice_index_or}
use Rattle.std.proofs.lemmas.Result.{IfOk-weaker, on_ok_weaker}
use Rattle.std.proofs.lemmas.Option.{same_Some}
use Rattle.tw_base.specs.declared.history.tree_proof.Ask.TheVariants.{Absent}
use Rattle.tw_base.specs.history.Asking.{with_entry}
use Rattle.tw_base.specs.history.Entries.{key_of}
use Rattle.tw_base.specs.history.Tree.{entries}
use Rattle.tw_disk.specs.Image.{Image}
use Rattle.tw_rbtree.specs.Growing.{LiesIn, MayGoInto, SidesList, grows_from}
use Rattle.tw_rbtree.specs.Putting.{IsRegrown}
use Rattle.tw_rbtree.specs.Standing.{HasNamed, IsTreeBelow}
use Rattle.tw_rbtree.proofs.Downs.{grows-child, grows-down, grows-leaf, grows-met}
use Rattle.tw_rbtree.proofs.GrowLaws.{are-kept, down-node, entry-between, goes-into, leaf-goes, leaf-sides, lies-below}
use Rattle.tw_rbtree.proofs.GrowLaws.{own-below, place-room, same-down, sides-up}
use Rattle.tw_rbtree.proofs.PutLaws.{PutBelow, put-child, put-leaf}
use Rattle.tw_rbtree.proofs.Staging.{read-adds, reads-only, regrown-adds}
use Rattle.tw_rbtree.proofs.inserting.+grow_below.Goals as goal

pub returns-in_err-descend-clause-adds : goal.returns-in_err-descend-clause-adds
returns-in_err-descend-clause-adds g t c =
    record {
      answer = λ ps told. grind (arith, grows-down);
      own = search rules;
      kept = search rules;
      faults = search rules;
    }

pub returns-in-Met-clause-adds : goal.returns-in-Met-clause-adds
returns-in-Met-clause-adds g t c =
    record {
      answer = λ ps told. grows-met g.H.Hasher.dig ps (key_of c.args.entry.now) c.args.low.now c.args.high.now
          c.args.node.now c.entry_key.result _ c.entry_key.ensures (c.in_ok-descend.ensures.reads.answer ps told)
          c.in-Met.here c.in-Met.is;
      own = search rules;
      kept = search rules;
      faults = search rules;
    }

pub regrow-requires-clause-goes : goal.regrow-requires-clause-goes
regrow-requires-clause-goes g t c =
    let entry = c.args.entry.now in
    let d = same-down g.H.Hasher.dig c.args.low.now c.args.high.now c.args.node.now c.entry_key.result entry _ _
    c.entry_key.ensures c.in-Leaf.is c.in_ok-descend.ensures.down in
    subst (MayGoInto g.H.Hasher.dig c.args.node.now c.in-Leaf.place) (sym c.leaf.ensures)
    (leaf-goes g.H.Hasher.dig c.args.low.now c.args.high.now c.args.node.now entry _ d.0 c.requires.lie c.in-Leaf.place
    d.1 c.requires.above c.requires.below d.2 c.requires.range).0

pub returns-in-Leaf-clause-adds : goal.returns-in-Leaf-clause-adds
returns-in-Leaf-clause-adds g t c =
    let reads = c.in_ok-descend.ensures.reads in
    regrown-adds g.P.Pages.view g.P.Pages.same g.met.P.Pages.same_on _ _ _ _ _
    (λ ps. grows_from g.H.Hasher.dig ps (key_of c.args.entry.now) c.args.node.now.level c.args.low.now c.args.high.now
    c.args.node.now)
    (reads-only g.P.Pages.view g.P.Pages.same g.met.P.Pages.same_on _ _ _ reads.kept refl) reads.faults.later
    c.regrow.ensures.adds
    (λ ps told. grows-leaf g.H.Hasher.dig ps (key_of c.args.entry.now) c.args.low.now c.args.high.now c.args.node.now
    c.entry_key.result _ c.entry_key.ensures (reads.answer ps told) c.in-Leaf.here c.in-Leaf.place c.args.entry.now
    c.leaf.result c.in-Leaf.is c.leaf.ensures)

pub returns-in-Leaf-clause-grown : goal.returns-in-Leaf-clause-grown
returns-in-Leaf-clause-grown g t c = c.regrow.ensures.grown c.args.low.now c.args.high.now c.requires.lie
    (subst (LiesIn c.args.low.now c.args.high.now) (sym c.leaf.ensures)
    (c.requires.range, c.requires.above, c.requires.below))

pub returns-in-Leaf-clause-last : goal.returns-in-Leaf-clause-last
returns-in-Leaf-clause-last g t c = c.regrow.ensures.last

pub returns-in-Leaf-clause-more : goal.returns-in-Leaf-clause-more
returns-in-Leaf-clause-more g t c =
    let old = (g.P.Pages.view c.args.pages.now).used in
    let new = (g.P.Pages.view c.regrow.new.pages).used in
    let from : (g.P.Pages.view c.descend.new.pages).used < new → old < new =
    λ more. omega (arith, more, c.in_ok-descend.ensures.reads.kept.used_kept) in
    on_ok_weaker c.regrow.result from c.regrow.ensures.more

pub returns-in-Leaf-clause-few : goal.returns-in-Leaf-clause-few
returns-in-Leaf-clause-few g t c =
    omega (arith, c.regrow.ensures.few, c.in_ok-descend.ensures.reads.kept.used_kept)

pub returns-in-Leaf-clause-lists : goal.returns-in-Leaf-clause-lists
returns-in-Leaf-clause-lists g t c = λ ps told named under ts are rising.
    let dig = g.H.Hasher.dig in
    let p = c.args.node.now in
    let entry = c.args.entry.now in
    let d = same-down dig c.args.low.now c.args.high.now p c.entry_key.result entry _ _ c.entry_key.ensures c.in-Leaf.is
    c.in_ok-descend.ensures.down in
    let reads = c.in_ok-descend.ensures.reads in
    let place = c.in-Leaf.place in
    let room = place-room dig (Absent (key_of entry)) c.args.low.now c.args.high.now p _ d.0 c.requires.lie place d.1 in
    c.regrow.ensures.lists ps (reads.kept.list_kept ∙ told) c.requires.kinds named
    (omega (arith, under, reads.kept.used_kept)) ts are rising entry
    (entry-between dig c.args.low.now c.args.high.now p entry _ d.0 c.requires.lie place d.1 c.requires.above
    c.requires.below)
    (subst (SidesList (IsTreeBelow dig (HasNamed named) ps p.level)
    (with_entry (slice_index_or (map entries ts) place []) entry)) (sym c.leaf.ensures)
    (leaf-sides dig (HasNamed named) ps p d.0.node ts are place room entry d.2))

pub grow_below-requires : goal.grow_below-requires
grow_below-requires g t c κs within =
    let entry = c.args.entry.now in
    let d = same-down g.H.Hasher.dig c.args.low.now c.args.high.now c.args.node.now c.entry_key.result entry _ _
    c.entry_key.ensures c.in-Child.is c.in_ok-descend.ensures.down in
    let lies = lies-below g.H.Hasher.dig c.args.low.now c.args.high.now c.args.node.now entry _ d.0 c.requires.lie
    c.in-Child.place d.1 c.requires.above c.requires.below in (
      omega (arith, c.decreases, d.2),
      (
        within.0,
        (
          within.1,
          (
            omega (arith, c.in_ok-descend.ensures.reads.kept.used_kept, c.requires.used),
            (d.4, (c.requires.range, (d.3, lies))),
          ),
        ),
      ),
    )

pub regrow-requires-in-Child-clause-goes : goal.regrow-requires-in-Child-clause-goes
regrow-requires-in-Child-clause-goes g t c =
    let d = same-down g.H.Hasher.dig c.args.low.now c.args.high.now c.args.node.now c.entry_key.result c.args.entry.now
    _ _ c.entry_key.ensures c.in-Child.is c.in_ok-descend.ensures.down in
    (goes-into g.H.Hasher.dig (Absent (key_of c.args.entry.now)) c.args.low.now c.args.high.now c.args.node.now _ d.0
    c.requires.lie c.in-Child.place d.1 c.in_ok-below-in-Child.below (λ leaf. omega (arith, d.2, leaf))
    c.in_ok-below-in-Child.ensures.grown).0

pub returns-in_ok-below-in-Child-clause-adds : goal.returns-in_ok-below-in-Child-clause-adds
returns-in_ok-below-in-Child-clause-adds g t c =
    let reads = c.in_ok-descend.ensures.reads in
    let below = c.in_ok-below-in-Child.ensures.adds in
    let child = c.in-Child.child in
    regrown-adds g.P.Pages.view g.P.Pages.same g.met.P.Pages.same_on _ _ _ _ _
    (λ ps. grows_from g.H.Hasher.dig ps (key_of c.args.entry.now) c.args.node.now.level c.args.low.now c.args.high.now
    c.args.node.now)
    (read-adds g.P.Pages.view g.P.Pages.same g.met.P.Pages.same_on _ _ _ _ _ _ reads.kept below.kept refl refl)
    (omega (arith, reads.faults.later, below.faults.later)) c.regrow-in-Child.ensures.adds
    (λ ps told. grows-child g.H.Hasher.dig ps (key_of c.args.entry.now) c.args.low.now c.args.high.now c.args.node.now
    c.entry_key.result _ c.entry_key.ensures (reads.answer ps told) c.in-Child.here c.in-Child.place child _
    c.in-Child.is (below.answer ps (reads.kept.list_kept ∙ told)))

pub returns-in_ok-below-in-Child-clause-last : goal.returns-in_ok-below-in-Child-clause-last
returns-in_ok-below-in-Child-clause-last g t c = c.regrow-in-Child.ensures.last

pub returns-in_ok-below-in-Child-clause-more : goal.returns-in_ok-below-in-Child-clause-more
returns-in_ok-below-in-Child-clause-more g t c =
    let old = (g.P.Pages.view c.args.pages.now).used in
    let new = (g.P.Pages.view c.regrow-in-Child.new.pages).used in
    let from : (g.P.Pages.view c.grow_below.new.pages).used < new → old < new =
    λ more. omega (
      arith,
      more,
      c.in_ok-descend.ensures.reads.kept.used_kept,
      c.in_ok-below-in-Child.ensures.adds.kept.used_grows,
    ) in
    on_ok_weaker c.regrow-in-Child.result from c.regrow-in-Child.ensures.more

pub returns-in_ok-below-in-Child-clause-few : goal.returns-in_ok-below-in-Child-clause-few
returns-in_ok-below-in-Child-clause-few g t c =
    let d = same-down g.H.Hasher.dig c.args.low.now c.args.high.now c.args.node.now c.entry_key.result c.args.entry.now
    _ _ c.entry_key.ensures c.in-Child.is c.in_ok-descend.ensures.down in
    omega (
      arith,
      c.regrow-in-Child.ensures.few,
      c.in_ok-below-in-Child.ensures.few,
      c.in_ok-descend.ensures.reads.kept.used_kept,
      d.2,
    )

pub returns-in_ok-below-in-Child-clause-grown : goal.returns-in_ok-below-in-Child-clause-grown
returns-in_ok-below-in-Child-clause-grown g t c =
    let d = same-down g.H.Hasher.dig c.args.low.now c.args.high.now c.args.node.now c.entry_key.result c.args.entry.now
    _ _ c.entry_key.ensures c.in-Child.is c.in_ok-descend.ensures.down in
    c.regrow-in-Child.ensures.grown c.args.low.now c.args.high.now c.requires.lie
    (goes-into g.H.Hasher.dig (Absent (key_of c.args.entry.now)) c.args.low.now c.args.high.now c.args.node.now _ d.0
    c.requires.lie c.in-Child.place d.1 c.in_ok-below-in-Child.below (λ leaf. omega (arith, d.2, leaf))
    c.in_ok-below-in-Child.ensures.grown).1

pub returns-in_ok-below-in-Child-clause-lists : goal.returns-in_ok-below-in-Child-clause-lists
returns-in_ok-below-in-Child-clause-lists g t c = λ ps told named under ts are rising.
    let dig = g.H.Hasher.dig in
    let p = c.args.node.now in
    let entry = c.args.entry.now in
    let place = c.in-Child.place in
    let q = c.in-Child.child in
    let d = same-down dig c.args.low.now c.args.high.now p c.entry_key.result entry _ _ c.entry_key.ensures
    c.in-Child.is c.in_ok-descend.ensures.down in
    let reads = c.in_ok-descend.ensures.reads in
    let room = place-room dig (Absent (key_of entry)) c.args.low.now c.args.high.now p _ d.0 c.requires.lie place d.1 in
    let found = down-node dig ps (Absent c.entry_key.result) c.args.low.now c.args.high.now p _ c.in-Child.here place q
    c.in-Child.is (reads.answer ps told) in
    let own = own-below dig (HasNamed named) ps p d.0.node ts are rising place room q d.2 found in
    let told_then = reads.kept.list_kept ∙ told in
    let below = c.in_ok-below-in-Child.ensures.lists ps told_then named (omega (arith, under, reads.kept.used_kept))
    own.trees own.are own.rising in
    let more = c.in_ok-below-in-Child.ensures.adds.kept.list_grows ps told_then in
    let now_is : ps ++ more.0 ≡ below.0 = same_Some _ _ (sym more.1 ∙ below.1) in
    c.regrow-in-Child.ensures.lists below.0 below.1 c.requires.kinds named
    (omega (arith, under, reads.kept.used_kept, c.in_ok-below-in-Child.ensures.adds.kept.used_grows)) ts
    (are-kept dig (HasNamed named) ps p d.0.node ts are rising place room q d.2 more.0 below.0 now_is) rising entry
    (entry-between dig c.args.low.now c.args.high.now p entry _ d.0 c.requires.lie place d.1 c.requires.above
    c.requires.below)
    (sides-up dig (HasNamed named) ps p d.0.node ts are rising place room q d.2 below.0 entry own
    c.in_ok-below-in-Child.below below.2)

pub returns-in-Leaf-clause-put : goal.returns-in-Leaf-clause-put
returns-in-Leaf-clause-put g t c = λ ps told.
    let dig = g.H.Hasher.dig in
    let p = c.args.node.now in
    let entry = c.args.entry.now in
    let number = (g.P.Pages.view c.args.pages.now).used in
    let used = (g.P.Pages.view c.descend.new.pages).used in
    let now = (g.P.Pages.view c.regrow.new.pages).list in
    let d = same-down dig c.args.low.now c.args.high.now p c.entry_key.result entry _ _ c.entry_key.ensures c.in-Leaf.is
    c.in_ok-descend.ensures.down in
    let reads = c.in_ok-descend.ensures.reads in
    IfOk-weaker c.regrow.result
    (λ x. (own : Image) × (now ≡ Some (ps ++ own)) × IsRegrown dig used p c.in-Leaf.place c.leaf.result own x)
    (PutBelow dig ps number entry c.args.low.now c.args.high.now p now)
    (λ x put. put-leaf dig ps number used c.entry_key.result entry c.args.low.now c.args.high.now p _ _ c.in-Leaf.place
    put.0 _ _ _ c.entry_key.ensures (reads.answer ps told) d.1 put.2 c.in-Leaf.is c.leaf.ensures reads.kept.used_kept
    put.1)
    (c.regrow.ensures.put ps (reads.kept.list_kept ∙ told))

pub returns-in_ok-below-in-Child-clause-put : goal.returns-in_ok-below-in-Child-clause-put
returns-in_ok-below-in-Child-clause-put g t c = λ ps told.
    let dig = g.H.Hasher.dig in
    let p = c.args.node.now in
    let entry = c.args.entry.now in
    let number = (g.P.Pages.view c.args.pages.now).used in
    let used = (g.P.Pages.view c.grow_below.new.pages).used in
    let now = (g.P.Pages.view c.regrow-in-Child.new.pages).list in
    let d = same-down dig c.args.low.now c.args.high.now p c.entry_key.result entry _ _ c.entry_key.ensures
    c.in-Child.is c.in_ok-descend.ensures.down in
    let reads = c.in_ok-descend.ensures.reads in
    let below = c.in_ok-below-in-Child.ensures.put ps (reads.kept.list_kept ∙ told) in
    let before = g.met.P.Pages.told_count c.args.pages.now ps told in
    let after = g.met.P.Pages.told_count c.grow_below.new.pages (ps ++ below.1) below.2 in
    let sum = length-append ps below.1 in
    let ends : used ≡ number + length below.1 = omega (arith, before, after, sum) in
    let grown = c.in_ok-below-in-Child.below in
    IfOk-weaker c.regrow-in-Child.result
    (λ x. (own : Image) × (now ≡ Some ((ps ++ below.1) ++ own)) × IsRegrown dig used p c.in-Child.place grown own x)
    (PutBelow dig ps number entry c.args.low.now c.args.high.now p now)
    (λ x put. put-child dig ps number used c.entry_key.result entry c.args.low.now c.args.high.now p _ c.in-Child.here
    c.in-Child.place put.0 grown _ _ c.entry_key.ensures (reads.answer ps told) d.1 put.2 c.in-Child.child below.0
    below.1 ((g.P.Pages.view c.descend.new.pages).used) c.in-Child.is below.3 reads.kept.used_kept below.4 ends put.1)
    (c.regrow-in-Child.ensures.put (ps ++ below.1) below.2)
