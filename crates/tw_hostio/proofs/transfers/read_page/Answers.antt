use Rattle.std.proofs.Common.{rules, sym, subst, lit<, arith}
use Rattle.tw_base.specs.declared.kinds.limits.TheConstants.{PAGE_SIZE}
use Rattle.std.proofs.lemmas.List.{places}
use Rattle.tw_hostio.specs.PageFile.{MayRead}
use Rattle.tw_hostio.proofs.FileLaws.{same_file_on}
use Rattle.tw_hostio.proofs.ReadLaws.{told_read_more, told_read_same, told_read_all}
use Rattle.tw_hostio.proofs.transfers.read_page.Goals as goal
use Rattle.tw_hostio.proofs.transfers.read_page.Goals.{in-Ok, in-Err-Interrupted}

pub returns-then-done-ge-PAGE_SIZE-clause-bytes : goal.returns-then-done-ge-PAGE_SIZE-clause-bytes
returns-then-done-ge-PAGE_SIZE-clause-bytes g c =
    told_read_all _ c.loop.into c.args.at c.loop.done PAGE_SIZE (omega arith) (lit< tt) c.loop.invariant.size c.loop.invariant.read

pub loop-preserved : goal.loop-preserved
loop-preserved g c =
    let same = same_file_on (g.F.PageFile.view c.args.file.now) (g.F.PageFile.view c.loop.file) (g.F.PageFile.view c.read_some.new.self) c.loop.invariant.same c.read_some.ensures.same in
    let locked : MayRead (g.F.PageFile.view c.read_some.new.self).stage = subst MayRead (sym c.read_some.ensures.stage) c.loop.invariant.locked in
    elim c.match-read_some.branch [
      | in-Ok w ↦ record {
        locked = locked;
        size = search (rules, places);
        within = omega (arith, w.done-is, w.in-Ok.ensures.within);
        same = same;
        read = rw w.done-is (told_read_more _ (g.F.PageFile.view c.loop.file).bytes c.loop.into c.read_some.new.into c.args.at c.loop.done _ _ c.loop.invariant.same.bytes (omega arith) (omega arith) (omega (arith, w.in-Ok.ensures.within)) c.loop.invariant.read w.in-Ok.ensures.came);
      }
      | in-Err-Interrupted w ↦ record {
        locked = locked;
        size = search (rules, places);
        within = omega (arith, w.done-is);
        same = same;
        read = rw w.done-is (told_read_same _ c.loop.into c.read_some.new.into c.args.at c.loop.done _ (omega arith) c.loop.invariant.read);
      }
    ]
