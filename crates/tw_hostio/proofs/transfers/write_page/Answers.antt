use borrow.Rule.Slice.PartMut.{mid_of}
use Rattle.std.proofs.Common.{rules, Err, ap, ◌≡◌, ℕ, ◌+◌, ◌-◌, length, sym, subst, arith, ◌∙◌}
use Rattle.tw_base.specs.declared.kinds.limits.TheConstants.{PAGE_SIZE}
use Rattle.std.proofs.lemmas.List.{places}
use Rattle.tw_hostio.specs.PageFile.{MayWrite, FollowsByWrite}
use Rattle.tw_hostio.proofs.FileLaws.{time_of_same, time_on, follows_none, follows_within, same_file}
use Rattle.tw_hostio.proofs.WriteLaws.{IsTornAt, told_none, told_part, told_joins, told_torn, torn_on}
use Rattle.tw_hostio.proofs.transfers.write_page.Goals as goal
use Rattle.tw_hostio.proofs.transfers.write_page.Goals.{in-Ok, in-Err-Interrupted}

pub loop-init : goal.loop-init
loop-init g c = record {
  named = c.requires.named;
  within = omega arith;
  written = told_none _ c.args.at c.args.from.now;
  crash = follows_none c.args.at PAGE_SIZE (g.F.PageFile.view c.args.file.now).may_leave;
  time = time_of_same _ _ (same_file (g.F.PageFile.view c.args.file.now));
}

pub returns-then-done-ge-PAGE_SIZE-clause-torn : goal.returns-then-done-ge-PAGE_SIZE-clause-torn
returns-then-done-ge-PAGE_SIZE-clause-torn g c =
    told_torn (g.F.PageFile.view c.args.file.now).bytes (g.F.PageFile.view c.loop.file).bytes c.args.at c.loop.done PAGE_SIZE c.args.from.now c.requires.joins (omega arith) (omega arith) c.loop.invariant.written

pub write_some-requires-clause-joins : goal.write_some-requires-clause-joins
write_some-requires-clause-joins g c =
    told_joins (g.F.PageFile.view c.args.file.now).bytes (g.F.PageFile.view c.loop.file).bytes c.args.at c.loop.done c.args.from.now c.requires.joins (omega arith) c.loop.invariant.written

pub returns-in-Err-Failure-clause-torn : goal.returns-in-Err-Failure-clause-torn
returns-in-Err-Failure-clause-torn g c =
    let before = told_torn (g.F.PageFile.view c.args.file.now).bytes (g.F.PageFile.view c.loop.file).bytes c.args.at c.loop.done PAGE_SIZE c.args.from.now c.requires.joins (omega arith) (omega arith) c.loop.invariant.written in
    let count : length (mid_of c.loop.done (4096 - c.loop.done) c.args.from.now) ≡ PAGE_SIZE - c.loop.done = search (rules, places) in
    torn_on _ (g.F.PageFile.view c.loop.file).bytes _ c.args.at PAGE_SIZE (c.args.at + c.loop.done) (PAGE_SIZE - c.loop.done) (omega arith) (omega arith) before
    (subst (λ (m : ℕ). IsTornAt (c.args.at + c.loop.done) m (g.F.PageFile.view c.loop.file).bytes (g.F.PageFile.view c.write_some.new.self).bytes) count c.write_some.ensures.torn)

pub returns-in-Err-Failure-clause-crash : goal.returns-in-Err-Failure-clause-crash
returns-in-Err-Failure-clause-crash g c =
    let count : length (mid_of c.loop.done (4096 - c.loop.done) c.args.from.now) ≡ PAGE_SIZE - c.loop.done = search (rules, places) in
    follows_within c.args.at PAGE_SIZE (c.args.at + c.loop.done) (PAGE_SIZE - c.loop.done) _ (g.F.PageFile.view c.loop.file).may_leave _ (omega arith) (omega arith) c.loop.invariant.crash
    (subst (λ (m : ℕ). FollowsByWrite (c.args.at + c.loop.done) m (g.F.PageFile.view c.loop.file).may_leave (g.F.PageFile.view c.write_some.new.self).may_leave) count c.write_some.ensures.crash)

pub loop-preserved : goal.loop-preserved
loop-preserved g c =
    let count : length (mid_of c.loop.done (4096 - c.loop.done) c.args.from.now) ≡ PAGE_SIZE - c.loop.done = search (rules, places) in
    let crash : FollowsByWrite c.args.at PAGE_SIZE (g.F.PageFile.view c.args.file.now).may_leave (g.F.PageFile.view c.write_some.new.self).may_leave =
    follows_within c.args.at PAGE_SIZE (c.args.at + c.loop.done) (PAGE_SIZE - c.loop.done) _ (g.F.PageFile.view c.loop.file).may_leave _ (omega arith) (omega arith) c.loop.invariant.crash
    (subst (λ (m : ℕ). FollowsByWrite (c.args.at + c.loop.done) m (g.F.PageFile.view c.loop.file).may_leave (g.F.PageFile.view c.write_some.new.self).may_leave) count c.write_some.ensures.crash) in
    elim c.match-write_some.branch [
      | in-Ok w ↦ record {
        named = subst MayWrite (sym c.write_some.ensures.stage) c.loop.invariant.named;
        within = omega (arith, w.done-is, w.in-Ok.ensures.within);
        written = rw w.done-is (told_part _ (g.F.PageFile.view c.loop.file).bytes _ c.args.at c.loop.done w.in-Ok.taken (4096 - c.loop.done) c.args.from.now c.requires.joins (omega arith) (omega (arith, w.in-Ok.ensures.within, count)) c.loop.invariant.written w.in-Ok.ensures.written);
        crash = crash;
        time = time_on _ (g.F.PageFile.view c.loop.file) _ c.loop.invariant.time c.write_some.ensures.time c.write_some.ensures.keeps;
      }
      | in-Err-Interrupted w ↦ record {
        named = subst MayWrite (sym c.write_some.ensures.stage) c.loop.invariant.named;
        within = omega (arith, w.done-is);
        written = rw w.done-is ((c.write_some.ensures.interrupted (w.in-Err-Interrupted.is ∙ ap Err w.in-Err-Interrupted.field-0-is)) ∙ c.loop.invariant.written);
        crash = crash;
        time = time_on _ (g.F.PageFile.view c.loop.file) _ c.loop.invariant.time c.write_some.ensures.time c.write_some.ensures.keeps;
      }
    ]

pub returns-clause-torn : goal.returns-clause-torn
returns-clause-torn g c =
    told_torn (g.F.PageFile.view c.args.file.now).bytes (g.F.PageFile.view c.loop.file).bytes c.args.at c.loop.done PAGE_SIZE c.args.from.now c.requires.joins (omega arith) (omega arith) c.loop.invariant.written
