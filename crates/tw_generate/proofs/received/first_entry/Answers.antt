use Rattle.std.proofs.Common.{◌≡◌, ◌+◌, length, ap, sym, arith}
use Rattle.std.specs.Prelude.{Some}
use Rattle.tw_base.specs.history.History.{received}
use Rattle.tw_tmap.specs.Bounds.{first_from}
use Rattle.tw_generate.proofs.ReceivedSteps.{first-stays, first-step, received-none}
use Rattle.tw_generate.proofs.received.first_entry.Goals as goal

pub loop-index-init : goal.loop-index-init
loop-index-init c = ap (first_from c.args.from.now c.args.least) (received-none c.args.history.now)

pub returns-in-Some : goal.returns-in-Some
returns-in-Some c =
    let here = first-step c.args.history.now c.table_of.result.0.now c.table_of.result.1.now c.table_of.ensures.steps
    c.args.from.now c.args.least c.loop-index.index c.index-steps-index.result c.entry_of-entry.result
    (omega arith) c.index-steps-index.is c.entry_of-entry.ensures c.loop-index.invariant in
    let found : first_from c.args.from.now c.args.least (received c.args.history.now (c.loop-index.index + 1)) ≡ Some
    c.in-Some.found = cc in
    sym (first-stays c.args.history.now c.args.from.now c.args.least c.in-Some.found (c.loop-index.index + 1)
    (length c.args.history.now.steps) (omega arith) found)

pub loop-index-preserved : goal.loop-index-preserved
loop-index-preserved c =
    let here = first-step c.args.history.now c.table_of.result.0.now c.table_of.result.1.now c.table_of.ensures.steps
    c.args.from.now c.args.least c.loop-index.index c.index-steps-index.result c.entry_of-entry.result
    (omega arith) c.index-steps-index.is c.entry_of-entry.ensures c.loop-index.invariant in
    cc
