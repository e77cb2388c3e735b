use Rattle.std.proofs.Common.{sym}
use Rattle.tw_history.proofs.TableSteps.{entry_to-none, entry_to-past, entry_to-some}
use Rattle.tw_history.proofs.lookup.entry_up_to.Goals as goal

pub returns-then-step-last : goal.returns-then-step-last
returns-then-step-last c = sym (entry_to-past c.args.history.now c.args.last c.args.step c.if-step-last.true)

pub returns-in-None : goal.returns-in-None
returns-in-None c = sym (entry_to-none c.args.history.now c.args.last c.args.step c.if-step-last.false
    c.in-None.ensures)

pub returns-in-Some : goal.returns-in-Some
returns-in-Some c = sym (entry_to-some c.args.history.now c.args.last c.args.step c.in-Some.thread c.if-step-last.false
    c.in-Some.ensures)
