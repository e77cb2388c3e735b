use Rattle.tw_history.proofs.Greatest.{add-done}
use Rattle.tw_history.proofs.soundness.greatest.GreatestSteps.add.Goals as goal

pub returns-in-Some : goal.returns-in-Some
returns-in-Some c = add-done c.put.result c.args.self.now c.put.new.self c.args.thread.now c.in-Some.thread c.in-Some.is
    c.put.ensures.here c.put.ensures.others
