use Rattle.std.proofs.Common.{ℕ, List, ap}
use Rattle.tw_base.specs.declared.history.thread.Thread.{Thread}
use Rattle.tw_base.specs.history.Auth.{auth, auths}
use Rattle.tw_diskcmd.proofs.init.first_thread.Goals as goal

pub returns : goal.returns
unfolding auth auths
returns c = let at : List ℕ → Thread = λ a. record { from = c.args.name; step = 0; auth = a } in ap at c.genesis.ensures
