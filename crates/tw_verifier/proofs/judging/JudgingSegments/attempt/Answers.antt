use Rattle.std.proofs.Common.{List, subst}
use Rattle.std.specs.Prelude.{Ok}
use Rattle.tw_base.specs.declared.history.thread.Thread.{Thread}
use Rattle.tw_pieces.specs.Resuming.{Attempts}
use Rattle.tw_verifier.specs.Stages.{rest}
use Rattle.tw_verifier.proofs.judging.JudgingSegments.attempt.Goals as goal

pub returns : goal.returns
returns g c =
    let P : List Thread → Type 0 = λ anchors. Attempts (rest g.H.Hasher.dig anchors) c.args.self.stage c.args.held.now
    (Ok c.in_ok-found.found) in
    c.under.ensures c.args.self.stage c.args.held.now (subst P c.as_slice.ensures c.in_ok-found.ensures)
