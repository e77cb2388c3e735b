use Rattle.std.proofs.Common.{◌≡◌, IfOk, List, ℕ, subst}
use Rattle.tw_base.specs.declared.history.thread.Key.{Key}
use Rattle.tw_text.specs.Summaries.{replayed_line}
use Rattle.tw_world.proofs.summary.print_summary.Goals as goal

pub returns : goal.returns
returns c =
    let counts = c.args.counts.now in
    let P : List Key → Type 0 = λ ks. IfOk c.print_replayed.result (λ (text : List ℕ). text ≡ replayed_line
    counts.accepted counts.none counts.refused counts.rejected ks) in
    subst P c.in_ok-services.ensures c.print_replayed.ensures
