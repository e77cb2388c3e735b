use Rattle.tw_generate.proofs.Results.{if-ok}
use Rattle.tw_generate.proofs.generating.summed.Goals as goal

pub returns : goal.returns
returns c = λ t plays.
    let told = c.in_ok-summary.ensures t plays in
    if-ok c.print_summary.result (λ text is. (told.0, (c.in_ok-summary.summary, told.1, is))) c.print_summary.ensures
