use Rattle.tw_generate.proofs.Results.{if-ok}
use Rattle.tw_generate.proofs.judging.exported.Goals as goal

pub returns : goal.returns
returns g c = λ h plays.
    let read = c.in_ok-bytes.ensures h plays in
    if-ok c.history_of.result (λ history is. (read.0, is)) (c.history_of.ensures h read.1)

pub file_of-requires : goal.file_of-requires
file_of-requires g c = c.requires

pub history_of-requires : goal.history_of-requires
history_of-requires g c = let can = c.requires in (can.0, (c.in_ok-bytes.ensures can.0 can.1).1)
