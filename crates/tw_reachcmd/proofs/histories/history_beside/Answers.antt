use Rattle.std.proofs.Common.{arith, inl, refl, subst, sym}
use Rattle.tw_text.specs.declared.refusal.BadInput.{BadInput}
use Rattle.tw_reachcmd.specs.Histories.{IsBadBeside}
use Rattle.tw_reachcmd.proofs.HistoryFiles.{alone_comes, refused_beside}
use Rattle.tw_reachcmd.proofs.histories.history_beside.Goals as goal

pub returns-then-bytes-left : goal.returns-then-bytes-left
returns-then-bytes-left c =
    subst (λ (bad : BadInput). IsBadBeside c.args.left c.args.before.now c.args.file.now c.args.bytes.now bad)
    (sym c.in_ok-bad_byte.ensures)
    (refl, inl (omega arith, refl))

pub returns-in-Ok : goal.returns-in-Ok
returns-in-Ok c =
    alone_comes c.args.left c.args.before.now c.args.file.now c.args.bytes.now c.in-Ok.history c.alone_beside.result
    (omega arith) c.in-Ok.ensures.read.1 c.in-Ok.ensures.read.2 c.alone_beside.ensures

pub returns-in_ok-bad_history-in-Err : goal.returns-in_ok-bad_history-in-Err
returns-in_ok-bad_history-in-Err c =
    refused_beside c.args.left c.args.before.now c.args.file.now c.args.bytes.now c.in-Err.fault
    c.in_ok-bad_history-in-Err.field-0 c.requires
    (omega arith) c.in-Err.ensures.read c.in_ok-bad_history-in-Err.ensures
