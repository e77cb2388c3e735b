use Rattle.std.proofs.Common.{ℕ, List, [], subst}
use Rattle.tw_base.specs.declared.kinds.limits.TheConstants.{MOST_HISTORY_BYTES}
use Rattle.tw_reachcmd.specs.Histories.{IsBadBeside}
use Rattle.tw_reachcmd.proofs.AdoptFiles.{none_beside}
use Rattle.tw_reachcmd.proofs.adopting.history_in.Goals as goal

pub returns-in-Err-Bad : goal.returns-in-Err-Bad
returns-in-Err-Bad c =
    none_beside c.args.file.now c.args.bytes.items c.in-Err-Bad.bad
    (subst (λ (b : List ℕ). IsBadBeside MOST_HISTORY_BYTES [] c.args.file.now b c.in-Err-Bad.bad)
    c.as_slice.ensures.value
    (rw c.in-Err-Bad.field-0-is at c.in-Err-Bad.ensures))
