use Rattle.std.proofs.Common.{◌∙◌, ◌∷◌, [], ◌++◌, ◌-◌, Some, arith, length, refl, sym, subst}
use Rattle.tw_reachcmd.specs.Histories.{IsBadBeside, IsHistoryBeside}
use Rattle.tw_reachcmd.specs.declared.histories.Family.{Family}
use Rattle.tw_reachcmd.proofs.HistoryFiles.{known_of, read_bad, read_behind, read_history}
use Rattle.tw_reachcmd.proofs.histories.FamilyGathers.add.Goals as goal

pub returns-then-is_some-clause-read : goal.returns-then-is_some-clause-read
returns-then-is_some-clause-read c told files read are =
    let f = c.args.self.now in
    let old : Family = record { histories = f.histories; bad = f.bad; left = f.left - length c.args.bytes.now } in
    let new : Family = record { histories = f.histories; bad = f.bad; left = c.saturating_sub-self.result } in
    known_of told (files ++ c.args.file.now ∷ []) old new refl refl (omega arith)
    (read_behind told files c.args.file.now c.args.bytes.now f read are (sym c.is_some.ensures ∙ c.if-is_some.true))

pub returns-in_ok-push-in-Ok-clause-read : goal.returns-in_ok-push-in-Ok-clause-read
returns-in_ok-push-in-Ok-clause-read c told files read are =
    let f = c.args.self.now in
    let history = c.in-Ok.history in
    let old : Family =
    record { histories = f.histories ++ history ∷ []; bad = f.bad; left = f.left - length c.args.bytes.now } in
    let new : Family = record { histories = c.push.new.self; bad = f.bad; left = c.saturating_sub-self.result } in
    known_of told (files ++ c.args.file.now ∷ []) old new (sym c.in_ok-push-in-Ok.ensures.ok) refl (omega arith)
    (read_history told files c.args.file.now c.args.bytes.now f read are (sym c.is_some.ensures ∙ c.if-is_some.false)
    history
    (subst (λ before. IsHistoryBeside f.left before c.args.bytes.now history) c.as_slice.ensures c.in-Ok.ensures))

pub returns-in-Err-Bad-clause-read : goal.returns-in-Err-Bad-clause-read
returns-in-Err-Bad-clause-read c told files read are =
    let f = c.args.self.now in
    let bad = c.in-Err-Bad.bad in
    let old : Family = record { histories = f.histories; bad = Some bad; left = f.left - length c.args.bytes.now } in
    let new : Family = record { histories = f.histories; bad = Some bad; left = c.saturating_sub-self.result } in
    known_of told (files ++ c.args.file.now ∷ []) old new refl refl (omega arith)
    (read_bad told files c.args.file.now c.args.bytes.now f read are (sym c.is_some.ensures ∙ c.if-is_some.false) bad
    (subst (λ before. IsBadBeside f.left before c.args.file.now c.args.bytes.now bad) c.as_slice.ensures
    (rw c.in-Err-Bad.field-0-is at c.in-Err-Bad.ensures)))
