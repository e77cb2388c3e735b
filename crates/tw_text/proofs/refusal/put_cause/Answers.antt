use Rattle.tw_text.proofs.refusal.put_cause.Goals as goal

pub returns-in-NotAStore : goal.returns-in-NotAStore
returns-in-NotAStore c = rw c.in-NotAStore.is c.push_numbered.ensures
