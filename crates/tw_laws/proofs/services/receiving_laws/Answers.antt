use Rattle.std.proofs.Common.{◌≢◌, length, sym, subst}
use Rattle.tw_base.specs.declared.history.thread.Thread.{Thread}
use Rattle.tw_base.specs.history.Tree.{entries, tree}
use Rattle.tw_base.proofs.lemmas.history.Trees.{tree-rises}
use Rattle.tw_service.proofs.ReceivingLaws.{accept-archives, archive-ranges, known-known, own-receipt}
use Rattle.tw_laws.proofs.services.receiving_laws.Goals as goal

pub returns-clause-receipts : goal.returns-clause-receipts
returns-clause-receipts g c = λ h next m time r step. own-receipt g.H.Hasher.dig h m time next r step

pub returns-clause-accepts : goal.returns-clause-accepts
returns-clause-accepts g c = λ h peer since m time sound other is at kept more room.
    let n = length h.steps in
    accept-archives g.H.Hasher.dig h m time (subst (λ (t : Thread). t.from ≢ h.name) (sym is.thread) other)
    (c.judgement_laws.ensures.accepts (entries (tree h n)) peer since m (tree-rises h sound n)
    (archive-ranges h sound n) is at kept more) room

pub returns-clause-knows : goal.returns-clause-knows
returns-clause-knows g c = λ h m time e sound other there same.
    let n = length h.steps in
    known-known g.H.Hasher.dig h m time e.archived other (c.judgement_laws.ensures.knows (entries (tree h n)) m e
    (tree-rises h sound n) there same)
