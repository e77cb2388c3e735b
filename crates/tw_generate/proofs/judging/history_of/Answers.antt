use Rattle.std.proofs.Common.{subst}
use Rattle.std.specs.Prelude.{Result}
use Rattle.tw_base.specs.history.History.{History}
use Rattle.tw_history.specs.Refusals.{ReadsHistory}
use Rattle.tw_history.specs.declared.fault.HistoryFault.{HistoryFault}
use Rattle.tw_generate.proofs.Results.{history-only, if-ok}
use Rattle.tw_generate.proofs.judging.history_of.Goals as goal

pub returns : goal.returns
returns c = λ h reads. if-ok c.history_read.result (λ history is.
    let read = subst (λ (r : Result History HistoryFault). ReadsHistory c.args.bytes.now r) is c.read.ensures in
    c.history_laws.ensures.format.one_value c.args.bytes.now history h read.1 reads.1) c.history_read.ensures.value

pub history_read-requires : goal.history_read-requires
history_read-requires c =
    history-only c.history_laws.ensures.format c.args.bytes.now c.requires.0 c.read.result c.requires.1 c.read.ensures
