use Rattle.tw_base.proofs.lemmas.format.TakeLaws.{takes-whole}
use Rattle.tw_base.specs.history.HistoryCodec.{history_codec}
use Rattle.tw_base.proofs.lemmas.history.HistoryCodecLaws.{history-lawful}
use Rattle.tw_history.proofs.reading.read_table.Goals as goal

pub returns : goal.returns
returns c = takes-whole history_codec history-lawful (λ h. h) c.args.bytes.now _ _ _ c.take_history-read.ensures
    c.whole_to.ensures
