use Rattle.tw_base.specs.history.HistoryCodec.{history_codec}
use Rattle.tw_base.proofs.lemmas.history.HistoryCodecLaws.{history-lawful}
use Rattle.tw_base.proofs.lemmas.format.PutLaws.{put-whole}
use Rattle.tw_history.proofs.writing.written_history.Goals as goal

pub returns-clause-spelled : goal.returns-clause-spelled
returns-clause-spelled c =
    (put-whole history_codec history-lawful c.args.history.now _ _
    c.in_ok-bytes.ensures
    c.in_ok-put_history.ensures).1
