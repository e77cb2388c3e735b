use Rattle.tw_base.specs.history.HistoryCodec.{history_codec}
use Rattle.tw_base.proofs.lemmas.format.CodecLaws.{unambiguous}
use Rattle.tw_base.proofs.lemmas.history.HistoryCodecLaws.{history-lawful}
use Rattle.tw_history.proofs.SoundFiles.{sound_spelled}
use Rattle.tw_history.proofs.laws.history_laws.Goals as goal

pub returns-clause-format : goal.returns-clause-format
returns-clause-format c = unambiguous history_codec history-lawful

pub returns-clause-spelled : goal.returns-clause-spelled
returns-clause-spelled c = sound_spelled
