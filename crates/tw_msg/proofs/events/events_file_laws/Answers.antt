use Rattle.tw_base.proofs.lemmas.format.CodecLaws.{unambiguous}
use Rattle.tw_msg.specs.EventsFile.{events_codec}
use Rattle.tw_msg.proofs.EventsLawful.{events-lawful}
use Rattle.tw_msg.proofs.events.events_file_laws.Goals as goal

pub returns : goal.returns
returns c = unambiguous events_codec events-lawful
