use Rattle.tw_base.proofs.lemmas.format.TakeLaws.{takes-whole}
use Rattle.tw_msg.specs.EventsFile.{events_codec}
use Rattle.tw_msg.proofs.EventsLawful.{events-lawful}
use Rattle.tw_msg.proofs.events.read_events.Goals as goal

pub returns : goal.returns
returns c = takes-whole events_codec events-lawful (λ events. events) c.args.bytes.now _ _ _ c.take_file-read.ensures
    c.whole_to.ensures
