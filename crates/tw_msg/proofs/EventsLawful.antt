-- The codec of events files is lawful.
use Rattle.tw_base.proofs.lemmas.format.CodecLaws.{Lawful, lawful}
use Rattle.tw_msg.specs.EventsFile.{events_codec}

pub events-lawful : Lawful events_codec
unfolding events_codec
events-lawful = search lawful depth 20
