use Rattle.tw_plain.proofs.OneMap.{front-once, map-once}
use Rattle.tw_plain.proofs.OneReading.{report-once}
use Rattle.tw_plain.proofs.laws.reading_laws.Goals as goal

pub returns : goal.returns
returns c = record { once = report-once; map_once = map-once; front_once = front-once }
