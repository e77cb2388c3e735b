-- The codecs that the readers and the writers of map files look into.
use Rattle.tw_base.specs.format.Seen.{records}
use Rattle.tw_skipproof.specs.Seen.{paths_seen}
use Rattle.tw_tmap.specs.MapFiles.{high_codec, low_codec, low_part_codec}

unfoldable pub map_reading : Unit {0}
unfolding high_codec low_codec low_part_codec records
map_reading = tt

unfoldable pub map_writing : Unit {0}
unfolding high_codec low_codec low_part_codec paths_seen
map_writing = tt
