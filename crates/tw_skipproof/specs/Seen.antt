-- The codecs that readers and writers look into, in groups, with those that they are made of.
use Rattle.tw_base.specs.format.Seen.{codecs, records}
use Rattle.tw_skipproof.specs.Codecs.{count_codec, event_part_codec, existence_body, link_bytes, link_codec, opening_bytes, opening_codec, part_bytes, part_codec, path_bytes, path_codec}

-- openings, and the events and links that stand beside them
unfoldable pub openings : Unit {0}
unfolding codecs count_codec event_part_codec link_bytes link_codec opening_bytes opening_codec
openings = tt

-- paths
unfoldable pub paths_seen : Unit {0}
unfolding codecs count_codec opening_bytes opening_codec path_bytes path_codec
paths_seen = tt

-- an opening behind a path
unfoldable pub parts : Unit {0}
unfolding part_bytes part_codec paths_seen
parts = tt

-- an event's proof, but for its first words, as it is read
unfoldable pub existence_read : Unit {0}
unfolding event_part_codec existence_body part_codec records
existence_read = tt

-- and as it is written
unfoldable pub existence : Unit {0}
unfolding codecs count_codec event_part_codec existence_body opening_codec part_bytes part_codec
existence = tt
