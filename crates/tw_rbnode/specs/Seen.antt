-- The codecs that the reader and the writer of a tree's page look into.
use Rattle.tw_base.specs.format.Seen.{codecs}
use Rattle.tw_base.specs.history.Seen.{entries_seen, threads}
use Rattle.tw_rbnode.specs.NodeBytes.{child_codec, colour_codec, page_node_codec, slot_codec}

unfoldable pub nodes : Unit {0}
unfolding child_codec codecs colour_codec page_node_codec slot_codec threads
nodes = tt

-- with the entries in it
unfoldable pub nodes_written : Unit {0}
unfolding entries_seen nodes
nodes_written = tt

-- a slot and its colour
unfoldable pub slots : Unit {0}
unfolding codecs colour_codec slot_codec
slots = tt
