-- The codecs that the writers of pages look into, in groups.
use Rattle.tw_base.specs.format.Codecs.{behind, bytes_codec, many, number_codec, pair, seen}
use Rattle.tw_base.specs.format.Seen.{codecs}
use Rattle.tw_steppage.specs.StepBytes.{event_page_bytes, links_codec, piece_codec, step_body_codec}

-- an event page
unfoldable pub pieces : Unit {0}
unfolding codecs event_page_bytes piece_codec
pieces = tt

-- what stands behind the counts of a step's page
unfoldable pub body : Unit {0}
unfolding behind step_body_codec bytes_codec links_codec many number_codec pair seen
body = tt
