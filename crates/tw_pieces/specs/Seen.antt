-- The codecs of the sizes that are waited for.
use Rattle.tw_base.specs.format.Seen.{codecs}
use Rattle.tw_pieces.specs.PieceSteps.{roots_codec, sizes_codec}

unfoldable pub sizes : Unit {0}
unfolding codecs roots_codec sizes_codec
sizes = tt
