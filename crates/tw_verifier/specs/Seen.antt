-- The codecs that the stages look into that take a proof's first words.
use Rattle.tw_base.specs.format.Seen.{records}
use Rattle.tw_verifier.specs.Stages.{kind_head, link_head, part_head, present_head}

unfoldable pub heads_seen : Unit {0}
unfolding kind_head link_head part_head present_head records
heads_seen = tt
