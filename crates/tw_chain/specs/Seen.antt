-- The codecs that readers and writers look into, in groups, with those that they are made of.
use Rattle.tw_base.specs.format.Seen.{codecs, records}
use Rattle.tw_skipproof.specs.Codecs.{event_part_codec}
use Rattle.tw_skipproof.specs.Seen.{parts, paths_seen}
use Rattle.tw_chain.specs.Proofs.{absence_body, behind_codec, hop_codec, hops_codec, key_codec, link_body, tail_codec, thread_body}

-- proofs without hops, but for their first words
unfoldable pub bodies : Unit {0}
unfolding absence_body key_codec link_body records thread_body
bodies = tt

-- and the parts that they are written of
unfoldable pub bodies_written : Unit {0}
unfolding absence_body codecs key_codec link_body parts thread_body
bodies_written = tt

-- hops, and what stands behind them
unfoldable pub hops : Unit {0}
unfolding behind_codec hop_codec hops_codec records tail_codec
hops = tt

-- what stands behind the hops, as it is written
unfoldable pub tails : Unit {0}
unfolding event_part_codec paths_seen tail_codec
tails = tt
