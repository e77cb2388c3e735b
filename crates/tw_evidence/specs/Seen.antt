-- The codecs that the reader of evidence looks into.
use Rattle.tw_base.specs.format.Seen.{records}
use Rattle.tw_evidence.specs.Evidence.{evidence_codec, link_proof_codec, thread_proof_codec}

unfoldable pub evidence_reading : Unit {0}
unfolding evidence_codec link_proof_codec records thread_proof_codec
evidence_reading = tt
