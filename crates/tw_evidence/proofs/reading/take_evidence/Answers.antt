use Rattle.tw_evidence.proofs.EvidenceCodec.{steps-in-range}
use Rattle.tw_evidence.proofs.reading.take_evidence.Goals as goal

pub take_bottom_and_link-requires-clause-upper : goal.take_bottom_and_link-requires-clause-upper
take_bottom_and_link-requires-clause-upper c = (steps-in-range c.in-Ok.second c.in-Ok.ensures.1).thread
