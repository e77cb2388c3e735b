use Rattle.tw_base.proofs.lemmas.format.TakeLaws.{takes-whole}
use Rattle.tw_evidence.specs.Evidence.{evidence_codec}
use Rattle.tw_evidence.proofs.EvidenceCodec.{evidence-lawful}
use Rattle.tw_evidence.proofs.reading.read_evidence.Goals as goal

pub returns : goal.returns
returns c = takes-whole evidence_codec evidence-lawful (λ e. e) c.args.bytes.now _ _ _ c.take_evidence-read.ensures
    c.whole_to.ensures
