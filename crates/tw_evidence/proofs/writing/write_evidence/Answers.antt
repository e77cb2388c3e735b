use Rattle.tw_base.proofs.lemmas.format.PutLaws.{put-whole}
use Rattle.tw_evidence.specs.Evidence.{evidence_codec}
use Rattle.tw_evidence.proofs.EvidenceCodec.{evidence-lawful}
use Rattle.tw_evidence.proofs.writing.write_evidence.Goals as goal

pub returns-clause-spelled : goal.returns-clause-spelled
returns-clause-spelled c = λ fits. (put-whole evidence_codec evidence-lawful c.args.evidence.now _ _ c.new-bytes.ensures
    (c.in_ok-put_evidence.ensures, fits)).1
