use Rattle.tw_base.proofs.lemmas.format.CodecLaws.{spelled-fits}
use Rattle.tw_evidence.specs.Evidence.{evidence_codec}
use Rattle.tw_evidence.proofs.Bound.{verdict-binds}
use Rattle.tw_evidence.proofs.EvidenceCodec.{evidence-lawful}
use Rattle.tw_evidence.proofs.checking.check_evidence.Goals as goal

pub verdict_on-verdict-requires : goal.verdict_on-verdict-requires
verdict_on-verdict-requires g c = spelled-fits evidence_codec evidence-lawful c.args.bytes.now c.in-Ok.evidence
    c.in-Ok.ensures

pub returns-in-Ok-clause-binds : goal.returns-in-Ok-clause-binds
returns-in-Ok-clause-binds g c =
    verdict-binds g.H.Hasher.dig g.met.H.Hasher.size g.met.H.Hasher.bytes c.args.anchors.now c.args.bytes.now
    c.in-Ok.evidence c.verdict_on-verdict.result
    c.in-Ok.ensures c.verdict_on-verdict.ensures.verdict c.verdict_on-verdict.ensures.forked
