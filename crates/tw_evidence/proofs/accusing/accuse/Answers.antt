use Rattle.tw_evidence.proofs.Accused.{accuses-complete}
use Rattle.tw_evidence.proofs.accusing.accuse.Goals as goal

pub returns-clause-complete : goal.returns-clause-complete
returns-clause-complete c = accuses-complete c.args.first c.args.second c.args.link c.evidence_of.result
    c.evidence_of.ensures
