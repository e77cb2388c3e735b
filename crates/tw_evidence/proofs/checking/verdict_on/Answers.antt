use Rattle.tw_evidence.proofs.EvidenceCodec.{evidence-parts, steps-in-range}
use Rattle.tw_evidence.proofs.checking.verdict_on.Goals as goal

pub found_of_thread-requires-clause-step : goal.found_of_thread-requires-clause-step
found_of_thread-requires-clause-step g c =
    (steps-in-range c.args.evidence.now.first (evidence-parts c.args.evidence.now c.requires).first).step

pub found_of_thread-requires-clause-top : goal.found_of_thread-requires-clause-top
found_of_thread-requires-clause-top g c =
    (steps-in-range c.args.evidence.now.first (evidence-parts c.args.evidence.now c.requires).first).top

pub found_of_thread-requires-2-clause-step : goal.found_of_thread-requires-2-clause-step
found_of_thread-requires-2-clause-step g c =
    (steps-in-range c.args.evidence.now.second (evidence-parts c.args.evidence.now c.requires).second).step

pub found_of_thread-requires-2-clause-top : goal.found_of_thread-requires-2-clause-top
found_of_thread-requires-2-clause-top g c =
    (steps-in-range c.args.evidence.now.second (evidence-parts c.args.evidence.now c.requires).second).top

pub conflict_verdict-requires : goal.conflict_verdict-requires
conflict_verdict-requires g c =
    (steps-in-range c.args.evidence.now.second (evidence-parts c.args.evidence.now c.requires).second).thread
