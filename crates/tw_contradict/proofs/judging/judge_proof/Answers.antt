use Rattle.std.proofs.Common.{false, sym, ◌∙◌}
use Rattle.tw_chain.proofs.Lowest.{found-none}
use Rattle.tw_contradict.specs.ArchiveFiles.{archive_checks}
use Rattle.tw_contradict.proofs.judging.judge_proof.Goals as goal

pub judge_passing-requires-clause-passes : goal.judge_passing-requires-clause-passes
judge_passing-requires-clause-passes g c = found-none g.H.Hasher.dig c.args.anchors.now false (archive_checks c.args.proof.now)
    (sym c.found_of.ensures ∙ c.in-None.is)
