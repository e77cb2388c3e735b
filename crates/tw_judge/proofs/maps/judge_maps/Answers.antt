use Rattle.tw_judge.proofs.PlainMapVerdicts.{result-plain}
use Rattle.tw_judge.proofs.maps.judge_maps.Goals as goal

pub returns-clause-plain : goal.returns-clause-plain
returns-clause-plain c =
    result-plain c.plain_map_laws.ensures.so (record { low = c.args.low.now; high = c.args.high.now; anchors = c.args.anchors.now })
    (record { low = c.args.low_file.now; high = c.args.high_file.now; anchors = c.args.anchors_file.now }) c.judge_low.result c.judge_low.ensures
