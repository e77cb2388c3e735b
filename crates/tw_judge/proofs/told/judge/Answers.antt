use Rattle.tw_judge.proofs.PlainVerdicts.{result-plain}
use Rattle.tw_judge.proofs.told.judge.Goals as goal

pub returns-clause-plain : goal.returns-clause-plain
returns-clause-plain c =
    let laws = c.plain_laws.ensures in
    result-plain laws.so laws.readable c.args.file.now c.args.strict c.args.proof.now c.args.anchors.now c.told_of.result c.told_of.ensures
