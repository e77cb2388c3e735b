use Rattle.tw_app.proofs.JudgedRuns.{ends, told}
use Rattle.tw_app.proofs.judging.judging_laws.Goals as goal

pub returns-clause-told : goal.returns-clause-told
returns-clause-told g c = λ a strict file proof anchors status judges none run. told g.D.Disk.view a strict file proof
    anchors judges status none run

pub returns-clause-ends : goal.returns-clause-ends
returns-clause-ends g c = λ a strict file proof anchors status text judges untouched is writes. ends g.D.Disk.view a
    strict file proof anchors judges status text untouched is writes
