use Rattle.tw_app.proofs.JudgedReach.{fork_run-ends, fork_run-told, map_run-ends, map_run-told}
use Rattle.tw_app.proofs.judging.reach_judging_laws.Goals as goal

pub returns-clause-map_told : goal.returns-clause-map_told
returns-clause-map_told g c = λ a bytes names status judges none run. map_run-told g.D.Disk.view a bytes names status
    judges none run

pub returns-clause-map_ends : goal.returns-clause-map_ends
returns-clause-map_ends g c = λ a bytes names status text judges untouched is writes. map_run-ends g.D.Disk.view a bytes
    names status text judges untouched is writes

pub returns-clause-fork_told : goal.returns-clause-fork_told
returns-clause-fork_told g c = λ a file evidence anchors status judges none run. fork_run-told g.D.Disk.view a file
    evidence anchors status judges none run

pub returns-clause-fork_ends : goal.returns-clause-fork_ends
returns-clause-fork_ends g c = λ a file evidence anchors status text judges untouched is writes. fork_run-ends
    g.D.Disk.view a file evidence anchors status text judges untouched is writes
