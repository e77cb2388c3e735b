use Rattle.tw_app.proofs.ToldMaps.{tells_bounds, tells_refusal, tells_verdict}
use Rattle.tw_app.proofs.mapping.map_run_laws.Goals as goal

pub returns-clause-told : goal.returns-clause-told
returns-clause-told g c = λ a low high anchors status judges run. tells_verdict g.D.Disk.view a low high anchors status
    judges run

pub returns-clause-refused : goal.returns-clause-refused
returns-clause-refused g c = λ a bad status refuses run. tells_refusal g.D.Disk.view a bad status refuses run

pub returns-clause-own : goal.returns-clause-own
returns-clause-own g c = λ a own other step top upto status low high anchors asked are judges run.
    tells_bounds g.D.Disk.view a low high anchors status judges own other step top upto asked are run
