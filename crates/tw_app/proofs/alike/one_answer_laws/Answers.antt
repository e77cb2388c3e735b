use Rattle.tw_app.proofs.OneAnswer.{one_ending}
use Rattle.tw_app.proofs.alike.one_answer_laws.Goals as goal

pub returns : goal.returns
returns g c = λ one other status again alike free free_too run also. one_ending g.D.Disk.view one other alike status
    again free free_too run also
