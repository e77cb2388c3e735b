use Rattle.tw_filecmd.proofs.Histories.{shown_at}
use Rattle.tw_filecmd.proofs.showing.show_at.Goals as goal

pub returns-clause-shown : goal.returns-clause-shown
returns-clause-shown c =
    shown_at c.args.history.now c.args.step c.args.index c.min.result c.requires c.min.ensures c.show_event.result
    c.show_event.ensures.shown c.show_event.ensures.accepted
