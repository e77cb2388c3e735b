use Rattle.tw_generate.specs.Schedules.{all_append, end_event, rounds_of}
use Rattle.tw_generate.proofs.Leading.{leads-on, on-ok}
use Rattle.tw_generate.proofs.Unrefused.{can-begin, can-on}
use Rattle.tw_generate.proofs.services.Services.play.Goals as goal

pub returns : goal.returns
returns g c = on-ok c.append_end.result
    (λ ends. leads-on g.H.Hasher.dig g.D.Disk.view (rounds_of c.args.number c.args.rounds)
    (all_append end_event end_event end_event) c.args.self.now c.rounds.new.self c.append_end.new.self
    c.in_ok-rounds.ensures ends)
    c.append_end.ensures

pub rounds-requires : goal.rounds-requires
rounds-requires g c = can-begin g.H.Hasher.dig g.D.Disk.view (rounds_of c.args.number c.args.rounds)
    (all_append end_event end_event end_event) c.args.self.now c.requires

pub append_end-requires : goal.append_end-requires
append_end-requires g c =
    can-on g.H.Hasher.dig g.D.Disk.view (rounds_of c.args.number c.args.rounds)
    (all_append end_event end_event end_event) c.args.self.now c.rounds.new.self c.in_ok-rounds.ensures c.requires
