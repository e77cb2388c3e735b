use Rattle.std.proofs.Common.{[], ◌++◌}
use Rattle.tw_generate.specs.Schedules.Who.{Alpha, Beta, Gamma}
use Rattle.tw_generate.proofs.Leading.{leads-on}
use Rattle.tw_generate.proofs.ToldSteps.{both-told, may-tell-both, tells-both, tells_of, told_by}
use Rattle.tw_generate.proofs.services.Services.exchange.Goals as goal

pub returns : goal.returns
returns g c =
    let dig = g.H.Hasher.dig in
    let view = g.D.Disk.view in
    leads-on dig view (tells_of Alpha) (tells_of Beta ++ tells_of Gamma) c.args.self.now _ _
    (tells-both dig view Alpha c.args.self.now c.tell_both.new.from _ _ _ _ c.in_ok-tell_both.ensures)
    (leads-on dig view (tells_of Beta) (tells_of Gamma) _ _ _
    (tells-both dig view Beta _ c.tell_both-2.new.from _ _ _ _ c.in_ok-tell_both-2.ensures)
    (tells-both dig view Gamma _ c.tell_both-3.new.from _ _ _ _ c.in_ok-tell_both-3.ensures))

pub tell_both-requires : goal.tell_both-requires
tell_both-requires g c =
    may-tell-both g.H.Hasher.dig g.D.Disk.view Alpha (tells_of Beta ++ tells_of Gamma) c.args.self.now c.requires

pub tell_both-requires-2 : goal.tell_both-requires-2
tell_both-requires-2 g c =
    may-tell-both g.H.Hasher.dig g.D.Disk.view Beta (tells_of Gamma)
    (told_by Alpha c.args.self.now c.tell_both.new.from c.tell_both.new.one c.tell_both.new.other
    c.tell_both.new.one_heard c.tell_both.new.other_heard)
    (both-told g.H.Hasher.dig g.D.Disk.view Alpha (tells_of Beta ++ tells_of Gamma) c.args.self.now c.requires
    c.tell_both.new.from _ _ _ _ c.in_ok-tell_both.ensures)

pub tell_both-requires-3 : goal.tell_both-requires-3
tell_both-requires-3 g c =
    let one = told_by Alpha c.args.self.now c.tell_both.new.from c.tell_both.new.one c.tell_both.new.other
    c.tell_both.new.one_heard c.tell_both.new.other_heard in
    may-tell-both g.H.Hasher.dig g.D.Disk.view Gamma []
    (told_by Beta one c.tell_both-2.new.from c.tell_both-2.new.one c.tell_both-2.new.other
    c.tell_both-2.new.one_heard c.tell_both-2.new.other_heard)
    (both-told g.H.Hasher.dig g.D.Disk.view Beta (tells_of Gamma) one
    (both-told g.H.Hasher.dig g.D.Disk.view Alpha (tells_of Beta ++ tells_of Gamma) c.args.self.now c.requires
    c.tell_both.new.from _ _ _ _ c.in_ok-tell_both.ensures) c.tell_both-2.new.from _ _ _ _
    c.in_ok-tell_both-2.ensures)
