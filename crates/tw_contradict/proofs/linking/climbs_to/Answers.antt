use Rattle.std.specs.Prelude.{Some}
use Rattle.std.proofs.lemmas.Bool.Decides.{same_from_decides}
use Rattle.tw_chain.specs.Finding.{climbs}
use Rattle.tw_chain.proofs.PassesLaws.{climbs-is}
use Rattle.tw_contradict.proofs.linking.climbs_to.Goals as goal

pub returns : goal.returns
returns g c =
    same_from_decides c.climbs.result
    (climbs g.H.Hasher.dig c.args.link.now.path.links c.args.link.now.top c.args.link.now.step c.args.link.now.auth
    (Some c.args.upper.now)) c.climbs.ensures
    (climbs-is g.H.Hasher.dig c.args.link.now.path.links c.args.link.now.top c.args.link.now.step c.args.link.now.auth
    (Some c.args.upper.now))
