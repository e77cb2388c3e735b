-- Each law, from what the parts are.
use Rattle.tw_join.proofs.JoinedAccepted.{joined-accepted}
use Rattle.tw_join.proofs.JoinedFronts.{joins-front}
use Rattle.tw_join.proofs.JoinedHops.{joined-few, joined-hops}
use Rattle.tw_join.proofs.JoinedOwn.{joined-accepts}
use Rattle.tw_join.proofs.JoinedSpelling.{joined-spelled}
use Rattle.tw_join.proofs.JoinedTops.{joined-tops}
use Rattle.tw_join.proofs.laws.joining_laws.Goals as goal

pub returns-clause-joined : goal.returns-clause-joined
returns-clause-joined g c = joined-accepted _

pub returns-clause-joined_spelled : goal.returns-clause-joined_spelled
returns-clause-joined_spelled g c = joined-spelled

pub returns-clause-joined_accepts : goal.returns-clause-joined_accepts
returns-clause-joined_accepts g c = joined-accepts _ g.met.H.Hasher.size g.met.H.Hasher.bytes

pub returns-clause-joined_hops : goal.returns-clause-joined_hops
returns-clause-joined_hops g c = joined-hops

pub returns-clause-joined_tops : goal.returns-clause-joined_tops
returns-clause-joined_tops g c = joined-tops

pub returns-clause-joined_few : goal.returns-clause-joined_few
returns-clause-joined_few g c = joined-few

pub returns-clause-front_decides : goal.returns-clause-front_decides
returns-clause-front_decides g c = joins-front
