use Rattle.tw_atlas.proofs.ArrivalLaws.{one-atlas}
use Rattle.tw_atlas.proofs.HopOrder.{in-ordered, ordered-few, ordered-has, ordered-sorted}
use Rattle.tw_atlas.proofs.Leastness.{earliest}
use Rattle.tw_atlas.proofs.laws.atlas_laws.Goals as goal

pub returns-clause-earliest : goal.returns-clause-earliest
returns-clause-earliest c = earliest

pub returns-clause-one : goal.returns-clause-one
returns-clause-one c given start one other p q legs = one-atlas start one other p.arrivals q.arrivals legs

pub returns-clause-rise : goal.returns-clause-rise
returns-clause-rise c = ordered-sorted

pub returns-clause-same : goal.returns-clause-same
returns-clause-same c given hop = (in-ordered hop given, ordered-has hop given)

pub returns-clause-few : goal.returns-clause-few
returns-clause-few c = ordered-few
