use Rattle.tw_contradict.proofs.Joined.{joined-none}
use Rattle.tw_contradict.proofs.Judgements.{keeper-none, none-alone}
use Rattle.tw_contradict.proofs.rule_laws.contradiction_laws.Goals as goal

pub returns-clause-no_keeper : goal.returns-clause-no_keeper
returns-clause-no_keeper g c = λ anchors others first second p q one other.
    keeper-none g.H.Hasher.dig g.met.H.Hasher.size g.met.H.Hasher.bytes anchors others first second p q one other

pub returns-clause-none : goal.returns-clause-none
returns-clause-none g c = λ anchors others first second one other conflict.
    none-alone g.H.Hasher.dig g.met.H.Hasher.size g.met.H.Hasher.bytes anchors others first second one other conflict

pub returns-clause-joined : goal.returns-clause-joined
returns-clause-joined g c = λ anchors others first second link one other conflict between said also is is_link joined.
    joined-none g.H.Hasher.dig g.met.H.Hasher.size g.met.H.Hasher.bytes anchors others first second one other conflict
    said also is link between is_link joined
