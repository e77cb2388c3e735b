use Rattle.tw_contradict.proofs.Conflicts.{conflict-free, conflict-names, free-conflict}
use Rattle.tw_contradict.proofs.OneFile.{one-facts, rule-found}
use Rattle.tw_contradict.proofs.rule_laws.conflict_laws.Goals as goal

pub returns-clause-named : goal.returns-clause-named
returns-clause-named g c = λ one other conflict. conflict-names g.H.Hasher.dig one other conflict

pub returns-clause-free : goal.returns-clause-free
returns-clause-free g c = λ one other.
    (conflict-free g.H.Hasher.dig one other, free-conflict g.H.Hasher.dig one other)

pub returns-clause-one_thing : goal.returns-clause-one_thing
returns-clause-one_thing g c = λ anchors bytes one other. one-facts g.H.Hasher.dig anchors bytes one other

pub returns-clause-complete : goal.returns-clause-complete
returns-clause-complete g c =
    λ anchors others first second link one other rule verdict said also service broken is.
    rule-found g.H.Hasher.dig anchors others first second link one other said also rule service broken verdict is
