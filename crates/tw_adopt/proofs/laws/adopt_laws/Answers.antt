use Rattle.tw_adopt.proofs.AdoptionLaws.{complete, good-faultless}
use Rattle.tw_adopt.proofs.OneAnswer.{all-or-fault, fault-is, taken-is}
use Rattle.tw_adopt.proofs.laws.adopt_laws.Goals as goal

pub returns-clause-either : goal.returns-clause-either
returns-clause-either g c = λ anchors h proofs. all-or-fault g.H.Hasher.dig anchors h 1 proofs

pub returns-clause-good : goal.returns-clause-good
returns-clause-good g c = λ anchors h proofs shown fault. good-faultless g.H.Hasher.dig anchors h 1 proofs shown fault

pub returns-clause-taken : goal.returns-clause-taken
returns-clause-taken g c = taken-is g.H.Hasher.dig

pub returns-clause-faulty : goal.returns-clause-faulty
returns-clause-faulty g c = fault-is g.H.Hasher.dig

pub returns-clause-complete : goal.returns-clause-complete
returns-clause-complete g c = complete g.H.Hasher.dig
