use Rattle.tw_judge.proofs.OneReceiver.{receiver-found, receiver-joined, receiver-none}
use Rattle.tw_judge.proofs.receiver.receiver_laws.Goals as goal

pub returns-clause-one_receiver : goal.returns-clause-one_receiver
returns-clause-one_receiver g c = λ anchors bytes e one other spells of.
    receiver-none g.H.Hasher.dig anchors e one other of bytes spells g.met.H.Hasher.size g.met.H.Hasher.bytes

pub returns-clause-joined : goal.returns-clause-joined
returns-clause-joined g c = λ anchors bytes link e one other between spells of is joined.
    receiver-joined g.H.Hasher.dig anchors e one other of bytes spells g.met.H.Hasher.size g.met.H.Hasher.bytes link
    between is joined

pub returns-clause-found : goal.returns-clause-found
returns-clause-found g c = λ anchors bytes link e one other spells of verdict.
    receiver-found g.H.Hasher.dig anchors e one other of bytes spells link verdict
