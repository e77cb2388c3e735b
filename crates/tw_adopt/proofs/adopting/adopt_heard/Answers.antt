use Rattle.tw_adopt.proofs.AdoptionLaws.{fault-answer, taken-answer}
use Rattle.tw_adopt.proofs.adopting.adopt_heard.Goals as goal

pub returns-in-Ok : goal.returns-in-Ok
returns-in-Ok g c = λ anchors proofs heard.
    taken-answer g.H.Hasher.dig anchors c.args.history.now proofs c.in-Ok.last c.taken_by.result
    (c.in-Ok.ensures.weighed anchors proofs heard) c.taken_by.ensures

pub returns-in-Err : goal.returns-in-Err
returns-in-Err g c = λ anchors proofs heard. fault-answer g.H.Hasher.dig anchors c.args.history.now proofs
    c.in-Err.fault (c.in-Err.ensures.weighed anchors proofs heard)
