use Rattle.tw_audit.proofs.AnswerLaws.{answer-means}
use Rattle.tw_audit.proofs.holding.audit.Goals as goal

pub returns-in-Ok-clause-means : goal.returns-in-Ok-clause-means
returns-in-Ok-clause-means g c = λ sound p spells.
    answer-means g.H.Hasher.dig g.met.H.Hasher.size g.met.H.Hasher.bytes c.args.histories.now c.args.anchors.now
    c.args.bytes.now p spells sound c.audit_judged.result c.audit_judged.ensures.answer
