use Rattle.tw_base.proofs.lemmas.kinds.HandedTexts.{hands-same}
use Rattle.tw_audit.proofs.CheckTexts.{texts-answer}
use Rattle.tw_audit.proofs.proofs.hash_proof.Goals as goal

pub returns-in-Archived : goal.returns-in-Archived
returns-in-Archived g c =
    rw c.in-Archived.is
    (hands-same g.T.Transcript.took _ _ _ _ (texts-answer g.T.Transcript.dig c.in-Archived.proof.at _
    c.in-Archived.proof.shown) c.hash_answer.ensures)

pub returns-in-Absent : goal.returns-in-Absent
returns-in-Absent g c =
    rw c.in-Absent.is (hands-same g.T.Transcript.took _ _ _ _ (texts-answer g.T.Transcript.dig c.in-Absent.proof.at _
    c.in-Absent.proof.shown) c.hash_answer-in-Absent.ensures)
