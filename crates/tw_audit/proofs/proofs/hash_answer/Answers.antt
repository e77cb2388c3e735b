use Rattle.tw_base.proofs.lemmas.kinds.HandedTexts.{hands-then}
use Rattle.tw_audit.proofs.proofs.hash_answer.Goals as goal

pub returns : goal.returns
returns g c = hands-then g.T.Transcript.took _ _ _ _ _ (c.hash_part.ensures c.args.at.now.service)
    c.tree_label_told.ensures.took
