use Rattle.tw_base.proofs.lemmas.kinds.HandedTexts.{hands-then}
use Rattle.tw_history.proofs.step_digests.digests_of_step.Goals as goal

pub returns-clause-took : goal.returns-clause-took
returns-clause-took g c = λ earlier reached.
    hands-then g.T.Transcript.took _ _ _ _ _ c.step_datum_told-datum.ensures.took
    (c.link_labels-labels.ensures.took earlier reached)
