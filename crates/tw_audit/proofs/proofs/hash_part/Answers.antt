use Rattle.tw_base.proofs.lemmas.kinds.HandedTexts.{hands-same, hands-then}
use Rattle.tw_audit.proofs.ClimbLaws.{part-then}
use Rattle.tw_audit.proofs.proofs.hash_part.Goals as goal

pub returns : goal.returns
returns g c = λ service.
    hands-same g.T.Transcript.took _ _ _ _
    (part-then g.T.Transcript.dig service c.args.step c.args.top c.args.path.now c.args.opening.now
    c.opening_auth_told-bottom.result c.opening_auth_told-bottom.ensures.auth)
    (hands-then g.T.Transcript.took _ _ _ _ _ c.opening_auth_told-bottom.ensures.took c.hash_path.ensures)
