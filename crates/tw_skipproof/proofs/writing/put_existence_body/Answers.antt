use Rattle.tw_skipproof.proofs.LawfulCodecs.{body-fits}
use Rattle.tw_skipproof.proofs.writing.put_existence_body.Goals as goal

pub returns-clause-fits : goal.returns-clause-fits
returns-clause-fits c = λ range shape. body-fits c.args.proof.now range shape c.in_ok-put_part.ensures.fits
    c.in_ok-put_event.ensures.fits
