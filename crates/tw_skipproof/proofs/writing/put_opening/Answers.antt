use Rattle.tw_skipproof.proofs.LawfulCodecs.{opening-put}
use Rattle.tw_skipproof.proofs.writing.put_opening.Goals as goal

pub returns-clause-fits : goal.returns-clause-fits
returns-clause-fits c =
    opening-put c.args.opening.now _ _ c.put_labels.result c.in_ok-put_digest.ensures.puts.1
    c.in_ok-put_digest-2.ensures.puts.1 c.in_ok-put_digest-3.ensures.puts.1 c.put_labels.ensures.puts
