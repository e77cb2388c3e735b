use Rattle.tw_base.proofs.lemmas.format.PutLaws.{put-whole}
use Rattle.tw_skipproof.specs.Codecs.{existence_codec}
use Rattle.tw_skipproof.proofs.LawfulCodecs.{existence-lawful}
use Rattle.tw_skipproof.proofs.writing.write_existence.Goals as goal

pub returns-clause-spelled : goal.returns-clause-spelled
returns-clause-spelled c = λ range shape.
    (put-whole existence_codec existence-lawful c.args.proof.now _ _ c.new-bytes.ensures
    (c.in_ok-put_existence.ensures.ok, c.in_ok-put_existence.ensures.fits range shape)).1
