use Rattle.std.proofs.Common.{arith, lit≤}
use Rattle.tw_base.specs.format.Codecs.{bytes_codec, labels_codec, many, pair, seen}
use Rattle.tw_base.proofs.lemmas.format.PutLaws.{put-whole}
use Rattle.tw_skipproof.specs.Codecs.{opening_bytes, opening_codec}
use Rattle.tw_skipproof.proofs.LawfulCodecs.{opening-lawful}
use Rattle.tw_skipproof.proofs.writing.write_opening.Goals as goal

pub returns-clause-spelled : goal.returns-clause-spelled
unfolding opening_bytes opening_codec seen pair labels_codec many bytes_codec
returns-clause-spelled c = λ step count few small.
    (put-whole (opening_codec 0 step) (opening-lawful 0 step (lit≤ tt)) c.args.opening.now _ _ c.in_ok-bytes.ensures
    (c.in_ok-put_opening.ensures.ok, c.in_ok-put_opening.ensures.fits 0 step count (omega arith) few small)).1
