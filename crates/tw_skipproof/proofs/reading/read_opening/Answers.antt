use Rattle.std.proofs.Common.{lit≤}
use Rattle.tw_base.proofs.lemmas.format.TakeLaws.{takes-whole}
use Rattle.tw_skipproof.specs.Codecs.{opening_codec}
use Rattle.tw_skipproof.proofs.LawfulCodecs.{opening-lawful}
use Rattle.tw_skipproof.proofs.reading.read_opening.Goals as goal

pub returns : goal.returns
returns c = takes-whole (opening_codec 0 c.args.step) (opening-lawful 0 c.args.step (lit≤ tt)) (λ o. o) c.args.bytes.now
    _ _ _ c.take_opening-read.ensures.takes c.whole_to.ensures
