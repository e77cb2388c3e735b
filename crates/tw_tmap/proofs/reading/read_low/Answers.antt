use Rattle.tw_base.proofs.lemmas.format.TakeLaws.{takes-whole}
use Rattle.tw_tmap.specs.MapFiles.{low_codec}
use Rattle.tw_tmap.proofs.MapCodec.{fits-read, low-lawful}
use Rattle.tw_tmap.proofs.reading.read_low.Goals as goal

pub returns-clause-read : goal.returns-clause-read
returns-clause-read c = takes-whole low_codec low-lawful (λ f. f) c.args.bytes.now _ _ _ c.take_low-read.ensures
    c.whole_to.ensures

pub returns-clause-fits : goal.returns-clause-fits
returns-clause-fits c = fits-read low_codec low-lawful c.args.bytes.now c.whole_to.result (returns-clause-read c)
