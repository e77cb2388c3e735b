use Rattle.tw_base.proofs.lemmas.format.TakeLaws.{takes-whole}
use Rattle.tw_tmap.specs.MapFiles.{high_codec}
use Rattle.tw_tmap.proofs.MapCodec.{fits-read, high-lawful}
use Rattle.tw_tmap.proofs.reading.read_high.Goals as goal

pub returns-clause-read : goal.returns-clause-read
returns-clause-read c = takes-whole high_codec high-lawful (λ f. f) c.args.bytes.now _ _ _ c.take_high-read.ensures
    c.whole_to.ensures

pub returns-clause-fits : goal.returns-clause-fits
returns-clause-fits c = fits-read high_codec high-lawful c.args.bytes.now c.whole_to.result (returns-clause-read c)
