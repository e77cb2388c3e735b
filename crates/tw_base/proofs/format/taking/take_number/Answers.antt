use Rattle.tw_base.specs.format.Codecs.{number_codec}
use Rattle.tw_base.proofs.lemmas.format.CodecLaws.{lawful-number}
use Rattle.tw_base.proofs.lemmas.format.TakeLaws.{took-fits}
use Rattle.tw_base.proofs.format.taking.take_number.Goals as goal

pub returns-in-Ok-clause-takes : goal.returns-in-Ok-clause-takes
unfolding number_codec
returns-in-Ok-clause-takes c =
    let fits = took-fits (number_codec c.args.width c.args.least c.args.most) (lawful-number c.args.width c.args.least
    c.args.most c.requires.range c.requires.fits) c.args.bytes.now c.args.at.now _ _ c.requires.within
    c.in-Ok.ensures.read in (c.in-Ok.ensures.read, fits.0, fits.1)
