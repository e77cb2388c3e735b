use Rattle.tw_base.specs.format.Codecs.{bytes_codec}
use Rattle.tw_base.proofs.lemmas.format.CodecLaws.{lawful-bytes}
use Rattle.tw_base.proofs.lemmas.format.TakeLaws.{took-fits}
use Rattle.tw_base.proofs.format.taking.take_digest.Goals as goal

pub returns-in-Ok-clause-takes : goal.returns-in-Ok-clause-takes
unfolding bytes_codec
returns-in-Ok-clause-takes c =
    let fits = took-fits (bytes_codec 32) (lawful-bytes 32) c.args.bytes.now c.args.at.now _ _ c.requires
    c.in-Ok.ensures.read in (c.in-Ok.ensures.read, fits.0, fits.1)
