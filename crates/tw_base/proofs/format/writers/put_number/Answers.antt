use Rattle.std.proofs.Common.{arith}
use Rattle.tw_base.specs.format.Codecs.{number_codec}
use Rattle.tw_base.proofs.lemmas.format.PutLaws.{puts-fits}
use Rattle.tw_base.proofs.format.writers.put_number.Goals as goal

pub returns-clause-puts : goal.returns-clause-puts
unfolding number_codec
returns-clause-puts c =
    puts-fits (number_codec c.args.width 0 _) c.args.value c.args.into.now c.put_last_bytes.new.into
    c.put_last_bytes.result c.put_last_bytes.ensures.ok
    (omega arith, omega (arith, c.requires.fits))
