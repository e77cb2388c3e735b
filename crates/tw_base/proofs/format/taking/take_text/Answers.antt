use Rattle.std.proofs.Common.{◌+◌, length}
use Rattle.std.specs.Prelude.{Ok, Err}
use Rattle.tw_base.specs.format.Codecs.{text_codec}
use Rattle.tw_base.specs.format.Fields.{text as fixed_text}
use Rattle.tw_base.proofs.lemmas.format.CodecLaws.{lawful-text}
use Rattle.tw_base.proofs.lemmas.format.FormatLaws.{gives_rest}
use Rattle.tw_base.proofs.lemmas.format.TakeLaws.{took-fits}
use Rattle.tw_base.proofs.format.taking.take_text.Goals as goal

pub returns-in-Ok-clause-takes : goal.returns-in-Ok-clause-takes
unfolding text_codec
returns-in-Ok-clause-takes c =
    let read = gives_rest {Y = Unit {0}} (fixed_text c.args.text.now) (λ _. c.args.text.now) (Ok tt) c.args.bytes.now
    c.args.at.now (c.args.at.now + length c.args.text.now) c.in-Ok.ensures.read in
    let fits = took-fits (text_codec c.args.text.now) (lawful-text c.args.text.now) c.args.bytes.now c.args.at.now _ _
    c.requires read in (read, fits.0, fits.1)

pub returns-in-Err-clause-takes : goal.returns-in-Err-clause-takes
unfolding text_codec
returns-in-Err-clause-takes c = gives_rest {Y = Unit {0}} (fixed_text c.args.text.now) (λ _. c.args.text.now)
    (Err c.in-Err.place) c.args.bytes.now c.args.at.now (c.args.at.now + length c.args.text.now) c.in-Err.ensures.read
