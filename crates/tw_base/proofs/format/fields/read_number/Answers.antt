use Rattle.tw_base.specs.format.Fields.{number}
use Rattle.tw_base.proofs.lemmas.format.FormatLaws.{gives_read}
use Rattle.tw_base.proofs.format.fields.read_number.Goals as goal

pub returns-clause-read : goal.returns-clause-read
returns-clause-read c = gives_read (number c.args.width c.args.least c.args.most) (λ n. n) c.number_at.result
    c.args.bytes.now c.args.at _ c.number_at.ensures.read
