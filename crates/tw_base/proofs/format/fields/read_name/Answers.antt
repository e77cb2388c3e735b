use Rattle.std.proofs.Common.{◌+◌, ◌∙◌, ap, sym, subst, Ok, Err}
use Rattle.tw_base.specs.format.Fields.{name}
use Rattle.tw_base.specs.format.Formats.Reading.{Took}
use Rattle.tw_base.specs.kinds.Names.{IsName}
use Rattle.tw_base.proofs.lemmas.format.FormatLaws.{gives_rest}
use Rattle.tw_base.proofs.lemmas.format.FieldLaws.{name-read}
use Rattle.tw_base.proofs.format.fields.read_name.Goals as goal

pub from_bytes-requires : goal.from_bytes-requires
from_bytes-requires c = subst IsName (sym c.first_16.ensures) (name-read _ _ _ _ c.in-Ok.ensures.read)

pub returns-in-Ok-clause-read : goal.returns-in-Ok-clause-read
returns-in-Ok-clause-read c =
    gives_rest name (λ n. n) (Ok c.from_bytes.result) c.args.bytes.now c.args.at (c.args.at + 16)
    (c.in-Ok.ensures.read ∙ ap (λ n. Took n (c.args.at + 16)) (sym (c.from_bytes.ensures ∙ c.first_16.ensures)))

pub returns-in-Err-clause-read : goal.returns-in-Err-clause-read
returns-in-Err-clause-read c = gives_rest name (λ n. n) (Err c.in-Err.place) c.args.bytes.now c.args.at (c.args.at + 16)
    c.in-Err.ensures.read
