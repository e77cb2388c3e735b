use Rattle.std.proofs.Common.{◌++◌, ap, sym, ◌∙◌}
use Rattle.tw_base.proofs.lemmas.format.NumberLaws.{number_bytes-eight}
use Rattle.tw_base.proofs.format.fixed.put_number.Goals as goal

pub returns-clause-items : goal.returns-clause-items
returns-clause-items g c = c.put.ensures.items ∙ ap (λ bs. c.args.into.now.items ++ bs)
    (c.to_be_bytes.ensures ∙ sym (number_bytes-eight c.args.number))
