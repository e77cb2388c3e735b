use Rattle.std.proofs.Common.{◌++◌, ◌-◌, take, drop, ap, ◌∙◌}
use Rattle.tw_base.proofs.lemmas.format.NumberLaws.{number_bytes-last}
use Rattle.tw_base.proofs.format.page_bytes.PageFront.put_number.Goals as goal

pub returns-clause-bytes : goal.returns-clause-bytes
returns-clause-bytes c =
    c.put.ensures.bytes ∙ ap (λ bs. c.args.self.now ++ bs)
    (ap (λ all. take (8 - (8 - c.args.width)) (drop (8 - c.args.width) all)) c.to_be_bytes-bytes.ensures
    ∙ number_bytes-last c.args.width c.args.value c.requires.width)
