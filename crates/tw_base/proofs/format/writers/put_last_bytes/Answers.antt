use Rattle.std.proofs.Common.{◌≡◌, ◌-◌, take, drop, ap, ◌∙◌}
use Rattle.tw_base.specs.format.Fields.{number_bytes}
use Rattle.tw_base.proofs.lemmas.format.NumberLaws.{number_bytes-last}
use Rattle.tw_base.proofs.format.writers.put_last_bytes.Goals as goal

pub returns-clause-ok : goal.returns-clause-ok
returns-clause-ok c =
    let last : take (8 - (8 - c.args.width)) (drop (8 - c.args.width) c.to_be_bytes-bytes.result) ≡ number_bytes
    c.args.width c.args.value =
    ap (λ all. take (8 - (8 - c.args.width)) (drop (8 - c.args.width) all)) c.to_be_bytes-bytes.ensures
    ∙ number_bytes-last c.args.width c.args.value c.requires in
    rw last at c.extend_from_slice.ensures.ok
