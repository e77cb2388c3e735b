use Rattle.tw_base.proofs.format.fields.+number_by_bytes.Given as goal

abbrev pub decreases-number_by_bytes : goal.decreases-number_by_bytes
decreases-number_by_bytes l = l.width
