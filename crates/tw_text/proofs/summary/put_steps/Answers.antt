use Rattle.tw_text.proofs.NameBytes.{letters-utf8}
use Rattle.tw_text.proofs.summary.put_steps.Goals as goal

pub unreachable-requires : goal.unreachable-requires
unreachable-requires c = c.in-Err.ensures.cases.0 (letters-utf8 c.text.result.now c.text.ensures.letters)
