use Rattle.tw_base.proofs.lemmas.format.CodecLaws.{unambiguous}
use Rattle.tw_answers.specs.Roots.{root_codec}
use Rattle.tw_answers.proofs.RootLaws.{root-lawful, root-sizes}
use Rattle.tw_answers.proofs.laws.record_laws.Goals as goal

pub returns-clause-records : goal.returns-clause-records
returns-clause-records c = λ is_timed. unambiguous (root_codec is_timed) (root-lawful is_timed)

pub returns-clause-sizes : goal.returns-clause-sizes
returns-clause-sizes c = root-sizes
