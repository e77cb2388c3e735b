use Rattle.tw_base.proofs.lemmas.format.CodecLaws.{unambiguous}
use Rattle.tw_follow.specs.HeadPages.{head_codec}
use Rattle.tw_follow.specs.Roots.{root_codec}
use Rattle.tw_follow.proofs.Spelling.{head-lawful, root-lawful, root-size}
use Rattle.tw_follow.proofs.laws.root_laws.Goals as goal

pub returns-clause-records : goal.returns-clause-records
returns-clause-records c = (unambiguous root_codec root-lawful, unambiguous head_codec head-lawful)

pub returns-clause-size : goal.returns-clause-size
returns-clause-size c = λ r fits. root-size r fits
