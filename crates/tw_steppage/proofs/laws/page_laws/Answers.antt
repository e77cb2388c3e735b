use Rattle.tw_base.proofs.lemmas.format.CodecLaws.{unambiguous}
use Rattle.tw_steppage.specs.StepBytes.{paged_codec}
use Rattle.tw_steppage.proofs.StepCodecs.{step-lawful}
use Rattle.tw_steppage.proofs.laws.page_laws.Goals as goal

pub returns : goal.returns
returns c = record { steps = λ step. unambiguous (paged_codec step) (step-lawful step) }
