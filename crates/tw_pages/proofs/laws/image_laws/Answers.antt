use Rattle.tw_base.proofs.lemmas.format.CodecLaws.{unambiguous}
use Rattle.tw_pages.specs.Store.{body_codec}
use Rattle.tw_pages.proofs.Bodies.{body-lawful}
use Rattle.tw_pages.proofs.NotRefused.{not_refused, refused_once}
use Rattle.tw_pages.proofs.Once.{opens_once}
use Rattle.tw_pages.proofs.laws.image_laws.Goals as goal

pub returns-clause-body : goal.returns-clause-body
returns-clause-body c = unambiguous body_codec body-lawful

pub returns-clause-once : goal.returns-clause-once
returns-clause-once c = λ o p image opens also. opens_once o p image opens also

pub returns-clause-never_refused : goal.returns-clause-never_refused
returns-clause-never_refused c = λ o image opens fault refused. not_refused o image opens fault refused

pub returns-clause-one_reason : goal.returns-clause-one_reason
returns-clause-one_reason c = λ image fault other is is_also. refused_once image fault other is is_also
