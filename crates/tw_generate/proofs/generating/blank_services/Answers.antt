use Rattle.std.proofs.Common.{refl}
use Rattle.tw_generate.proofs.Results.{blank}
use Rattle.tw_generate.proofs.generating.blank_services.Goals as goal

pub returns : goal.returns
returns c = c.make.ensures _ _ _ refl refl refl

pub make-requires-clause-alpha : goal.make-requires-clause-alpha
make-requires-clause-alpha c = blank c.new.result c.new.ensures.pages

pub make-requires-clause-beta : goal.make-requires-clause-beta
make-requires-clause-beta c = blank c.new-2.result c.new-2.ensures.pages

pub make-requires-clause-gamma : goal.make-requires-clause-gamma
make-requires-clause-gamma c = blank c.new-3.result c.new-3.ensures.pages
