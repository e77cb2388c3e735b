use Rattle.tw_base.proofs.lemmas.kinds.ClashPairs.{clash_pair-clashes, clash_pair-none}
use Rattle.tw_base.proofs.history.history_laws.clash_laws.Goals as goal

pub returns-clause-some : goal.returns-clause-some
returns-clause-some g c = λ texts are p e. clash_pair-clashes g.H.Hasher.dig texts are p e

pub returns-clause-none : goal.returns-clause-none
returns-clause-none g c = λ texts e clash. clash_pair-none g.H.Hasher.dig texts e clash
