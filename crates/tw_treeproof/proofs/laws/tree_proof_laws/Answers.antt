use Rattle.tw_treeproof.proofs.OwnProofs.{own-answers, own-checks, own-fits}
use Rattle.tw_treeproof.proofs.laws.tree_proof_laws.Goals as goal

pub returns-clause-checks : goal.returns-clause-checks
returns-clause-checks g c = own-checks g.H.Hasher.dig

pub returns-clause-answers : goal.returns-clause-answers
returns-clause-answers g c = own-answers g.H.Hasher.dig

pub returns-clause-fits : goal.returns-clause-fits
returns-clause-fits g c = own-fits g.H.Hasher.dig g.met.H.Hasher.size g.met.H.Hasher.bytes
