use Rattle.tw_rbnode.proofs.TreeLabels.{page-label}
use Rattle.tw_rbnode.proofs.TreeLists.{page-list}
use Rattle.tw_rbnode.proofs.laws.page_tree_laws.Goals as goal

pub returns-clause-label : goal.returns-clause-label
returns-clause-label g c = page-label g.H.Hasher.dig

pub returns-clause-list : goal.returns-clause-list
returns-clause-list g c = page-list
