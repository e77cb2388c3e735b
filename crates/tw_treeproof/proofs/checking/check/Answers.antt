use Rattle.tw_treeproof.proofs.Binding.{check-binds}
use Rattle.tw_treeproof.proofs.checking.check.Goals as goal

pub returns-clause-binds : goal.returns-clause-binds
returns-clause-binds g c = check-binds g.H.Hasher.dig g.met.H.Hasher.size g.met.H.Hasher.bytes c.args.root.now
    c.args.ask.now c.args.proof.now c.checked.result c.checked.ensures.shows c.checked.ensures.sizes
