use Rattle.std.proofs.Common.{take}
use Rattle.tw_base.specs.kinds.Lists.{Each}
use Rattle.tw_rbnode.specs.declared.child.Child.{Child}
use Rattle.tw_rbnode.specs.Children.{IsChildAt}
use Rattle.tw_rbnode.specs.NodeBytes.{LiesBelow}
use Rattle.tw_rbnode.proofs.reading.are_children.Given as goal

abbrev pub invariant-loop-child : goal.invariant-loop-child
invariant-loop-child g l = Each (λ (c : Child). IsChildAt g.H.Hasher.dig l.level c × LiesBelow l.page l.level c)
    (take l.child-index l.children)
