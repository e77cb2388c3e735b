use Rattle.std.proofs.Common.{◌≡◌, ◌+◌, ◌*◌, length}
use Rattle.tw_base.proofs.lemmas.format.PutLaws.{ManyPut}
use Rattle.tw_rbnode.specs.NodeBytes.{child_codec}
use Rattle.tw_rbnode.proofs.writing.put_children.Given as goal

abbrev pub invariant-loop-child : goal.invariant-loop-child
invariant-loop-child l = ManyPut child_codec.write child_codec.Fits l.initial.page l.page l.children l.child-index
    × (length l.page ≡ length l.initial.page + 40 * l.child-index)
