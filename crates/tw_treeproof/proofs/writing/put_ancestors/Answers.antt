use Rattle.tw_base.specs.declared.history.tree_proof.Ancestor.{Ancestor}
use Rattle.tw_base.proofs.lemmas.format.PutLaws.{put-all, put-more, put-none}
use Rattle.tw_base.specs.history.Limits.{IsAncestorInRange}
use Rattle.tw_treeproof.specs.Codecs.{ancestor_codec}
use Rattle.tw_treeproof.proofs.writing.put_ancestors.Goals as goal

abbrev Good : Ancestor → Type 0
Good a = IsAncestorInRange a → ancestor_codec.Fits a

pub loop-ancestor-init : goal.loop-ancestor-init
loop-ancestor-init c = put-none ancestor_codec.write Good c.args.into.now c.args.ancestors.now

pub loop-ancestor-preserved : goal.loop-ancestor-preserved
loop-ancestor-preserved c =
    put-more ancestor_codec.write Good c.args.into.now c.loop-ancestor.into _ c.args.ancestors.now
    c.loop-ancestor.ancestor-index c.ancestor-item.result c.loop-ancestor-test.true c.ancestor-item.is
    c.loop-ancestor.invariant c.in_ok-put_ancestor.ensures.ok c.in_ok-put_ancestor.ensures.fits

pub returns : goal.returns
returns c =
    let all = put-all ancestor_codec.write Good c.args.into.now c.loop-ancestor.into c.args.ancestors.now
    c.loop-ancestor.ancestor-index c.loop-ancestor-test.false c.loop-ancestor.invariant in
    record { ok = all.0; fits = all.1 }
