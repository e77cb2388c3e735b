use Rattle.std.proofs.Common.{arith}
use Rattle.tw_base.proofs.lemmas.format.PutLaws.{put-all, put-more, put-none}
use Rattle.tw_rbnode.specs.NodeBytes.{child_codec}
use Rattle.tw_rbnode.proofs.writing.put_children.Goals as goal

pub put_one-requires : goal.put_one-requires
put_one-requires c = let more = c.loop-child-test.true in omega (arith, c.requires, c.loop-child.invariant.1, more)

pub loop-child-init : goal.loop-child-init
loop-child-init c = (put-none child_codec.write child_codec.Fits c.args.page.now c.args.children.now, omega arith)

pub loop-child-preserved : goal.loop-child-preserved
loop-child-preserved c = (
  put-more child_codec.write child_codec.Fits c.args.page.now c.loop-child.page _ c.args.children.now
      c.loop-child.child-index c.child-item.result c.loop-child-test.true c.child-item.is
      c.loop-child.invariant.0 c.put_one.ensures.bytes c.put_one.ensures.fits,
  omega (arith, c.put_one.ensures.size, c.loop-child.invariant.1),
)

pub returns-clause-bytes : goal.returns-clause-bytes
returns-clause-bytes c = (put-all child_codec.write child_codec.Fits c.args.page.now c.loop-child.page
    c.args.children.now c.loop-child.child-index c.loop-child-test.false c.loop-child.invariant.0).0

pub returns-clause-fits : goal.returns-clause-fits
returns-clause-fits c = (put-all child_codec.write child_codec.Fits c.args.page.now c.loop-child.page
    c.args.children.now c.loop-child.child-index c.loop-child-test.false c.loop-child.invariant.0).1
