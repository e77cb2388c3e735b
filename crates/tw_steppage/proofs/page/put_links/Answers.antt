use Rattle.std.proofs.Common.{arith}
use Rattle.tw_base.proofs.lemmas.format.PutLaws.{put-all, put-more, put-none}
use Rattle.tw_steppage.specs.StepBytes.{ref_codec}
use Rattle.tw_steppage.proofs.page.put_links.Goals as goal

pub put_link-requires : goal.put_link-requires
put_link-requires c = let more = c.loop-link-test.true in omega (arith, c.requires, c.loop-link.invariant.1, more)

pub loop-link-init : goal.loop-link-init
loop-link-init c =
    (put-none ref_codec.write (λ link. Unit {0}) c.args.page.now c.args.links.now, omega arith, omega arith)

pub loop-link-preserved : goal.loop-link-preserved
loop-link-preserved c = (
  put-more ref_codec.write (λ link. Unit {0}) c.args.page.now c.loop-link.page _ c.args.links.now c.loop-link.link-index
      c.link-item.result c.loop-link-test.true c.link-item.is
      c.loop-link.invariant.0 c.put_link.ensures.bytes tt,
  omega (arith, c.put_link.ensures.size, c.loop-link.invariant.1),
  omega (arith, c.loop-link-test.true),
)

pub returns-clause-bytes : goal.returns-clause-bytes
returns-clause-bytes c = (put-all ref_codec.write (λ link. Unit {0}) c.args.page.now c.loop-link.page c.args.links.now
    c.loop-link.link-index c.loop-link-test.false c.loop-link.invariant.0).0

pub returns-clause-size : goal.returns-clause-size
returns-clause-size c = omega (arith, c.loop-link.invariant.1, c.loop-link.invariant.2, c.loop-link-test.false)
