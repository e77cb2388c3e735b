use Rattle.std.proofs.Common.{◌∙◌, arith}
use Rattle.tw_base.proofs.lemmas.kinds.ByteLemmas.{AreBytes-from}
use Rattle.std.specs.Option.{option_map}
use Rattle.tw_disk.specs.Image.{put}
use Rattle.tw_disk.proofs.Moments.{pair_rests}
use Rattle.tw_pages.specs.Store.{body_page}
use Rattle.tw_pages.specs.InitSteps.{BothClosed, HasBodies}
use Rattle.tw_pages.proofs.Begins.{bodies_stand}
use Rattle.tw_pages.proofs.init.write_bodies.Goals as goal

pub returns-clause-ready : goal.returns-clause-ready
returns-clause-ready g c = λ rest.
    let root = c.args.root.now in
    pair_rests (g.D.Disk.view c.args.disk.now) (g.D.Disk.view c.write_pair_durably.new.disk) 2 (body_page 1 4 root) 3
    (body_page 0 4 root) BothClosed (λ i. BothClosed i × HasBodies root i) rest
    (c.in_ok-write_pair_durably.ensures.written ∙ (λ i. option_map (put 3 (c.body-2.ensures i))
    (option_map (put 2 (c.body.ensures i)) (g.D.Disk.view c.args.disk.now).content)))
    c.in_ok-write_pair_durably.ensures.durable (bodies_stand root rest.image c.requires.root
    (AreBytes-from c.args.root.now (λ i. omega (arith, c.type_inv.root i))) rest.has)
