use Rattle.std.proofs.Common.{inl, inr}
use Rattle.tw_disk.specs.Disk.{IsAtRest, LeavesOnly}
use Rattle.tw_disk.proofs.Moments.{goes_on, leaves_weaker}
use Rattle.tw_pages.specs.Slots.{IsBlank}
use Rattle.tw_pages.specs.InitSteps.{BothClosed, IsUnmade}
use Rattle.tw_pages.specs.Init.{IsBlankOrRoot}
use Rattle.tw_pages.proofs.init.make.Given.{Over}
use Rattle.tw_pages.proofs.init.make.Goals.{After-write_open_gates}
use Rattle.tw_pages.proofs.init.make.Goals as goal

-- the three phases
images : (g : Over) (c : After-write_open_gates g) → IsAtRest (g.D.Disk.view c.args.disk.now) (IsUnmade c.args.short)
    → LeavesOnly (g.D.Disk.view c.args.disk.now) (g.D.Disk.view c.write_open_gates.new.disk)
    (IsBlankOrRoot c.args.root.now)
images g c rest =
    let P = IsBlankOrRoot c.args.root.now in
    let closed = c.in_ok-ensure_gates_closed.ensures.closed rest in
    let ready = c.in_ok-write_bodies.ensures.ready closed in
    goes_on (g.D.Disk.view c.args.disk.now) (g.D.Disk.view c.write_bodies.new.disk)
    (g.D.Disk.view c.write_open_gates.new.disk) P
    (goes_on (g.D.Disk.view c.args.disk.now) (g.D.Disk.view c.ensure_gates_closed.new.disk)
    (g.D.Disk.view c.write_bodies.new.disk) P
    (leaves_weaker (g.D.Disk.view c.args.disk.now) (g.D.Disk.view c.ensure_gates_closed.new.disk) IsBlank P
    (λ i blank. inl blank) (c.in_ok-ensure_gates_closed.ensures.images rest))
    (leaves_weaker (g.D.Disk.view c.ensure_gates_closed.new.disk) (g.D.Disk.view c.write_bodies.new.disk) BothClosed P
    (λ i both. inl (inr (both.first, both.second))) (c.in_ok-write_bodies.ensures.images closed)))
    (c.write_open_gates.ensures.images c.args.root.now ready)

pub returns-in_err-write_open_gates-clause-images : goal.returns-in_err-write_open_gates-clause-images
returns-in_err-write_open_gates-clause-images g c = images g (goal.at.returns-in_err-write_open_gates-clause-images
    g c).After-write_open_gates

pub returns-clause-images : goal.returns-clause-images
returns-clause-images g c = images g (goal.at.returns-clause-images g c).After-write_open_gates
