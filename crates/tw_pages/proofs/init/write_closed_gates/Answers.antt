use Rattle.std.proofs.Common.{◌<◌, length, ◌∙◌}
use Rattle.std.specs.Option.{option_map}
use Rattle.tw_disk.specs.Image.{put}
use Rattle.tw_disk.proofs.Moments.{pair_rests}
use Rattle.tw_pages.specs.Store.{closed_gate_page}
use Rattle.tw_pages.specs.InitSteps.{BothClosed}
use Rattle.tw_pages.proofs.Begins.{gates_closed}
use Rattle.tw_pages.proofs.init.write_closed_gates.Goals as goal

pub returns-clause-closed : goal.returns-clause-closed
returns-clause-closed g c = λ rest.
    pair_rests (g.D.Disk.view c.args.disk.now) (g.D.Disk.view c.write_pair_durably.new.disk) 0 closed_gate_page 1
    closed_gate_page (λ i. length i < 4) BothClosed rest
    (c.in_ok-write_pair_durably.ensures.written ∙ (λ i. option_map (put 1 (c.closed_gate-2.ensures i))
    (option_map (put 0 (c.closed_gate.ensures i)) (g.D.Disk.view c.args.disk.now).content)))
    c.in_ok-write_pair_durably.ensures.durable (gates_closed rest.image)
