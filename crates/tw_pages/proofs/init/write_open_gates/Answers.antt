use Rattle.std.proofs.Common.{◌∙◌}
use Rattle.std.specs.Option.{option_map}
use Rattle.tw_disk.specs.Image.{put}
use Rattle.tw_disk.proofs.Moments.{pair_rests}
use Rattle.tw_pages.specs.Store.{open_gate_page, OpensAboveOlder}
use Rattle.tw_pages.specs.InitSteps.{BothClosed, HasBodies}
use Rattle.tw_pages.specs.Init.{first_opening}
use Rattle.tw_pages.proofs.Begins.{gates_opened}
use Rattle.tw_pages.proofs.init.write_open_gates.Goals as goal

pub returns-clause-opened : goal.returns-clause-opened
returns-clause-opened g c = λ root rest.
    pair_rests (g.D.Disk.view c.args.disk.now) (g.D.Disk.view c.write_pair_durably.new.disk) 0 open_gate_page 1
    open_gate_page (λ i. BothClosed i × HasBodies root i) (OpensAboveOlder (first_opening root)) rest
    (c.in_ok-write_pair_durably.ensures.written ∙ (λ i. option_map (put 1 (c.open_gate-2.ensures i))
    (option_map (put 0 (c.open_gate.ensures i)) (g.D.Disk.view c.args.disk.now).content)))
    c.in_ok-write_pair_durably.ensures.durable (gates_opened root rest.image rest.has.1)
