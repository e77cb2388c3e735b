use Rattle.std.proofs.Common.{ap, ◌∙◌}
use Rattle.tw_disk.specs.MemDisk.{pages_of}
use Rattle.tw_service.specs.Serves.{name_of}
use Rattle.tw_world.proofs.Resting.{stands-closed}
use Rattle.tw_world.proofs.serving.closed.Goals as goal

pub returns-clause-left : goal.returns-clause-left
returns-clause-left c h served =
    c.settled.ensures.left h (stands-closed c.close.result (name_of c.args.service) h (c.close.ensures.stands h served))
    ∙ ap pages_of c.close.ensures.disk
