use Rattle.std.proofs.Common.{ap, ◌∙◌}
use Rattle.std.specs.Prelude.{Some}
use Rattle.tw_disk.specs.declared.memory_disk.MemDisk.{MemDisk}
use Rattle.tw_world.specs.OnDisks.{pages_left}
use Rattle.tw_world.proofs.Ends.{ends-crashed, may-leave}
use Rattle.tw_world.proofs.serving.crashed.Goals as goal

pub returns-clause-ends : goal.returns-clause-ends
returns-clause-ends c given h answered =
    ends-crashed given h c.args.service c.in_ok-rested.rested.disk c.in_ok-rested.rested.steps c.crash_told.result
    c.close-disk.result c.close-disk.ensures.disk
    c.close-disk.ensures.stands c.in_ok-rested.ensures.rests c.args.answer c.crash_told.ensures answered

pub returns-clause-left : goal.returns-clause-left
returns-clause-left c = c.in_ok-rested.ensures.left
    ∙ ap (λ (d : MemDisk). pages_left (Some c.args.planned) d) c.close-disk.ensures.disk

pub reopened-requires : goal.reopened-requires
reopened-requires c =
    may-leave c.requires.0 c.requires.1 c.args.service c.close-disk.result c.close-disk.ensures.disk
    c.close-disk.ensures.stands c.args.answer c.requires.2
