use Rattle.std.proofs.Common.{◌≡◌, ◌++◌, length, map}
use Rattle.std.specs.Vec.Iter.{into_iter_items, into_iter_len}
use Rattle.tw_world.specs.PlayedLines.{host_disk}
use Rattle.tw_world.proofs.replaying.disks_of.Given as goal

-- the disks so far are those of the services that were taken
abbrev pub invariant-loop-host : goal.invariant-loop-host
invariant-loop-host l = (l.yielded ++ into_iter_items l.host-iterator ≡ into_iter_items l.initial.host-iterator)
    × (l.disks ≡ map host_disk l.yielded)
    × (into_iter_len l.host-iterator ≡ length (into_iter_items l.host-iterator))
