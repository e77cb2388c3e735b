use Rattle.std.proofs.Common.{◌≡◌, ◌++◌, drop, map}
use Rattle.tw_world.specs.Hosts.{host_key}
use Rattle.tw_world.proofs.summary.services.Given as goal

-- the keys so far, and those of the services that are left
abbrev pub invariant-loop-host : goal.invariant-loop-host
invariant-loop-host l = l.services ++ map host_key (drop l.host-index l.hosts) ≡ map host_key l.hosts
