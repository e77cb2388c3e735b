use Rattle.std.proofs.Common.{ℕ, ◌+◌, drop}
use Rattle.tw_world.specs.OnDisks.{IsFirst}
use Rattle.tw_world.proofs.player.Player.find.Given as goal

-- the first service of the name among those that are left is the first one, and there is one
abbrev pub invariant-loop-at : goal.invariant-loop-at
invariant-loop-at l =
    ((k : ℕ) → IsFirst (drop l.at l.self.hosts.items) l.name k → IsFirst l.self.hosts.items l.name (l.at + k))
    × ((k : ℕ) × IsFirst (drop l.at l.self.hosts.items) l.name k)
