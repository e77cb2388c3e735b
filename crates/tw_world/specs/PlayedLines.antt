-- What playing the lines of a script, one after another, comes to.
use Rattle.std.specs.Prelude.{◌≡◌, ℕ, List, [], ◌∷◌, ◌++◌, map, Ok}
use Rattle.std.specs.Cmp.Lexicographic.{slice_cmp}
use Rattle.std.specs.List.Sorted.{IsPermutation, IsSortedByKey}
use Rattle.std.specs.Ordering.{nat_cmp}
use Rattle.sha2.specs.Sha256.{sha256}
use Rattle.tw_script.specs.Scripts.{ReadsScript}
use Rattle.tw_script.specs.declared.line.Line.{Line}
use Rattle.tw_script.specs.declared.script.NumberedLine.{NumberedLine}
use Rattle.tw_world.specs.Hosts.{claims_none}
use Rattle.tw_world.specs.OnDisks.{IsLineOn}
use Rattle.tw_world.specs.Players.{MayTell, PlayerFollows}
use Rattle.tw_world.specs.Runs.{IsLineTold, RunsLines}
use Rattle.tw_world.specs.Worlds.{World, no_world}
use Rattle.tw_world.specs.declared.host.Host.{Host}
use Rattle.tw_world.specs.declared.player.Player.{Player}
use Rattle.tw_world.specs.declared.replaying.WorldDisk.{WorldDisk}
use Rattle.tw_world.specs.declared.told.Told.{Told}

-- the lines are those that some bytes are read as
abbrev pub AreLinesRead : List NumberedLine → Type 0
AreLinesRead script = (bytes : List ℕ) × ReadsScript bytes (Ok script)

-- where the line may be told of the world that is played, one more is told, what is played then is the next world, and the line led from the
-- one's services to the other's
abbrev pub TellsNext : (old new : Player) → Line → (before after : List Told) → Type 0
TellsNext old new line before after =
    (w : World) → PlayerFollows old w → MayTell w line
    → (told : Told) × (next : World) × IsLineTold sha256 claims_none w line told next × (after ≡ before ++ told ∷ []) × PlayerFollows new next
    × IsLineOn w old.hosts.items line told new.hosts.items

-- the lines lead, one after another, from a world and its services on their disks to others
unfoldable pub PlaysOn : World → List Host → List Line → List Told → World → List Host → Type 0
PlaysOn w hosts [] [] end last = (w ≡ end) × (hosts ≡ last)
PlaysOn w hosts (line ∷ lines) (told ∷ more) end last =
    (next : World) × (after : List Host) × IsLineTold sha256 claims_none w line told next × IsLineOn w hosts line told after × PlaysOn next after lines more end last
PlaysOn w hosts _ _ end last = ⊥

-- the lines were told, from a world of nothing on, and what is played is the world at their end, with the services that they led to
abbrev pub HasPlayed : List Line → List Told → Player → Type 0
HasPlayed lines told player =
    (end : World) × RunsLines sha256 claims_none no_world lines told end × PlayerFollows player end × PlaysOn no_world [] lines told end player.hosts.items

-- the same services, sorted by name
pub record AreSorted (hosts sorted : List Host) : Type 0 where
  pub moved : IsPermutation hosts sorted
  pub in_order : IsSortedByKey (λ (host : Host). host.name) (slice_cmp nat_cmp) sorted

-- a service's disk
abbrev pub host_disk : Host → WorldDisk
host_disk host = record { name = host.name; disk = host.disk }

-- the services' disks, sorted by name
abbrev pub AreHostDisks : List Host → List WorldDisk → Type 0
AreHostDisks hosts disks = (sorted : List Host) × AreSorted hosts sorted × (disks ≡ map host_disk sorted)
