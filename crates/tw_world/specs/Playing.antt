-- What playing a script comes to.
use Rattle.std.specs.Prelude.{◌≡◌, ℕ, List, [], codes, map, Result, Ok, Err}
use Rattle.std.specs.Cmp.Lexicographic.{slice_cmp}
use Rattle.std.specs.List.Sorted.{IsPermutation, IsSorted}
use Rattle.std.specs.Ordering.{nat_cmp}
use Rattle.sha2.specs.Sha256.{sha256}
use Rattle.tw_base.specs.history.Family.{HasHistory}
use Rattle.tw_base.specs.history.History.{History}
use Rattle.tw_base.specs.kinds.Lists.{Each}
use Rattle.tw_script.specs.Scripts.{ReadsScript}
use Rattle.tw_script.specs.declared.line.Line.{Line}
use Rattle.tw_script.specs.declared.script.NumberedLine.{NumberedLine}
use Rattle.tw_script.specs.declared.script.ScriptFault.{ScriptFault}
use Rattle.tw_world.specs.Hosts.{StandsForGood, claims_none}
use Rattle.tw_world.specs.PlayedLines.{AreHostDisks, PlaysOn}
use Rattle.tw_world.specs.Runs.{RunsLines}
use Rattle.tw_world.specs.Telling.{replayed_text, told_count_of}
use Rattle.tw_world.specs.Worlds.{World, family, no_world}
use Rattle.tw_world.specs.declared.counts.Counts.{Counts}
use Rattle.tw_world.specs.declared.host.Host.{Host}
use Rattle.tw_world.specs.declared.replaying.Played.{Played}
use Rattle.tw_world.specs.declared.replaying.WorldDisk.{WorldDisk}
use Rattle.tw_world.specs.declared.told.Told.{Told}

-- how many answers begin with each of the four words
abbrev pub counts_of : List Told → Counts
counts_of told = record {
  accepted = told_count_of (codes "accepted") told;
  none = told_count_of (codes "none") told;
  refused = told_count_of (codes "refused") told;
  rejected = told_count_of (codes "rejected") told;
}

-- one disk for each of the histories, in the order of their names, of which no two are the same; each is at rest and stands for the history
-- of its name for good
pub record AreDisksOf (fam : List History) (disks : List WorldDisk) : Type 0 where
  pub one_each : IsPermutation (map (λ (h : History). h.name) fam) (map (λ (d : WorldDisk). d.name) disks)
  pub in_order : IsSorted (slice_cmp nat_cmp) (map (λ (d : WorldDisk). d.name) disks)
  pub stand : Each (λ (d : WorldDisk). (h : History) × HasHistory fam d.name h × StandsForGood d.disk h) disks

-- the lines of a script, without their numbers
abbrev pub script_lines : List NumberedLine → List Line
script_lines script = map (λ (l : NumberedLine). l.line) script

-- what came of a script: its lines were told, one after another, from a world of nothing on, in which no service claims a time. The text is
-- that of what was told and of the histories at the end, the counts are those of what was told, and the disks are those of the histories. So the
-- lines led, from no service on, to services over these disks, each by what it says; a crash line to a crash at its call, which leaves what it chose
pub record IsPlayed (script : List NumberedLine) (played : Played) : Type 0 where
  pub told : List Told
  pub end : World
  pub runs : RunsLines sha256 claims_none no_world (script_lines script) told end
  pub text : played.text ≡ replayed_text script told (family end)
  pub counts : played.counts ≡ counts_of told
  pub disks : AreDisksOf (family end) played.disks
  pub hosts : List Host
  pub plays : PlaysOn no_world [] (script_lines script) told end hosts
  pub over : AreHostDisks hosts played.disks

-- bytes that are a script are played as it; of others it is told what reading them tells. Want of memory is free
abbrev pub Replays : (bytes : List ℕ) → Result Played ScriptFault → Type 0
Replays bytes (Ok played) = (script : List NumberedLine) × ReadsScript bytes (Ok script) × IsPlayed script played
Replays bytes (Err fault) = ReadsScript bytes (Err fault)
