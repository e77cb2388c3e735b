-- What was read of the files of receipts.
use Rattle.std.specs.Prelude.{◌≢◌, ◌≤◌, ℕ, List, [], length, Option, Some, None, Result, Ok, Err}
use Rattle.tw_base.specs.declared.history.report.Hop.{Hop}
use Rattle.tw_base.specs.kinds.Faults.{Rose}
use Rattle.tw_base.specs.kinds.Lists.{In}
use Rattle.tw_outside.specs.Asked.{Asked}
use Rattle.tw_outside.specs.Files.{Files}
use Rattle.tw_text.specs.declared.fault.CommandFault.{CommandFault}
use Rattle.tw_text.specs.declared.fault.CommandFault.TheVariants.{Unreadable, InputFault, NoMemory}
use Rattle.tw_text.specs.declared.refusal.BadInput.{BadInput}
use Rattle.tw_text.specs.declared.refusal.BadInput.TheVariants.{BadByte}
use Rattle.tw_atlas.specs.declared.limits.TheConstants.{MOST_RECEIPTS}
use Rattle.tw_reachcmd.specs.declared.atlas.Receipts.{Receipts}
use Rattle.tw_reachcmd.specs.Held.{TellAll}
use Rattle.tw_reachcmd.specs.Atlas.{AreHops, HasBadReceipts, HoldHops, HoldNoHops}

-- the hops of the files so far, or the first that isn't as it has to be
abbrev pub AreHopsSoFar : (told : Option Files) (files : List (List ℕ)) → List Hop → Option BadInput → Type 0
AreHopsSoFar told files hops None = (all : List (List ℕ)) → TellAll told files all → AreHops [] all hops
AreHopsSoFar told files hops (Some (BadByte named place)) =
    In named files × ((all : List (List ℕ)) → TellAll told files all → HasBadReceipts [] files all named place)
AreHopsSoFar told files hops (Some _) = ⊥

abbrev pub AreReceiptsRead : (told : Option Files) (files : List (List ℕ)) → Receipts → Type 0
AreReceiptsRead told files r = AreHopsSoFar told files r.hops r.bad

-- the hops of files, or what the command then comes to
abbrev pub HopsCome : Asked → (files : List (List ℕ)) → Result (List Hop) CommandFault → Type 0
HopsCome a files (Ok hops) = HoldHops a.told files hops × (length hops ≤ MOST_RECEIPTS)
HopsCome a files (Err (Unreadable (BadByte named place))) = HoldNoHops a.told files named place
HopsCome a files (Err InputFault) = (files ≢ []) × Rose a.before a.after
HopsCome a files (Err NoMemory) = Unit {0}
HopsCome a files _ = ⊥
