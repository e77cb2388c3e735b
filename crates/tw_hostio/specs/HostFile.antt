-- How far a file of the system is opened.
use Rattle.std.specs.Prelude.{◌≡◌, Option, Some, None}
use Rattle.tw_hostio.specs.declared.access.Access.{Access}
use Rattle.tw_hostio.specs.declared.access.Access.TheVariants.{Read, Write}
use Rattle.tw_hostio.specs.declared.file_stage.FileStage.{FileStage}
use Rattle.tw_hostio.specs.declared.file_stage.FileStage.TheVariants.{Closed, Locked, Named}

-- by what it is to be opened for, and whether it is
abbrev pub host_stage : {X : Type 0} → Access → Option X → FileStage
host_stage access None = Closed
host_stage Read (Some file) = Locked
host_stage Write (Some file) = Named

-- where nothing is told, whatever follows from what is told holds
pub nothing_told : {X : Type 0} (told : X) (P : Type 0) → (let none : Option X = None in none ≡ Some told) → P
nothing_told told P is = cc
