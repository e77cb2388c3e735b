-- Runs of the program, and services that are opened between them, on one disk, one after the other; and what is published meanwhile.
use Rattle.std.specs.Prelude.{◌≡◌, ◌⊎◌, ℕ, List, [], ◌∷◌, Some}
use Rattle.sha2.specs.Sha256.{sha256}
use Rattle.tw_base.specs.declared.history.thread.Thread.{Thread}
use Rattle.tw_base.specs.history.History.{History}
use Rattle.tw_disk.specs.Disk.{DiskView}
use Rattle.tw_disk.specs.Image.{Image}
use Rattle.tw_service.specs.declared.service.Service.{Service}
use Rattle.tw_service.specs.Stands.{no_history}
use Rattle.tw_diskcmd.specs.Disks.{StandsAtHistory}
use Rattle.tw_words.specs.CommandLine.{command_of}
use Rattle.tw_words.specs.declared.command.Command.TheVariants.{Init}
use Rattle.tw_app.specs.declared.outcome.Outcome.{Outcome}
use Rattle.tw_app.specs.declared.outcome.Outcome.TheVariants.{Made}
use Rattle.tw_app.specs.Around.{Outside}
use Rattle.tw_app.specs.Running.{HasOutcome}
use Rattle.tw_app.specs.Statuses.{AreWordsOf}
use Rattle.tw_pages.specs.Runs.{Happening, HoldsOnly, IsRunFrom, disk_at, end_of}
use Rattle.tw_pages.specs.Runs.State.{Closed}
use Rattle.tw_laws.specs.Runs.{ServiceAct, HasOneAuthenticator, IsServicePublished, services}
use Rattle.tw_laws.specs.Publishing.{IsOutBy}

-- What comes to a disk. A run of the program is `work` and then `tell`: the first has the disk and no sink, and the second a sink and no
-- disk. So nothing is out before the work on the disk is done.
pub data Turn (D S : Type 0) : Type 0 where
  -- the work is done, and some of the outcome's text may be out, be it all of it: the words, what is around the work, and what it came to
  Runs : (words : List (List ℕ)) → Outside D → Outcome → Turn D S
  -- the program is stopped in its work, or its machine is: the outcome is one that it would have come to
  StopsBefore : (words : List (List ℕ)) → Outside D → Outcome → Turn D S
  -- services are opened over the disk
  Serves : List (Happening D S ServiceAct) → Turn D S

-- a turn, and the disk that is there behind it
pub record TurnBehind (D S : Type 0) : Type 0 where
  pub turn : Turn D S
  pub left : D

-- the turns are of services as this one
abbrev pub AreTurnsOf : {D S : Type 0} → S → List (TurnBehind D S) → Type 0
AreTurnsOf service moves = Unit {0}

-- the work of a run of the program on this disk
pub record IsWorkOn {D : Type 0} (view : D → DiskView) (disk : D) (words : List (List ℕ)) (o : Outside D) (outcome : Outcome) : Type 0 where
  pub on : o.disk.before ≡ disk
  pub comes : HasOutcome view o words outcome

module _ {D H : Type 0} {g : _} {k : _} (view : D → DiskView) where
  -- The turn leads from one disk to the next: to the one that the work hands back, or, where the run or its machine stopped later, to one that
  -- holds images of that moment alone; where it stopped in its work, images of some moments since its start. Lost power leaves
  -- one image, all of it stable, and a program that was killed may leave writes pending.
  abbrev pub LeadsTo : Turn D (Service D H g k) → (disk left : D) → Type 0
  LeadsTo (Runs words o outcome) disk left =
      IsWorkOn view disk words o outcome × ((left ≡ o.disk.after) ⊎ HoldsOnly view (view o.disk.after).may_leave left)
  LeadsTo (StopsBefore words o outcome) disk left =
      IsWorkOn view disk words o outcome × HoldsOnly view ((view o.disk.after).left_since (view disk).moment) left
  LeadsTo (Serves run) disk left = IsRunFrom view (services sha256 view) (Closed disk) run × (left ≡ disk_at view (services sha256 view) (end_of (Closed disk) run))

  abbrev pub AreTurnsFrom : D → List (TurnBehind D (Service D H g k)) → Type 0
  AreTurnsFrom disk [] = Unit {0}
  AreTurnsFrom disk (x ∷ moves) = LeadsTo x.turn disk x.left × AreTurnsFrom x.left moves

  -- the turn is a run of `init` of this name that has made the service, whatever became of its text
  abbrev pub IsMaking : (name : List ℕ) → Turn D (Service D H g k) → Type 0
  IsMaking name (Runs words o (Made thread)) = command_of words ≡ Some (Init name)
  IsMaking name _ = ⊥

  -- so is the first one
  abbrev pub IsMadeFirst : (name : List ℕ) → List (TurnBehind D (Service D H g k)) → Type 0
  IsMadeFirst name [] = ⊥
  IsMadeFirst name (x ∷ moves) = IsMaking name x.turn

  -- the disk stands for this first history for good; or the first history has no step, and the first turn makes its service on a disk that
  -- tells its content
  abbrev pub StartsAs : (first : History) → D → List (TurnBehind D (Service D H g k)) → Type 0
  StartsAs first disk moves =
      StandsAtHistory view disk first ⊎ ((image : Image) × ((view disk).content ≡ Some image) × (first ≡ no_history first.name) × IsMadeFirst first.name moves)

-- the thread is published in the turn: by the text of what a run came to, or by a service
abbrev pub IsOutIn : {D H : Type 0} {g : _} {k : _} → Turn D (Service D H g k) → D → Thread → Type 0
IsOutIn (Runs words o outcome) disk t = AreWordsOf (λ command. IsOutBy command outcome t) words
IsOutIn (StopsBefore words o outcome) disk t = ⊥
IsOutIn (Serves run) disk t = IsServicePublished sha256 (Closed disk) run t

-- in one of the turns
abbrev pub IsOut : {D H : Type 0} {g : _} {k : _} → D → List (TurnBehind D (Service D H g k)) → Thread → Type 0
IsOut disk [] t = ⊥
IsOut disk (x ∷ moves) t = IsOutIn x.turn disk t ⊎ IsOut x.left moves t

-- the disk behind all turns
abbrev pub last_disk : {D S : Type 0} → D → List (TurnBehind D S) → D
last_disk disk [] = disk
last_disk disk (x ∷ moves) = last_disk x.left moves

-- of the first history's threads and those published there is one of each step at most, and what the last disk may hold has all of them
abbrev pub HasOne : {D H : Type 0} {g : _} {k : _} → (view : D → DiskView) → (first : History) → D → List (TurnBehind D (Service D H g k)) → Type 0
HasOne view first disk moves = HasOneAuthenticator sha256 view first.name first (IsOut disk moves) (last_disk disk moves)
