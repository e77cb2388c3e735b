-- What comes to a disk and to followers over it, one after the other.
use Rattle.std.specs.Prelude.{◌≡◌, ℕ, List, Some, Result, Ok, Err}
use Rattle.tw_base.specs.declared.history.thread.Thread.{Thread}
use Rattle.tw_base.specs.kinds.Lists.{In}
use Rattle.tw_disk.specs.Disk.{DiskView, LeavesOnly}
use Rattle.tw_disk.specs.Image.{Image}
use Rattle.tw_pages.specs.Runs.{Happening, IsPublished, Values}
use Rattle.tw_pages.specs.Runs.State.{Closed}
use Rattle.tw_msg.specs.declared.message.Message.{Message}
use Rattle.tw_follow.specs.declared.follower.Follower.{Follower}
use Rattle.tw_base.specs.declared.history.refusal.FollowRefusal.{FollowRefusal}
use Rattle.tw_follow.specs.Calls.{Offers, TellsHeads}
use Rattle.tw_follow.specs.Follows.{Follows, disk_of, has_failed}
use Rattle.tw_follow.specs.HeadLists.{AreHeadsRising, Kept}
use Rattle.tw_follow.specs.Runs.{Move, RunsByMoves}
use Rattle.tw_follow.specs.Stands.{StandsFor}

-- a call with its answer: an offer, or the telling of the heads
pub data Act : Type 0 where
  Offered : (bytes : List ℕ) → Result Thread FollowRefusal → Act
  ToldHeads : Result (List Thread) FollowRefusal → Act

-- an offer tells its answer, and the telling of the heads each of them
abbrev pub TellsHead : Act → Thread → Type 0
TellsHead (Offered bytes (Ok thread)) t = t ≡ thread
TellsHead (ToldHeads (Ok heads)) t = In t heads
TellsHead _ t = ⊥

-- an open follower tells nothing by itself that counts here: of its head's step 0 no list has a thread
abbrev pub ShowsNone : {V : Type 0} → V → Thread → Type 0
ShowsNone v t = ⊥

abbrev pub HasHeadIn : Kept → Thread → Type 0
HasHeadIn kept t = In t kept.heads

-- the run is one of followers as this one
abbrev pub IsFollowerRunOf : {D V : Type 0} → V → List (Happening D V Act) → Type 0
IsFollowerRunOf follower run = Unit {0}

module _ (dig : List ℕ → List ℕ) where
  abbrev pub IsImageOfList : Kept → Image → Type 0
  IsImageOfList kept image = StandsFor dig image kept

  -- there are moves by which the one list comes to the other
  abbrev pub GoesOnByMoves : (kept next : Kept) → Type 0
  GoesOnByMoves kept next = (moves : List Move) × (moved : List Message) × RunsByMoves dig kept moves moved next

  -- the image stands for a list to which this one came, whose steps rise, and which has all of these heads
  abbrev pub KeepsAll : (first : Kept) → (Told : Thread → Type 0) → Image → Type 0
  KeepsAll first Told image = (last : Kept) × StandsFor dig image last × GoesOnByMoves first last × AreHeadsRising last × ((t : Thread) → Told t → In t last.heads)

  module _ {D H : Type 0} {g : _} {k : _} (view : D → DiskView) where
    -- where the disk reads as a list, with writes pending or not, the follower keeps that one; a crash since leaves nothing else than before
    pub record IsFollowerOpened (disk : D) (f : Follower D H g k) : Type 0 where
      pub follows : (image : Image) (kept : Kept) → (view disk).content ≡ Some image → StandsFor dig image kept → Follows dig view f kept
      pub any_moment : LeavesOnly (view disk) (view (disk_of f)) (view disk).may_leave

    abbrev pub Does : Act → (old new : Follower D H g k) → Type 0
    Does (Offered bytes result) old new = Offers dig view bytes old new result
    Does (ToldHeads result) old new = TellsHeads dig view old new result

    abbrev pub followers : Values D (Follower D H g k) Act
    followers = record { disk_of = disk_of; has_failed = has_failed; IsOpenedAs = IsFollowerOpened; Does = Does }

    abbrev pub IsToldByFollowers : D → List (Happening D (Follower D H g k) Act) → Thread → Type 0
    IsToldByFollowers disk run t = IsPublished {V = Follower D H g k} ShowsNone TellsHead (Closed disk) run t
