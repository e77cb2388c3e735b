-- What a disk reads as, what it stands for, and what a run leaves of it, for whatever its images may stand for.
use Rattle.std.specs.Prelude.{◌≡◌, ◌⊎◌, ℕ, List, Option, Some}
use Rattle.tw_disk.specs.Disk.{DiskView, LeavesOnly, Only, Reads}
use Rattle.tw_disk.specs.Image.{Image}
use Rattle.tw_pages.specs.Slots.{IsBlank, IsTaken}
use Rattle.tw_pages.specs.declared.open.StoreFault.{StoreFault}

module _ {D : Type 0} (view : D → DiskView) where
  -- it reads as before, and a crash leaves nothing else than before
  abbrev pub IsLeft : (old new : D) → Type 0
  IsLeft old new = ((view new).content ≡ (view old).content) × LeavesOnly (view old) (view new) (view old).may_leave

  -- a store that is there, of whatever kind, is left so, with writes pending or not
  abbrev pub SparesStore : (old new : D) → Type 0
  SparesStore old new = (image : Image) → (view old).content ≡ Some image → IsTaken image → IsLeft old new

  -- what isn't opened is left so, for whatever reason, with writes pending or not
  abbrev pub SparesOther : (IsNotOpenedFor : Image → StoreFault → Type 0) → (old new : D) → Type 0
  SparesOther IsNotOpenedFor old new = (image : Image) (why : StoreFault) → (view old).content ≡ Some image → IsNotOpenedFor image why → IsLeft old new

-- the image stands for the one or for the other
abbrev pub OneOf : {S : Type 0} → (IsOf : S → Image → Type 0) → (s next : S) → Image → Type 0
OneOf IsOf s next image = IsOf s image ⊎ IsOf next image

module _ {S : Type 0} (IsOf : S → Image → Type 0) where
  -- what the disk reads as is told, and stands for the state
  pub record ReadsAsState (found : Option Image) (s : S) : Type 0 where
    pub image : Image
    pub told : found ≡ Some image
    pub stands : IsOf s image

  module _ {D : Type 0} (view : D → DiskView) where
    -- the disk stands for the state for good: its content is told, and each image that a crash now may leave, of which the content is
    -- one, stands for it
    pub record StandsAtState (disk : D) (s : S) : Type 0 where
      pub image : Image
      pub told : (view disk).content ≡ Some image
      pub each : (i : Image) → (view disk).may_leave i → IsOf s i

    -- the same, and a crash now leaves nothing but the content
    pub record RestsAtState (disk : D) (s : S) : Type 0 where
      pub stands : StandsAtState disk s
      pub only : Only stands.image (view disk).may_leave

    -- the state that the disk stood for stands in each image that a crash since the start may leave, and now for good, at rest where it
    -- was at rest
    abbrev pub KeepsState : (old new : D) → Type 0
    KeepsState old new = (s : S) → (StandsAtState old s → LeavesOnly (view old) (view new) (IsOf s) × StandsAtState new s) × (RestsAtState old s → RestsAtState new s)

    -- the disk has become stable: it stands for the state that it read as, at rest
    abbrev pub Settles : (old new : D) → Type 0
    Settles old new = (s : S) → ReadsAsState (view old).content s → RestsAtState new s

    -- each image since is one that a crash might have left before, or stands for this state or for the next one
    abbrev pub LeavesOldOrOneOf : (old new : D) → (s next : S) → Type 0
    LeavesOldOrOneOf old new s next = LeavesOnly (view old) (view new) (λ i. (view old).may_leave i ⊎ OneOf IsOf s next i)

    -- the content is told, and stands for this state or for the next one
    abbrev pub ReadsAsOneOf : (disk : D) → (s next : S) → Type 0
    ReadsAsOneOf disk s next = Reads (view disk) (OneOf IsOf s next)

    -- each image since is one that a crash might have left before, or stands for one of the two; and where the disk stood for this state
    -- for good, each stands for one of the two
    abbrev pub LeavesOneOf : (old new : D) → (s next : S) → Type 0
    LeavesOneOf old new s next = LeavesOldOrOneOf old new s next × (StandsAtState old s → LeavesOnly (view old) (view new) (OneOf IsOf s next))

    -- of a state that the disk read as, with writes pending or not, there is a next one, and this holds of both
    abbrev pub OfNext : (Next : S → S → Type 0) → (old : D) → (P : (s next : S) → Type 0) → Type 0
    OfNext Next old P = (s : S) → ReadsAsState (view old).content s → (next : S) × Next s next × P s next

    -- it is kept or the next one comes: the content is told still and stands for one of the two, and so do the images
    abbrev pub KeepsOrAdds : (Next : S → S → Type 0) → (old new : D) → Type 0
    KeepsOrAdds Next old new = OfNext Next old (λ s next. ReadsAsOneOf new s next × LeavesOneOf old new s next)

    -- the next one comes: the disk now stands for it, at rest
    abbrev pub Adds : (Next : S → S → Type 0) → (old new : D) → Type 0
    Adds Next old new = OfNext Next old (λ s next. RestsAtState new next × LeavesOneOf old new s next)

    -- Of a state that the disk read as, each image since is one that a crash might have left before, and the content is told still and
    -- stands for it; or there is something of which this holds, as a file has events or a message, and each image stands for the state
    -- or for a next one, by that, or is one that might have been left before, and the content stands for one of the two. Of a state that
    -- the disk stood for for good, each image stands for it, or for one of the two.
    abbrev pub AddsSafe : {X : Type 0} → (Has : X → Type 0) → (Next : X → S → S → Type 0) → (old new : D) → Type 0
    AddsSafe {X} Has Next old new = (s : S) →
        (ReadsAsState (view old).content s → (LeavesOnly (view old) (view new) (view old).may_leave × ReadsAsState (view new).content s)
        ⊎ ((x : X) × Has x × (next : S) × Next x s next × LeavesOldOrOneOf old new s next × ReadsAsOneOf new s next))
        × (StandsAtState old s → LeavesOnly (view old) (view new) (IsOf s)
        ⊎ ((x : X) × Has x × (next : S) × Next x s next × LeavesOnly (view old) (view new) (OneOf IsOf s next)))

    -- an image that a crash might have left before, or a blank one, or one that stands for this first state
    abbrev pub IsOldOrBegun : (first : S) → (old : D) → Image → Type 0
    IsOldOrBegun first old image = (view old).may_leave image ⊎ (IsBlank image ⊎ IsOf first image)

    -- where the content is told, each image since is such a one, and the content is told still and is one
    abbrev pub MayBegin : (first : S) → (old new : D) → Type 0
    MayBegin first old new =
        (image : Image) → (view old).content ≡ Some image → LeavesOnly (view old) (view new) (IsOldOrBegun first old) × Reads (view new) (IsOldOrBegun first old)

    -- the same, and now it stands for that state, at rest
    abbrev pub BeginsState : (first : S) → (old new : D) → Type 0
    BeginsState first old new = MayBegin first old new × ((image : Image) → (view old).content ≡ Some image → RestsAtState new first)
