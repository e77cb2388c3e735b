-- What comes to a disk and to the values over it, one after the other.
use Rattle.std.specs.Prelude.{◌≡◌, ◌⊎◌, ℕ, List, [], ◌∷◌, Bool, true, false, Some}
use Rattle.tw_disk.specs.Disk.{DiskView, IsAtRest, IsSameDisk, LeavesOnly, Reads}
use Rattle.tw_disk.specs.Image.{Image}
use Rattle.tw_pages.specs.Disks.{IsLeft, OneOf}

-- what there is: the disk alone, or a value over it
pub data State (D V : Type 0) : Type 0 where
  Closed : D → State D V
  Open : V → State D V

-- what comes: opening the disk is answered by a value, or by a fault; a call is made, with its answer; the value is given up; or the
-- program or its machine stops, between two calls or in the midst of one, which would have been answered so
pub data Event (A : Type 0) : Type 0 where
  Opens : Event A
  StaysClosed : Event A
  Acts : A → Event A
  Closes : Event A
  Crashes : Event A
  CrashesIn : A → Event A

-- an event, and what there is behind it
pub record Happening (D V A : Type 0) : Type 0 where
  pub event : Event A
  pub behind : State D V

-- values over disks, and their calls with their answers
pub record Values (D V A : Type 0) : Type 1 where
  pub disk_of : V → D
  pub has_failed : V → Bool
  pub IsOpenedAs : D → V → Type 0
  pub Does : A → (old new : V) → Type 0

module _ {D : Type 0} (view : D → DiskView) where
  -- the disk reads as one of these images, and a crash may leave no others
  abbrev pub HoldsOnly : (P : Image → Type 0) → D → Type 0
  HoldsOnly P disk = Reads (view disk) P × ((image : Image) → (view disk).may_leave image → P image)

module _ {D V A : Type 0} (view : D → DiskView) (values : Values D V A) where
  abbrev pub disk_at : State D V → D
  disk_at (Closed disk) = disk
  disk_at (Open value) = values.disk_of value

  -- The event leads from one state to another. After a crash the disk holds images of that moment alone, or, in the midst of a call, of some
  -- moments since its start: one, all of it stable, where power was lost, or with writes pending, where the program was killed.
  abbrev pub LeadsByEvent : Event A → (old new : State D V) → Type 0
  LeadsByEvent Opens (Closed disk) (Open value) = values.IsOpenedAs disk value
  LeadsByEvent StaysClosed (Closed disk) (Closed left) = IsLeft view disk left
  LeadsByEvent (Acts a) (Open old) (Open new) = values.Does a old new
  LeadsByEvent Closes (Open value) (Closed disk) = disk ≡ values.disk_of value
  LeadsByEvent Crashes old (Closed disk) = HoldsOnly view (view (disk_at old)).may_leave disk
  LeadsByEvent (CrashesIn a) (Open old) (Closed disk) =
      (new : V) × values.Does a old new × HoldsOnly view ((view (values.disk_of new)).left_since (view (values.disk_of old)).moment) disk
  LeadsByEvent _ _ _ = ⊥

  abbrev pub IsRunFrom : (start : State D V) → List (Happening D V A) → Type 0
  IsRunFrom start [] = Unit {0}
  IsRunFrom start (x ∷ run) = LeadsByEvent x.event start x.behind × IsRunFrom x.behind run

-- what there is at the end of a run
abbrev pub end_of : {D V A : Type 0} → (start : State D V) → List (Happening D V A) → State D V
end_of start [] = start
end_of start (x ∷ run) = end_of x.behind run

-- what a value shows at any time, or a call's answer tells, of whatever sort of things
abbrev pub IsShown : {D V T : Type 0} → (Shows : V → T → Type 0) → State D V → T → Type 0
IsShown Shows (Closed disk) t = ⊥
IsShown Shows (Open value) t = Shows value t

abbrev pub IsToldBy : {A T : Type 0} → (Tells : A → T → Type 0) → Event A → T → Type 0
IsToldBy Tells (Acts a) t = Tells a t
IsToldBy Tells _ t = ⊥

abbrev pub IsPublished : {D V A T : Type 0} → (Shows : V → T → Type 0) (Tells : A → T → Type 0) → (start : State D V) → List (Happening D V A) → T → Type 0
IsPublished Shows Tells start [] t = IsShown Shows start t
IsPublished Shows Tells start (x ∷ run) t = IsShown Shows start t ⊎ (IsToldBy Tells x.event t ⊎ IsPublished Shows Tells x.behind run t)

-- Of states, which go on from one another, the disk may hold several, since a crash decides between two.
module _ {D S : Type 0} (IsOf : S → Image → Type 0) (GoesOn : S → S → Type 0) (view : D → DiskView) where
  abbrev pub GoesOnFrom : S → Image → Type 0
  GoesOnFrom s image = (now : S) × IsOf now image × GoesOn s now

  abbrev pub Wavers : D → S → Type 0
  Wavers disk s = HoldsOnly view (GoesOnFrom s) disk

module _ {D V A S T : Type 0} (view : D → DiskView) (values : Values D V A) (IsOf : S → Image → Type 0) (GoesOn : S → S → Type 0) (Serves : V → S → Type 0)
    (Holds : S → T → Type 0) (Shows : V → T → Type 0) (Tells : A → T → Type 0) where
  -- What a call of a value that serves a state makes of it. There is a next state; each image that a crash since may leave stands for one
  -- of the two, and so does the content, which is told still. Then one of them is served, and what was told holds of it; or a disk fault
  -- came, and nothing was told.
  pub record Acted (a : A) (old new : V) (s : S) : Type 0 where
    pub next : S
    pub goes : GoesOn s next
    pub any_moment : LeavesOnly (view (values.disk_of old)) (view (values.disk_of new)) (OneOf IsOf s next)
    pub told : Reads (view (values.disk_of new)) (OneOf IsOf s next)
    pub done : (Serves new next × ((t : T) → Tells a t → Holds next t))
        ⊎ ((Serves new s × ((t : T) → Tells a t → Holds s t))
        ⊎ ((values.has_failed new ≡ true) × ((t : T) → Tells a t → ⊥) × ((t : T) → Shows new t → Shows old t)))

  -- what is to be shown of values, so that all runs keep what was told
  pub record Laws : Type 0 where
    pub same : (s : S) → GoesOn s s
    pub on : (a b c : S) → GoesOn a b → GoesOn b c → GoesOn a c
    pub keeps : (s next : S) (t : T) → GoesOn s next → Holds s t → Holds next t
    pub rests : (v : V) (s : S) → Serves v s → IsAtRest (view (values.disk_of v)) (IsOf s)
    pub shows : (v : V) (s : S) (t : T) → Serves v s → Shows v t → Holds s t
    pub opens : (disk : D) (v : V) (image : Image) (s : S) → values.IsOpenedAs disk v → (view disk).content ≡ Some image → IsOf s image → Serves v s
    pub acts : (a : A) (old new : V) (s : S) → values.Does a old new → values.has_failed old ≡ false → Serves old s → Acted a old new s
    -- after a disk fault a call does nothing but say so
    pub stays : (a : A) (old new : V) → values.Does a old new → values.has_failed old ≡ true
        → (values.has_failed new ≡ true) × IsSameDisk (view (values.disk_of old)) (view (values.disk_of new)) × ((t : T) → Tells a t → ⊥) × ((t : T) → Shows new t → Shows old t)
