-- What holds at each state of a run: each image that the disk reads as, or may be left, goes on from one state, of
-- which all holds that was told.
use Rattle.std.proofs.Common.{◌≡◌, ◌⊎◌, ℕ, List, [], ◌∷◌, refl, sym, ◌∙◌, subst, arith, inl, inr, ⊎_elim, Bool, true}
use Rattle.std.proofs.Common.{false}
use Rattle.tw_disk.specs.Disk.{DiskView, IsAtRest, IsSameDisk}
use Rattle.tw_disk.specs.Image.{Image}
use Rattle.tw_pages.specs.Disks.{OneOf}
use Rattle.tw_pages.specs.Runs.{Acted, Event, GoesOnFrom, Happening, HoldsOnly, IsPublished, IsRunFrom, IsShown}
use Rattle.tw_pages.specs.Runs.{IsToldBy, Laws, LeadsByEvent, State, Values, Wavers, disk_at, end_of}
use Rattle.tw_pages.specs.Runs.Event.{Acts, Closes, Crashes, CrashesIn, Opens, StaysClosed}
use Rattle.tw_pages.specs.Runs.State.{Closed, Open}

module _ {D V A S T : Type 0} (view : D → DiskView) (values : Values D V A) (IsOf : S → Image → Type 0)
    (GoesOn : S → S → Type 0) (Serves : V → S → Type 0)
    (Holds : S → T → Type 0) (Shows : V → T → Type 0) (Tells : A → T → Type 0)
    (laws : Laws view values IsOf GoesOn Serves Holds Shows Tells)
    (only_now : (d : D) (c : Image) → (view d).left_since (view d).moment c → (view d).may_leave c) where
  one_of : (s next : S) (c : Image) → GoesOn s next → OneOf IsOf s next c → GoesOnFrom IsOf GoesOn view s c
  one_of s next c goes one = ⊎_elim (λ was. (s, was, laws.same s)) (λ is. (next, is, goes)) one

  rests : (disk : D) (s : S) → IsAtRest (view disk) (IsOf s) → Wavers IsOf GoesOn view disk s
  rests disk s rest = (
    record { image = rest.image; told = rest.told; has = (s, rest.has, laws.same s) },
    λ c left. (s, subst (λ (i : Image). IsOf s i) (sym (rest.only c left)) rest.has, laws.same s),
  )

  pub holds : (disk : D) (P : Image → Type 0) (s : S) → ((c : Image) → P c → GoesOnFrom IsOf GoesOn view s c)
      → HoldsOnly view P disk → Wavers IsOf GoesOn view disk s
  holds disk P s goes is =
      (record { image = is.0.image; told = is.0.told; has = goes is.0.image is.0.has }, λ c left. goes c (is.1 c left))

  -- an open value serves the state, where no call met a disk fault; and what it shows holds
  pub record IsOpenAt (v : V) (s : S) : Type 0 where
    disk : Wavers IsOf GoesOn view (values.disk_of v) s
    serves : values.has_failed v ≡ false → Serves v s
    shows : (t : T) → Shows v t → Holds s t

  abbrev pub IsAt : State D V → S → Type 0
  IsAt (Closed disk) s = Wavers IsOf GoesOn view disk s
  IsAt (Open v) s = IsOpenAt v s

  pub wavers_at : (at : State D V) (s : S) → IsAt at s → Wavers IsOf GoesOn view (disk_at view values at) s
  wavers_at (Closed disk) s is = is
  wavers_at (Open v) s is = is.disk

  pub opened_at : (v : V) (s : S) → Serves v s → IsOpenAt v s
  opened_at v s served =
      record {
        disk = rests (values.disk_of v) s (laws.rests v s served);
        serves = λ whole. served;
        shows = λ t shown. laws.shows v s t served shown;
      }

  -- what an event leads to
  record Goes (event : Event A) (behind : State D V) (s : S) : Type 0 where
    now : S
    goes_on : GoesOn s now
    is : IsAt behind now
    tells : (t : T) → IsToldBy Tells event t → Holds now t

  wavering : (event : Event A) (behind : State D V) (s : S) → IsAt behind s → ((t : T) → IsToldBy Tells event t → ⊥)
      → Goes event behind s
  wavering event behind s is none =
      record { now = s; goes_on = laws.same s; is = is; tells = λ t told. absurd (none t told) }

  module _ (a : A) (old new : V) (s : S) (is : IsOpenAt old s) (does : values.Does a old new) where
    -- an earlier call met a disk fault
    stays_broken : values.has_failed old ≡ true → Goes (Acts a) (Open new) s
    stays_broken failed =
        let still = laws.stays a old new does failed in
        record {
          now = s;
          goes_on = laws.same s;
          is = record {
            disk = (
              record { image = is.disk.0.image; told = still.1.content ∙ is.disk.0.told; has = is.disk.0.has },
              λ c left. is.disk.1 c ((still.1.images c).0 left),
            );
            serves = λ whole. absurd (let no : true ≡ false = sym still.0 ∙ whole in cc);
            shows = λ t shown. is.shows t (still.3 t shown);
          };
          tells = λ t told. absurd (still.2 t told);
        }

    -- none did
    on : values.has_failed old ≡ false → Goes (Acts a) (Open new) s
    on whole =
        let act = laws.acts a old new s does whole (is.serves whole) in
        let own : (c : Image) → OneOf IsOf s act.next c → GoesOnFrom IsOf GoesOn view s c = λ c one. one_of s act.next c
        act.goes one in
        ⊎_elim
        (λ done. record { now = act.next; goes_on = act.goes; is = opened_at new act.next done.0; tells = done.1 })
        (λ rest. ⊎_elim
        (λ refused. record { now = s; goes_on = laws.same s; is = opened_at new s refused.0; tells = refused.1 })
        (λ failed. record {
          now = s;
          goes_on = laws.same s;
          is = record {
            disk = (
              record { image = act.told.image; told = act.told.told; has = own act.told.image act.told.has },
              λ c left. own c (act.any_moment.now c left),
            );
            serves = λ whole. absurd (let no : true ≡ false = sym failed.0 ∙ whole in cc);
            shows = λ t shown. is.shows t (failed.2 t shown);
          };
          tells = λ t told. absurd (failed.1 t told);
        }) rest) act.done

    acted : (b : Bool) → values.has_failed old ≡ b → Goes (Acts a) (Open new) s
    acted true failed = stays_broken failed
    acted false whole = on whole

    -- what a crash in the midst of it leaves
    images_of : (b : Bool) → values.has_failed old ≡ b → (c : Image) → (view (values.disk_of new)).left_since
        (view (values.disk_of old)).moment c → GoesOnFrom IsOf GoesOn view s c
    images_of true failed c left =
        let same = (laws.stays a old new does failed).1 in
        is.disk.1 c
        (only_now (values.disk_of old) c ((same.images_since (view (values.disk_of old)).moment c (omega arith)).0
        left))
    images_of false whole c left =
        let act = laws.acts a old new s does whole (is.serves whole) in
        one_of s act.next c act.goes (act.any_moment.each c left)

  opens_at : (disk : D) (v : V) (s : S) → Wavers IsOf GoesOn view disk s → values.IsOpenedAs disk v
      → Goes Opens (Open v) s
  opens_at disk v s is opened =
      let read = is.0 in
      record {
        now = read.has.0;
        goes_on = read.has.2;
        is = opened_at v read.has.0 (laws.opens disk v read.image read.has.0 opened read.told read.has.1);
        tells = λ t told. absurd told;
      }

  goes : (event : Event A) (at behind : State D V) (s : S) → IsAt at s → LeadsByEvent view values event at behind
      → Goes event behind s
  goes Opens (Closed disk) (Open v) s is leads = opens_at disk v s is leads
  goes StaysClosed (Closed disk) (Closed left) s is leads = wavering StaysClosed (Closed left) s
      (record { image = is.0.image; told = leads.0 ∙ is.0.told; has = is.0.has }, (λ c may. is.1 c (leads.1.now c may)))
      (λ t told. told)
  goes (Acts a) (Open old) (Open new) s is leads = acted a old new s is leads (values.has_failed old) refl
  goes Closes (Open v) (Closed disk) s is leads = wavering Closes (Closed disk) s
      (subst (λ (d : D). Wavers IsOf GoesOn view d s) (sym leads) is.disk) (λ t told. told)
  goes Crashes at (Closed disk) s is leads = wavering Crashes (Closed disk) s
      (holds disk _ s (λ c left. (wavers_at at s is).1 c left) leads) (λ t told. told)
  goes (CrashesIn a) (Open old) (Closed disk) s is leads =
      wavering (CrashesIn a) (Closed disk) s
      (holds disk _ s (images_of a old leads.0 s is leads.1 (values.has_failed old) refl) leads.2) (λ t told. told)
  goes _ _ _ s is leads = absurd leads

  -- ---- a run

  pub record Ends (start : State D V) (run : List (Happening D V A)) (s : S) : Type 0 where
    pub now : S
    pub goes_on : GoesOn s now
    pub is : IsAt (end_of start run) now
    pub tells : (t : T) → IsPublished Shows Tells start run t → Holds now t

  shown : (at : State D V) (s : S) → IsAt at s → (t : T) → IsShown Shows at t → Holds s t
  shown (Closed disk) s is t told = absurd told
  shown (Open v) s is t told = is.shows t told

  pub ends : (start : State D V) (run : List (Happening D V A)) (s : S) → IsAt start s → IsRunFrom view values start run
      → Ends start run s
  ends start [] s is leads = record { now = s; goes_on = laws.same s; is = is; tells = shown start s is }
  ends start (x ∷ run) s is leads =
      let first = goes x.event start x.behind s is leads.0 in
      let rest = ends x.behind run first.now first.is leads.1 in
      record {
        now = rest.now;
        goes_on = laws.on s first.now rest.now first.goes_on rest.goes_on;
        is = rest.is;
        tells = λ t told. ⊎_elim (λ head. laws.keeps s rest.now t (laws.on s first.now rest.now first.goes_on
            rest.goes_on) (shown start s is t head))
            (λ more. ⊎_elim (λ by. laws.keeps first.now rest.now t rest.goes_on (first.tells t by))
            (λ later. rest.tells t later) more) told;
      }
