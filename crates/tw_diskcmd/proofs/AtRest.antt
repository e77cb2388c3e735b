-- Disks that stand for a history, and what a service's call makes of one.
use Rattle.std.proofs.Common.{◌≡◌, ◌⊎◌, ℕ, List, refl, sym, subst, inl, inr, ⊎_elim}
use Rattle.std.specs.Prelude.{Option, Some, Ok, Err}
use Rattle.sha2.specs.Sha256.{sha256}
use Rattle.tw_base.specs.history.History.{History}
use Rattle.tw_disk.specs.Disk.{DiskView, IsAtRest, LeavesOnly}
use Rattle.tw_disk.specs.Image.{Image}
use Rattle.tw_disk.proofs.Moments.{leaves_weaker}
use Rattle.tw_pages.specs.Disks.{OneOf}
use Rattle.tw_pages.proofs.AtRest.{own_rest as own_rest_as}
use Rattle.tw_answers.specs.Roots.{root_kind}
use Rattle.tw_base.specs.declared.history.refusal.Refusal.{Refusal}
use Rattle.tw_base.specs.declared.history.refusal.Refusal.TheVariants as service
use Rattle.tw_pages.specs.Slots.{IsTaken}
use Rattle.tw_service.specs.Adding.{CallSteps}
use Rattle.tw_service.specs.Machine.{Call, Reply}
use Rattle.tw_service.specs.Serves.{HasSameDisk, Serves, disk_of, name_of, record_of}
use Rattle.tw_service.specs.Stands.{IsImageOfHistory, StandsFor, StandsForOneOf}
use Rattle.tw_service.specs.declared.service.Service.{Service}
use Rattle.tw_service.proofs.Serving.{rest_for_good}
use Rattle.tw_diskcmd.specs.Steps.{AddsFrom}
use Rattle.tw_diskcmd.specs.Leaves.{WritesNothing}
use Rattle.tw_diskcmd.proofs.StoreAtRest.{opens_taken, same_left}
use Rattle.tw_diskcmd.proofs.StoreAtRest.{left_keeps as keeps_both}
use Rattle.tw_diskcmd.proofs.StoreSteps.{nothing_written, refused_adds}
use Rattle.tw_text.specs.declared.fault.CommandFault.{CommandFault}
use Rattle.tw_diskcmd.specs.Disks.{IsLeft, KeepsServiceDisk, NextBy, ReadsAsHistory}
use Rattle.tw_diskcmd.specs.Disks.{RestsAtHistory, StepsBy}
use Rattle.tw_diskcmd.specs.Faults.{fault_of_service}

-- a history that an image stands for has its own name
pub own_name : (name : List ℕ) (h : History) (image : Image) → StandsFor sha256 image name h → IsImageOfHistory sha256 h image
own_name name h image stands = subst (λ (n : List ℕ). StandsFor sha256 image n h) (sym stands.named) stands

own_names : (name : List ℕ) (h next : History) (image : Image) → StandsForOneOf sha256 name h next image
    → OneOf (IsImageOfHistory sha256) h next image
own_names name h next image each = ⊎_elim (λ is. inl (own_name name h image is))
    (λ is. inr (own_name name next image is)) each

-- of the history that the content reads as, what is so of one that its image stands for
pub served_as : {content : Option Image} (Serves : History → Type 0) → ((image : Image) (name : List ℕ) (h : History)
    → content ≡ Some image → StandsFor sha256 image name h → Serves h) → (h : History) → ReadsAsHistory content h → Serves h
served_as Serves served h reads = served reads.image h.name h reads.told reads.stands

-- an image that stands for a history has a store
pub stands_taken : (h : History) (image : Image) → IsImageOfHistory sha256 h image → IsTaken image
stands_taken h image is = opens_taken root_kind is.stands.w image is.stands.is

pub left_keeps : {D : Type 0} (view : D → DiskView) (old new : D) → IsLeft view old new → KeepsServiceDisk view old new
left_keeps view old new left = keeps_both root_kind (IsImageOfHistory sha256) view old new left

-- a disk at rest that stands for a history under some name
pub own_rest : {D : Type 0} (view : D → DiskView) (d : D) (name : List ℕ) (h : History)
    → IsAtRest (view d) (λ i. StandsFor sha256 i name h) → RestsAtHistory view d h
own_rest view d name h rest =
    own_rest_as (IsImageOfHistory sha256) view d h
    (record { image = rest.image; told = rest.told; only = rest.only; has = own_name name h rest.image rest.has })

module _ {D H : Type 0} {g : _} {k : _} (view : D → DiskView) where
  rests : (only_now : (d : D) (image : Image) → (view d).left_since (view d).moment image → (view d).may_leave image)
      (new : Service D H g k) (s : History) → Serves sha256 view new s → RestsAtHistory view (disk_of new) s
  rests only_now new s served = own_rest view (disk_of new) (name_of new) s
      (rest_for_good view only_now sha256 new.recorded.kept.store (record_of new) s served)

  any_moment : (old new : Service D H g k) (h next : History) → LeavesOnly (view (disk_of old)) (view (disk_of new))
      (StandsForOneOf sha256 (name_of old) h next)
      → LeavesOnly (view (disk_of old)) (view (disk_of new)) (OneOf (IsImageOfHistory sha256) h next)
  any_moment old new h next left =
      leaves_weaker (view (disk_of old)) (view (disk_of new)) (StandsForOneOf sha256 (name_of old) h next)
      (OneOf (IsImageOfHistory sha256) h next) (own_names (name_of old) h next) left

module _ {D H X : Type 0} {g : _} {k : _} {view : D → DiskView} (only_now : (d : D) (image : Image)
    → (view d).left_since (view d).moment image → (view d).may_leave image)
    {call : Call} {reply : X → Reply} {old new : Service D H g k} {disk : D} where
  -- an answer, and a refusal, on the disk that the service gives back
  pub answered_steps : {x : X} {h : History} → CallSteps sha256 view call reply old new (Ok x) h → disk ≡ disk_of new
      → AddsFrom (IsImageOfHistory sha256) view (disk_of old) disk (NextBy call) (λ x. StepsBy call (reply x)) h (Ok x)
  answered_steps {x = x} {h = h} made closed =
      subst (λ d. AddsFrom (IsImageOfHistory sha256) view (disk_of old) d (NextBy call) (λ x. StepsBy call (reply x)) h (Ok x))
      (sym closed) (
        made.next,
        (made.is_next, made.done.0),
        rests view only_now new made.next made.done.1,
        any_moment view old new h made.next made.any_moment,
      )

  pub refused_steps : {r : Refusal} {came : CommandFault} {h : History} → came ≡ fault_of_service r
      → CallSteps sha256 view call reply old new (Err r) h → disk ≡ disk_of new
      → AddsFrom (IsImageOfHistory sha256) view (disk_of old) disk (NextBy call) (λ x. StepsBy call (reply x)) h (Err came)
  refused_steps {r = r} {came = came} {h = h} is made closed =
      subst (λ d. AddsFrom (IsImageOfHistory sha256) view (disk_of old) d (NextBy call) (λ x. StepsBy call (reply x)) h (Err came))
      (sym closed)
      (refused_adds (IsImageOfHistory sha256) view (NextBy call) (λ x. StepsBy call (reply x)) service.DiskFault fault_of_service
      refl (disk_of old) (disk_of new) h made.next made.is_next
      (any_moment view old new h made.next made.any_moment)
      (record {
        image = made.told.image;
        told = made.told.told;
        has = own_names (name_of old) h made.next made.told.image made.told.has;
      }) r came is
      (⊎_elim (λ fault. inl fault) (λ kept. inr (rests view only_now new h kept.0)) made.refused))

-- a refusal after which nothing was written, on the disk that the service gives back
pub refused_unwritten : {D H : Type 0} {g : _} {k : _} (X : Type 0) (view : D → DiskView) (only_now : (d : D)
    (image : Image) → (view d).left_since (view d).moment image → (view d).may_leave image)
    (old new : Service D H g k) (disk : D) (r : Refusal) (came : CommandFault) → came ≡ fault_of_service r
    → (r ≡ service.DiskFault) ⊎ HasSameDisk view old new → disk ≡ disk_of new → WritesNothing {X = X} (Err came)
    → IsLeft view (disk_of old) disk
refused_unwritten X view only_now old new disk r came is unwritten closed nothing =
    subst (λ d. IsLeft view (disk_of old) d) (sym closed) (same_left view only_now old.recorded.kept.store
    new.recorded.kept.store (nothing_written X service.DiskFault fault_of_service refl r came is
    (HasSameDisk view old new) unwritten nothing))
