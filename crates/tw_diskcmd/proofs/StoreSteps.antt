-- What a call that may add to a store makes of its disk, from the call to the command.
use Rattle.std.proofs.Common.{◌≡◌, ◌∙◌, refl, ap, sym, subst, inl, inr, ◌⊎◌, ⊎_elim}
use Rattle.std.specs.Prelude.{◌≢◌, Result, Ok, Err}
use Rattle.tw_disk.specs.Disk.{DiskView, LeavesOnly, Reads}
use Rattle.tw_disk.specs.Image.{Image}
use Rattle.tw_pages.specs.Commits.{Commits}
use Rattle.tw_pages.specs.Disks.{Adds, LeavesOneOf, OneOf, ReadsAsState, RestsAtState}
use Rattle.tw_pages.specs.Records.{IsWritten, RecordKind, Written, written_record}
use Rattle.tw_pages.specs.Rests.{RestsWith}
use Rattle.tw_pages.proofs.AtRest.{both_of, joined, old_or_one, one_or_old, own_rest}
use Rattle.tw_pages.proofs.Written.{rest_for_good}
use Rattle.tw_pages.specs.StoreValue.{store_disk}
use Rattle.tw_pages.specs.declared.open.StoreFault.{StoreFault}
use Rattle.tw_pages.specs.declared.open.StoreFault.TheVariants as store
use Rattle.tw_pages.specs.declared.store.Store.{Store}
use Rattle.tw_text.specs.declared.fault.CommandFault.{CommandFault}
use Rattle.tw_text.specs.declared.fault.CommandFault.TheVariants.{DiskFault, Taken, Refused, NotFollowed}
use Rattle.tw_diskcmd.specs.StoreFaults.{fault_of_store}
use Rattle.tw_diskcmd.specs.Leaves.{StaysOr, WritesNothing}
use Rattle.tw_diskcmd.specs.Steps.{AddsFrom, AddsTo}

module _ {D S : Type 0} (IsOf : S → Image → Type 0) (view : D → DiskView) where
  -- what is next by one relation is so by a wider one
  pub adds_weaker : (Next Wider : S → S → Type 0) → ((s next : S) → Next s next → Wider s next) → (old new : D)
      → Adds IsOf view Next old new → Adds IsOf view Wider old new
  adds_weaker Next Wider widen old new adds = λ s reads. let it = adds s reads in (it.0, widen s it.0 it.1, it.2)

  since : (disk mid new : D) (s next : S) → LeavesOnly (view disk) (view mid) (view disk).may_leave
      → LeavesOnly (view mid) (view new) (OneOf IsOf s next) → LeavesOneOf IsOf view disk new s next
  since disk mid new s next run left = both_of IsOf view disk new s next (joined IsOf view disk mid new s next run
      (one_or_old IsOf view mid new s next left))

  module _ {X : Type 0} (Next : S → S → Type 0) (Answers : X → S → S → Type 0) where
    -- a refusal, by what the call told of the disk
    pub refused_adds : {E : Type 0} (disk_fault : E) (fault_of : E → CommandFault) → fault_of disk_fault ≡ DiskFault
        → (old new : D) (s next : S) → Next s next
        → LeavesOnly (view old) (view new) (OneOf IsOf s next) → Reads (view new) (OneOf IsOf s next)
        → (e : E) (came : CommandFault) → came ≡ fault_of e → (e ≡ disk_fault) ⊎ RestsAtState IsOf view new s
        → AddsFrom IsOf view old new Next Answers s (Err came)
    refused_adds disk_fault fault_of told_so old new s next is_next any_moment told e came is which = by came is
      where
        rests_by : (f : CommandFault) → f ≡ fault_of e → f ≢ DiskFault → RestsAtState IsOf view new s
        rests_by f is other =
            ⊎_elim (λ same. absurd (other (is ∙ ap fault_of same ∙ told_so))) (λ rests. rests) which

        by : (f : CommandFault) → f ≡ fault_of e → AddsFrom IsOf view old new Next Answers s (Err f)
        by DiskFault is = (next, is_next, told, any_moment)
        by Taken is = rests_by Taken is (λ e. cc)
        by (Refused refusal) is = rests_by (Refused refusal) is (λ e. cc)
        by (NotFollowed refusal) is = rests_by (NotFollowed refusal) is (λ e. cc)
        by _ is = tt

    -- from the disk that was opened to the one that was handed in
    pub adds_on : (disk mid new : D) (came : Result X CommandFault) → LeavesOnly (view disk) (view mid)
        (view disk).may_leave
        → ((s : S) → ReadsAsState IsOf (view disk).content s → AddsFrom IsOf view mid new Next Answers s came)
        → AddsTo IsOf view disk new Next Answers came
    adds_on disk mid new (Ok x) run from = λ s reads. let it = from s reads in
        (it.0, it.1, (it.2, since disk mid new s it.0 run it.3))
    adds_on disk mid new (Err DiskFault) run from = λ s reads. let it = from s reads in
        (it.0, it.1, (it.2, since disk mid new s it.0 run it.3))
    adds_on disk mid new (Err Taken) run from = λ s reads. from s reads
    adds_on disk mid new (Err (Refused refusal)) run from = λ s reads. from s reads
    adds_on disk mid new (Err (NotFollowed refusal)) run from = λ s reads. from s reads
    adds_on disk mid new _ run from = tt

    -- a disk that wasn't opened
    pub unopened_adds : ((s : S) → (next : S) × Next s next) → (disk new : D) (f : StoreFault) (came : CommandFault)
        → came ≡ fault_of_store f → (f ≢ store.Taken) × (f ≢ store.NoMemory)
        → (view new).content ≡ (view disk).content → LeavesOnly (view disk) (view new) (view disk).may_leave
        → AddsTo IsOf view disk new Next Answers (Err came)
    unopened_adds some disk new f came is never same run =
        subst (λ (c : CommandFault). AddsTo IsOf view disk new Next Answers (Err c)) (sym is) (by f never)
      where
        by : (f : StoreFault) → (f ≢ store.Taken) × (f ≢ store.NoMemory) → AddsTo IsOf view disk new Next Answers
            (Err (fault_of_store f))
        by store.Taken never = absurd (never.0 refl)
        by store.Blank never = tt
        by (store.NotAStore slot) never = tt
        by store.DiskFault never = λ s reads.
            let next = some s in (
              next.0,
              next.1,
              (
                record { image = reads.image; told = same ∙ reads.told; has = inl reads.stands },
                both_of IsOf view disk new s next.0 (old_or_one IsOf view disk new s next.0 run),
              ),
            )
        by store.NoMemory never = tt

-- a store at rest with a record and pages is over a disk that rests with them
pub rests_as : {D R : Type 0} {g : _} (view : D → DiskView) (kind : RecordKind R) (store : Store D g) (w : Written R)
    → RestsWith view kind store w → RestsAtState (IsWritten kind) view (store_disk store) w
rests_as view kind store w rest = own_rest (IsWritten kind) view (store_disk store) w
    (rest_for_good view kind store w rest)

-- of record and pages, by what the store committed, on the disk that it gives back
module _ {D R X E : Type 0} {g : _} {view : D → DiskView} {kind : RecordKind R} {disk_fault : E}
    {IsNext : (w next : Written R) → Type 0} {IsAnswer : X → (w next : Written R) → Type 0}
    {old new : Store D g} {before after : R} {ps : Image} {disk : D} where
  pub answered_commits : {x : X} → Commits view kind disk_fault IsNext IsAnswer old new before after (Ok x) ps
      → disk ≡ store_disk new
      → AddsFrom (IsWritten kind) view (store_disk old) disk (StaysOr IsNext) IsAnswer (written_record before ps) (Ok x)
  answered_commits {x = x} c closed =
      subst (λ d. AddsFrom (IsWritten kind) view (store_disk old) d (StaysOr IsNext) IsAnswer (written_record before ps)
      (Ok x)) (sym closed) (c.next, c.done.0, rests_as view kind new c.next c.done.2, c.any_moment)

  pub refused_commits : {e : E} {came : CommandFault} (fault_of : E → CommandFault) → fault_of disk_fault ≡ DiskFault
      → came ≡ fault_of e → Commits view kind disk_fault IsNext IsAnswer old new before after (Err e) ps
      → disk ≡ store_disk new
      → AddsFrom (IsWritten kind) view (store_disk old) disk (StaysOr IsNext) IsAnswer (written_record before ps) (Err came)
  refused_commits {e = e} {came = came} fault_of told_so is c closed =
      subst (λ d. AddsFrom (IsWritten kind) view (store_disk old) d (StaysOr IsNext) IsAnswer (written_record before ps)
      (Err came)) (sym closed)
      (refused_adds (IsWritten kind) view (StaysOr IsNext) IsAnswer disk_fault fault_of told_so (store_disk old)
      (store_disk new) (written_record before ps) c.next c.is_next c.any_moment c.told e came is
      (⊎_elim (λ same. inl same) (λ kept. inr (rests_as view kind new (written_record before ps) kept.0)) c.refused))

-- a refusal that isn't told as a disk fault is none
pub nothing_written : (X : Type 0) {E : Type 0} (disk_fault : E) (fault_of : E → CommandFault)
    → fault_of disk_fault ≡ DiskFault → (e : E) (came : CommandFault) → came ≡ fault_of e
    → (P : Type 0) → (e ≡ disk_fault) ⊎ P → WritesNothing {X = X} (Err came) → P
nothing_written X disk_fault fault_of told_so e came is P (inr holds) nothing = holds
nothing_written X disk_fault fault_of told_so e came is P (inl fault) nothing =
    absurd (subst (λ (f : CommandFault). WritesNothing {X = X} (Err f)) (is ∙ ap fault_of fault ∙ told_so) nothing)
