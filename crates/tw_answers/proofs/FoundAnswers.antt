-- Answers and refusals as what is found in pages.
use Rattle.std.proofs.Common.{◌≡◌, ◌⊎◌, true, ap, refl, sym, ◌∙◌, subst, inl}
use Rattle.std.specs.Prelude.{Result, Ok, Err, IfErr, IsErrAnd}
use Rattle.tw_skiplist.specs.declared.fault.ListFault.{ListFault}
use Rattle.tw_skiplist.specs.declared.fault.ListFault.TheVariants as list
use Rattle.tw_disk.specs.Answers.{IsShared, SaysOf, is_of_disk}
use Rattle.tw_skiplist.specs.ListFaults.{list_faults, list_refusal}
use Rattle.tw_disk.specs.Found.{Found, ◌>>=◌}
use Rattle.tw_disk.specs.Found.Found.{Is, Bad}
use Rattle.tw_answers.specs.Finds.{IsRefusalFound}
use Rattle.tw_answers.specs.Refusals.{IsBadPageRefusal, IsFault, IsNoEvent, OfBadPage, service_refusals}
use Rattle.tw_base.specs.declared.history.refusal.Refusal.{Refusal}
use Rattle.tw_base.specs.declared.history.refusal.Refusal.TheVariants.{BadPage, DiskFault, NoMemory}

-- ---- faults of the list

-- what a fault of the list says, it says as a refusal
pub same_sort : (fault : ListFault) → service_refusals (list_refusal fault) ≡ list_faults fault
same_sort (list.NoStep n) = refl
same_sort (list.BadPage page) = refl
same_sort list.DiskFault = refl
same_sort list.NoMemory = refl

-- one that isn't of the arguments is a fault of the service
pub fault_own : {T : Type 0} (result : Result T Refusal) (fault : ListFault) → IsErrAnd result
    (λ r. r ≡ list_refusal fault) → IsShared (list_faults fault) → IfErr result (λ r. IsFault r ⊎ IsNoEvent r)
fault_own (Ok x) fault is shared = absurd is
fault_own (Err r) fault is shared = inl (subst IsFault (sym is) (of fault shared))
  where
    of : (f : ListFault) → IsShared (list_faults f) → IsFault (list_refusal f)
    of (list.NoStep n) shared = absurd shared
    of _ shared = tt

-- a refusal that tells of the disk is a fault
pub of_disk : (r : Refusal) → is_of_disk (service_refusals r) ≡ true → IsFault r
of_disk (BadPage page) is = tt
of_disk DiskFault is = tt
of_disk NoMemory is = tt
of_disk _ is = absurd cc

module _ {X Y : Type 0} where
  -- a bad page ends the reading
  pub page_on : (refusal : Refusal) (one : Found X) (next : X → Found Y) → OfBadPage refusal (λ page. one ≡ Bad page)
      → OfBadPage refusal (λ page. (one >>= next) ≡ Bad page)
  page_on (BadPage page) one next bad = ap (λ (f : Found X). f >>= next) bad
  page_on _ one next bad = tt

module _ {X : Type 0} where
  -- the page of a fault
  pub page_found : (fault : ListFault) (refusal : Refusal) (found : Found X) → refusal ≡ list_refusal fault
      → SaysOf list_faults (list_faults fault) found → OfBadPage refusal (λ page. found ≡ Bad page)
  page_found fault refusal found is there = subst (λ (r : Refusal). OfBadPage r (λ page. found ≡ Bad page)) (sym is)
      (of fault there)
    where
      of : (f : ListFault) → SaysOf list_faults (list_faults f) found → OfBadPage (list_refusal f)
          (λ page. found ≡ Bad page)
      of (list.BadPage page) there = there
      of _ there = tt

  -- a bad page where a value is found
  pub no_bad_page : (refusal : Refusal) (found : Found X) (x : X) → found ≡ Is x
      → OfBadPage refusal (λ page. found ≡ Bad page) → IsBadPageRefusal refusal → ⊥
  no_bad_page (BadPage page) found x is bad fault = let both : Is x ≡ Bad page = sym is ∙ bad in cc
  no_bad_page _ found x is bad fault = fault

  -- ---- refusals

  -- a refusal of a table
  pub table_found : (refusal : Refusal) (found : Found (Result X Refusal)) → (IsFault refusal → ⊥)
      → found ≡ Is (Err refusal) → IsRefusalFound refusal found
  table_found (BadPage page) found told is = absurd (told tt)
  table_found DiskFault found told is = tt
  table_found NoMemory found told is = tt
  table_found _ found told is = is

  -- a fault's page, after more was found
  pub fault_page : (refusal : Refusal) (found : Found (Result X Refusal)) → IsFault refusal
      → OfBadPage refusal (λ page. found ≡ Bad page) → IsRefusalFound refusal found
  fault_page (BadPage page) found fault bad = bad
  fault_page DiskFault found fault bad = tt
  fault_page NoMemory found fault bad = tt
  fault_page _ found fault bad = absurd fault

-- a disk fault tells of the disk
pub of_disk_fault : (r : Refusal) → r ≡ DiskFault → is_of_disk (service_refusals r) ≡ true
of_disk_fault r is = ap (λ (q : Refusal). is_of_disk (service_refusals q)) is
