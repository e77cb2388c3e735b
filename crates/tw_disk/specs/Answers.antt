-- What calls answer that read pages or add some, for every type of faults.
use Rattle.std.specs.Prelude.{◌≡◌, ℕ, ◌≤◌, Option, Some, Bool, true, false, Result, Ok, Err}
use Rattle.tw_base.specs.kinds.Faults.{Rose}
use Rattle.tw_disk.specs.Found.{Found}
use Rattle.tw_disk.specs.Found.Found.{Is, Bad}
use Rattle.tw_disk.specs.Image.{Image}
use Rattle.tw_disk.specs.Pages.{OnlyAdds, OnlyReads, PagesView}

-- what a fault says: which page is bad, that a read failed, that memory was wanting, or something of the call's own
pub data FaultSort : Type 0 where
  OfPage : (page : ℕ) → FaultSort
  OfDisk : FaultSort
  OfMemory : FaultSort
  OfCall : FaultSort

abbrev pub is_of_disk : FaultSort → Bool
is_of_disk OfDisk = true
is_of_disk _ = false

-- a fault that any call over pages may have: of a page, of the disk, of memory
abbrev pub IsShared : FaultSort → Type 0
IsShared OfCall = ⊥
IsShared _ = Unit {0}

-- what is found by a call that adds pages: the pages from number 4 on that there are then, and its value
pub record Next (X : Type 0) : Type 0 where
  pub pages : Image
  pub value : X

-- `sort` tells of each fault of the call's type what it says
module _ {F : Type 0} (sort : F → FaultSort) where
  module _ {X : Type 0} where
    -- a bad page is the one that is found; the other faults say nothing of what the pages have
    abbrev pub SaysOf : FaultSort → Found X → Type 0
    SaysOf (OfPage page) found = found ≡ Bad page
    SaysOf _ found = Unit {0}

    -- the same where a refusal of the call's own is what is found too
    abbrev pub RefusesAs : FaultSort → F → Found (Result X F) → Type 0
    RefusesAs (OfPage page) fault found = found ≡ Bad page
    RefusesAs OfCall fault found = found ≡ Is (Err fault)
    RefusesAs _ fault found = Unit {0}

  module _ {T : Type 0} where
    -- this answer tells of a failed read
    abbrev pub is_failed : Result T F → Bool
    is_failed (Ok x) = false
    is_failed (Err fault) = is_of_disk (sort fault)

    -- no refusal of the call's own
    abbrev pub NeverRefuses : Result T F → Type 0
    NeverRefuses (Ok x) = Unit {0}
    NeverRefuses (Err fault) = IsShared (sort fault)

    module _ {X : Type 0} (value : T → X) where
      -- the value, seen so, is what is found; and a bad page is the one that is found
      abbrev pub AnswersAs : Result T F → Found X → Type 0
      AnswersAs (Ok x) found = found ≡ Is (value x)
      AnswersAs (Err fault) found = SaysOf (sort fault) found

      -- the same of a call with refusals of its own
      abbrev pub AnswersOr : Result T F → Found (Result X F) → Type 0
      AnswersOr (Ok x) found = found ≡ Is (Ok (value x))
      AnswersOr (Err fault) found = RefusesAs (sort fault) fault found

      -- the same of a call that adds pages: the pages that are told now are those that are found
      abbrev pub AnswersNext : (now : Option Image) → Result T F → Found (Next X) → Type 0
      AnswersNext now (Ok x) found = (pages : Image) × (now ≡ Some pages) × (found ≡ Is (record { pages = pages; value = value x }))
      AnswersNext now (Err fault) found = SaysOf (sort fault) found

    module _ {P : Type 0} (view : P → PagesView) (same : P → P → Type 0) (old new : P) where
      -- the count of faults hasn't fallen, and rose where a read failed
      pub record FaultsRise (result : Result T F) : Type 0 where
        pub later : (view old).faults ≤ (view new).faults
        pub rose : is_failed result ≡ true → Rose (view old).faults (view new).faults

      -- `Own` is what holds of refusals of the call's own, over any pages
      module _ {X : Type 0} (result : Result T F) (Own : Type 0) (Answers : Result T F → Found X → Type 0) (found : Image → Found X) where
        -- a call that reads: over told pages it answers what is found in them; it changes nothing of what they tell, keeps them
        -- unbroken where no read failed, and a failed read has its cause
        pub record ReadsBy : Type 0 where
          pub answer : (ps : Image) → (view old).list ≡ Some ps → Answers result (found ps)
          pub own : Own
          pub kept : OnlyReads view same old new (is_failed result ≡ false)
          pub faults : FaultsRise result

        -- a call that reads and adds pages behind those that were told
        pub record AddsBy : Type 0 where
          pub answer : (ps : Image) → (view old).list ≡ Some ps → Answers result (found ps)
          pub own : Own
          pub kept : OnlyAdds view same old new (is_failed result ≡ false)
          pub faults : FaultsRise result

      module _ {X : Type 0} (value : T → X) (result : Result T F) where
        -- a call that reads, and never has a refusal of its own
        abbrev pub ReadsPages : (Image → Found X) → Type 0
        ReadsPages found = ReadsBy result (NeverRefuses result) (AnswersAs value) found

        -- a call that reads, and whose refusals its arguments alone tell, as this says
        abbrev pub ReadsWhere : (Own : Type 0) → (Image → Found X) → Type 0
        ReadsWhere Own found = ReadsBy result Own (AnswersAs value) found

        -- a call that reads, and whose refusals are found too; over any pages this holds of them
        abbrev pub ReadsOr : (Own : Type 0) → (Image → Found (Result X F)) → Type 0
        ReadsOr Own found = ReadsBy result Own (AnswersOr value) found

        -- a call that reads and adds pages, and never has a refusal of its own
        abbrev pub AddsPages : (Image → Found (Next X)) → Type 0
        AddsPages found = AddsBy result (NeverRefuses result) (AnswersNext value (view new).list) found

-- a loop that reads, up to now: what is found from its start is what is found from here, and nothing of what the pages tell has changed
pub record ReadSoFar {P X : Type 0} (view : P → PagesView) (same : P → P → Type 0) (start here : P) (all rest : Image → Found X) : Type 0 where
  pub on : (ps : Image) → (view start).list ≡ Some ps → all ps ≡ rest ps
  pub kept : OnlyReads view same start here (Unit {0})
  pub later : (view start).faults ≤ (view here).faults
