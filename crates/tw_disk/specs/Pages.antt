-- What a list of pages tells of itself, and what calls over it keep.
use Rattle.std.specs.Prelude.{◌≡◌, ℕ, ◌≤◌, ◌++◌, Option, Some}
use Rattle.tw_disk.specs.Image.{Image}

-- what pages tell of themselves at one moment
pub record PagesView : Type 1 where
  -- the pages from number 4 on, committed and staged, where told
  pub list : Option Image
  -- the number of all pages, committed and staged, the first four among them
  pub used : ℕ
  -- how often a call has failed; the count doesn't fall, and stands still at 2^64 - 1
  pub faults : ℕ
  -- no call has met a failed device call
  pub unbroken : Type 0

module _ {P : Type 0} (view : P → PagesView) (same : P → P → Type 0) where
  -- A call that stages nothing: the number of pages and the list are the same, `same` holds, and `unbroken` is kept
  -- where the call went well. That it did is `good`: for a single read that it answered Ok, for a walk that it met no failed read.
  pub record OnlyReads (old new : P) (good : Type 0) : Type 0 where
    pub used_kept : (view new).used ≡ (view old).used
    pub list_kept : (view new).list ≡ (view old).list
    pub same_kept : same old new
    pub unbroken_kept : good → (view old).unbroken → (view new).unbroken

  -- A call that adds pages at the end, or none: the told list stays in front, `same` holds, and `unbroken` is kept where the call went well.
  pub record OnlyAdds (old new : P) (good : Type 0) : Type 0 where
    pub used_grows : (view old).used ≤ (view new).used
    pub list_grows : (pages : Image) → (view old).list ≡ Some pages → (more : Image) × ((view new).list ≡ Some (pages ++ more))
    pub same_kept : same old new
    pub unbroken_kept : good → (view old).unbroken → (view new).unbroken
