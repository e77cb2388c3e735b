-- The disk model: what a disk is after its writes and barriers, and which images a crash may then leave.
use Rattle.std.specs.Prelude.{◌≡◌, ◌≢◌, ℕ, zero, suc, ◌<◌, ◌≤◌, List, [], ◌∷◌, length, take, replicate, slice_set}
use Rattle.tw_base.specs.declared.kinds.limits.TheConstants.{PAGE_SIZE}
use Rattle.tw_disk.specs.Image.{Image, put, page_at}

-- a write that took effect, with its bytes, or a good barrier
pub data DeviceCall : Type 0 where
  Write : (page : ℕ) → (bytes : List ℕ) → DeviceCall
  Barrier : DeviceCall

-- what reads give, what they gave at the last good barrier, and the pages written since, the last one first
pub record WrittenPage : Type 0 where
  pub now : Image
  pub settled : Image
  pub loose : List ℕ

-- the page isn't among those
abbrev pub IsUntouched : List ℕ → ℕ → Type 0
IsUntouched [] k = Unit {0}
IsUntouched (page ∷ pages) k = (k ≢ page) × IsUntouched pages k

-- all of it stable
abbrev pub at_rest : Image → WrittenPage
at_rest image = record { now = image; settled = image; loose = [] }

abbrev pub step : WrittenPage → DeviceCall → WrittenPage
step s (Write page bytes) = record { now = put page bytes s.now; settled = s.settled; loose = page ∷ s.loose }
step s Barrier = at_rest s.now

abbrev pub after : WrittenPage → List DeviceCall → WrittenPage
after s [] = s
after s (call ∷ calls) = after (step s call) calls

-- The images that a crash may leave: any bytes in the pages written since the last good barrier, the others as they are,
-- and a count between that at the last good barrier and the last one.
pub record IsImage (s : WrittenPage) (c : Image) : Type 0 where
  pub at_least : length s.settled ≤ length c
  pub at_most : length c ≤ length s.now
  pub others : (k : ℕ) → k < length c → IsUntouched s.loose k → page_at c k ≡ page_at s.now k

-- the images that a crash may have left at some moment from t on
pub record Since (base : Image) (calls : List DeviceCall) (t : ℕ) (c : Image) : Type 0 where
  pub at : ℕ
  pub from : t ≤ at
  pub to : at ≤ length calls
  pub image : IsImage (after (at_rest base) (take at calls)) c

-- these bytes in each of these pages
abbrev pub spoilt : List ℕ → List ℕ → Image → Image
spoilt bytes [] image = image
spoilt bytes (page ∷ pages) image = spoilt bytes pages (slice_set image page bytes)

-- The outcome of a crash by its choice. The pages written since the last good barrier have: 0 their old bytes, and the old count holds;
-- 1 their new bytes; 2 zeros; 3 bytes of the value 1. With 1 to 3 the last count holds.
abbrev pub outcome : ℕ → WrittenPage → Image
outcome zero s = s.settled
outcome (suc zero) s = s.now
outcome (suc (suc zero)) s = spoilt (replicate PAGE_SIZE 0) s.loose s.now
outcome (suc (suc (suc more))) s = spoilt (replicate PAGE_SIZE 1) s.loose s.now
