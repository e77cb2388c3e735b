-- The bytes of a file, what a write makes of them, and the whole pages among them.
use Rattle.std.specs.Prelude.{◌≡◌, ℕ, zero, suc, ◌+◌, ◌/◌, ◌<◌, ◌≤◌, max, List, [], ◌∷◌, ◌++◌, length, take, drop, slice_index}
use Rattle.tw_base.specs.declared.kinds.limits.TheConstants.{PAGE_SIZE}
use Rattle.tw_disk.specs.Image.{Image}

-- these bytes stand at this place, which is no further than the file's end; the others are as they were
unfoldable pub put_bytes : ℕ → List ℕ → List ℕ → List ℕ
put_bytes at bytes file = take at file ++ (bytes ++ drop (at + length bytes) file)

-- what a write of so many bytes at a place may have made of a file where nothing is known of them: any bytes there, the
-- others the same, and the file no longer than up to the end of the write
pub record TornBytes (at n : ℕ) (old new : List ℕ) : Type 0 where
  pub no_shorter : length old ≤ length new
  pub no_longer : length new ≤ max (length old) (at + n)
  pub below : (k : ℕ) → k < length old → k < at → slice_index new k ≡ slice_index old k
  pub above : (k : ℕ) → k < length old → at + n ≤ k → slice_index new k ≡ slice_index old k

-- so many pages: the first bytes, and then the pages of the others
abbrev pub pages_from : ℕ → List ℕ → Image
pages_from zero bytes = []
pages_from (suc n) bytes = take PAGE_SIZE bytes ∷ pages_from n (drop PAGE_SIZE bytes)

-- the whole pages of a file; bytes behind the last of them are no page
unfoldable pub whole_pages : List ℕ → Image
whole_pages bytes = pages_from (length bytes / PAGE_SIZE) bytes
