-- A store that was only read and staged on keeps what it had: laws for the crates above.
use Rattle.std.proofs.Common.{◌≡◌, ◌-◌, take, drop}
use Rattle.tw_disk.specs.Image.{Image}
use Rattle.tw_disk.specs.Disk.{DiskView, LeavesOnly}
use Rattle.tw_pages.specs.declared.store.Store.{Store}
use Rattle.tw_pages.specs.Store.{OpensAs}
use Rattle.tw_pages.specs.StoreValue.{opening_of, IsKept}
use Rattle.tw_pages.specs.Same.{IsSameStore}
use Rattle.tw_disk.proofs.Moments.{same_leaves as disk_leaves}
use Rattle.tw_pages.proofs.Openings.{above_opens}

module _ {D : Type 0} {g : _} (view : D → DiskView) where
  -- an image that the value keeps opens as its store
  pub kept_opens : (store : Store D g) (c : Image) → IsKept store c → OpensAs (opening_of store c) c
  kept_opens store c kept = above_opens store.is_spare_open (opening_of store c) c kept

  -- it opens as the same store
  pub same_opens : (old new : Store D g) → IsSameStore view old new → (c : Image) → opening_of new c ≡ opening_of old c
  same_opens old new same c =
      λ i. record {
        root = same.root i;
        generation = same.generation i;
        slot = same.slot i;
        pages = take (same.used i - 4) (drop 4 c);
      }

  -- a crash meanwhile leaves only what it might have left before
  pub same_leaves : ((d : D) (c : Image) → (view d).left_since (view d).moment c → (view d).may_leave c)
      → (old new : Store D g) (P : Image → Type 0) → IsSameStore view old new
      → ((c : Image) → (view old.disk).may_leave c → P c)
      → LeavesOnly (view old.disk) (view new.disk) P
  same_leaves only_now old new P same was = disk_leaves (view old.disk) (view new.disk) P (only_now old.disk) same.disk
      was
