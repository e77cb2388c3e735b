-- From records and pages to lists, where no head was added.
use Rattle.std.proofs.Common.{ℕ, List, inl}
use Rattle.tw_disk.specs.Disk.{DiskView, LeavesOnly, Reads}
use Rattle.tw_disk.specs.Image.{Image}
use Rattle.tw_pages.specs.StoreValue.{store_disk}
use Rattle.tw_pages.specs.Same.{IsSameStore}
use Rattle.tw_pages.specs.declared.store.Store.{Store}
use Rattle.tw_pages.specs.Records.{written_record}
use Rattle.tw_pages.specs.States.{ServesState}
use Rattle.tw_pages.proofs.States.{stands_by}
use Rattle.tw_pages.proofs.Written.{content_written, only_same, still_rests}
use Rattle.tw_follow.specs.declared.root.RootRecord.{RootRecord}
use Rattle.tw_follow.specs.HeadLists.{Kept}
use Rattle.tw_follow.specs.Stands.{KeepsList, StandsForOneOf, root_kind}

module _ {D : Type 0} {g : _} (view : D → DiskView) (only_now : (d : D) (c : Image)
    → (view d).left_since (view d).moment c → (view d).may_leave c) (dig : List ℕ → List ℕ) where
  -- nothing was committed
  module _ (old mid : Store D g) (r : RootRecord) (k next : Kept) (same : IsSameStore view old mid)
      (serves : ServesState (root_kind dig) KeepsList view old r k) where
    pub none_leaves : LeavesOnly (view (store_disk old)) (view (store_disk mid)) (StandsForOneOf dig k next)
    none_leaves = only_same view (root_kind dig) only_now old mid (written_record r serves.pages)
        (StandsForOneOf dig k next) same serves.rests
        (λ c is. inl (stands_by (root_kind dig) KeepsList (written_record r serves.pages) k serves.keeps c is))

    pub none_reads : Reads (view (store_disk mid)) (StandsForOneOf dig k next)
    none_reads =
        let now = still_rests view (root_kind dig) old mid (written_record r serves.pages) same serves.rests in
        let is = content_written view (root_kind dig) mid (written_record r serves.pages) now in
        record {
          image = now.image;
          told = now.told;
          has = inl (stands_by (root_kind dig) KeepsList (written_record r serves.pages) k serves.keeps now.image is);
        }
