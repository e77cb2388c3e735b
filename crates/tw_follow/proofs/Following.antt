-- What a follower that keeps a list leaves and tells, where nothing is committed.
use Rattle.std.proofs.Common.{◌≡◌, ℕ, List, [], ap, inl, ◌⊎◌}
use Rattle.std.specs.Prelude.{Some}
use Rattle.tw_disk.specs.Image.{Image}
use Rattle.tw_disk.specs.Disk.{DiskView, IsAtRest, LeavesOnly, Reads}
use Rattle.tw_pages.specs.StoreValue.{store_disk}
use Rattle.tw_pages.specs.Same.{IsSameStore}
use Rattle.tw_pages.specs.declared.store.Store.{Store}
use Rattle.tw_pages.specs.Records.{IsOneOf, IsWritten, written_record}
use Rattle.tw_pages.specs.Rests.{RestsWith}
use Rattle.tw_pages.specs.States.{ServesState}
use Rattle.tw_pages.proofs.States.{stands_by}
use Rattle.tw_pages.proofs.Written.{only_same, still_rests}
use Rattle.tw_follow.specs.declared.root.RootRecord.{RootRecord}
use Rattle.tw_follow.specs.HeadLists.{Kept, last_head}
use Rattle.tw_follow.specs.Stands.{KeepsList, StandsFor, StandsForOneOf, root_kind}
use Rattle.tw_follow.proofs.Lists.{kept-head}
use Rattle.tw_follow.proofs.Moved.{none_leaves, none_reads}

module _ {D : Type 0} {g : _} (view : D → DiskView) (only_now : (d : D) (c : Image)
    → (view d).left_since (view d).moment c → (view d).may_leave c) (dig : List ℕ → List ℕ) where
  -- the record's head is that of the list
  pub rest_head : (store : Store D g) (r : RootRecord) (k : Kept) → ServesState (root_kind dig) KeepsList view store r k
      → last_head dig k ≡ r.head
  rest_head store r k serves = kept-head serves.pages r k serves.keeps dig serves.rests.has.has.may.fits.begun

  -- the same store keeps the same list
  pub still_keeps : (old mid : Store D g) (r : RootRecord) (k : Kept) → IsSameStore view old mid
      → ServesState (root_kind dig) KeepsList view old r k → ServesState (root_kind dig) KeepsList view mid r k
  still_keeps old mid r k same serves =
      record {
        pages = serves.pages;
        rests = still_rests view (root_kind dig) old mid (written_record r serves.pages) same serves.rests;
        keeps = serves.keeps;
      }

  pub read_leaves : (old mid : Store D g) (r : RootRecord) (k : Kept) → IsSameStore view old mid
      → ServesState (root_kind dig) KeepsList view old r k → LeavesOnly (view (store_disk old)) (view (store_disk mid))
      (λ i. StandsFor dig i k)
  read_leaves old mid r k same serves = only_same view (root_kind dig) only_now old mid (written_record r serves.pages)
      (λ i. StandsFor dig i k) same serves.rests
      (λ c is. stands_by (root_kind dig) KeepsList (written_record r serves.pages) k serves.keeps c is)

  -- the same of whatever pages
  pub same_leaves : (old mid : Store D g) (r : RootRecord) (ps : Image) → IsSameStore view old mid
      → RestsWith view (root_kind dig) old (written_record r ps)
      → LeavesOnly (view (store_disk old)) (view (store_disk mid)) (IsWritten (root_kind dig) (written_record r ps))
  same_leaves old mid r ps same rest = only_same view (root_kind dig) only_now old mid (written_record r ps)
      (IsWritten (root_kind dig) (written_record r ps)) same rest (λ c is. is)
