-- What holds of each command over a follower's disk: each of its faults has its cause, and whatever it leaves is safe.
use Rattle.std.proofs.Common.{◌≡◌, ℕ, List}
use Rattle.std.specs.Prelude.{Option, Some}
use Rattle.sha2.specs.Sha256.{sha256}
use Rattle.tw_disk.specs.Disk.{DiskView}
use Rattle.tw_disk.specs.Image.{Image}
use Rattle.tw_outside.specs.Asked.{Asked}
use Rattle.tw_outside.specs.Files.{Files}
use Rattle.tw_follow.specs.HeadLists.{first_thread, no_heads}
use Rattle.tw_follow.specs.Stands.{root_kind}
use Rattle.tw_diskcmd.specs.Comes.{FoundDisk}
use Rattle.tw_diskcmd.specs.Files.{IsBadMessageByte, IsMessageIn}
use Rattle.tw_diskcmd.proofs.StoreCommandLaws.{HasCauses, IsSafe, file_causes, make_causes, making_is_safe}
use Rattle.tw_diskcmd.proofs.StoreCommandLaws.{reading_is_safe, writing_is_safe}
use Rattle.tw_diskcmd.specs.FollowerDisks.{IsImageOfHeads}
use Rattle.tw_diskcmd.specs.Heads.{HeadsComes, HeadsLeaves, HeadsSafe}
use Rattle.tw_diskcmd.specs.Offering.{IsNextBy, IsNextListBy, IsOffered, OfferComes, OfferLeaves, OfferSafe}
use Rattle.tw_diskcmd.specs.Watching.{WatchComes, WatchLeaves, WatchSafe}
use Rattle.tw_diskcmd.proofs.Offered.{never_unserved}

module _ (a : Asked) (t : FoundDisk) where
  pub watch_causes : (name : List ℕ) → HasCauses IsImageOfHeads a t ⊥ (Unit {0}) (WatchComes t name)
  watch_causes name = make_causes IsImageOfHeads a t (first_thread sha256 name)

  pub offer_causes : (file : List ℕ) → HasCauses IsImageOfHeads a t (Unit {0}) (Unit {0}) (OfferComes a t file)
  offer_causes file =
      file_causes IsImageOfHeads a t file IsBadMessageByte (IsMessageIn a.told file) (λ m found came. IsOffered found m came)
      (λ m k reads why is. never_unserved m _ why (is.list k reads))

  pub heads_causes : HasCauses IsImageOfHeads a t ⊥ (Unit {0}) (HeadsComes t)
  heads_causes = record {
    input = λ came. absurd came;
    disk = λ rose. (tt, rose);
    serves = λ k reads why came. (let is = came.list k reads in cc);
    memory = tt;
  }

module _ {D : Type 0} (view : D → DiskView) (old new : D) where
  pub heads_is_safe : IsSafe view old new (HeadsLeaves view old new) (HeadsSafe view old new)
  heads_is_safe = reading_is_safe (root_kind sha256) IsImageOfHeads view old new

  module _ (only_now : (d : D) (image : Image) → (view d).left_since (view d).moment image → (view d).may_leave image)
      (as_it_reads : (d : D) (image : Image) → (view d).content ≡ Some image → (view d).may_leave image) where
    pub watch_is_safe : (name : List ℕ) → IsSafe view old new (WatchLeaves view old new name)
        (WatchSafe view old new name)
    watch_is_safe name = making_is_safe (root_kind sha256) IsImageOfHeads view old new as_it_reads (no_heads name)

    pub offer_is_safe : (told : Option Files) (file : List ℕ) → IsSafe view old new (OfferLeaves view old new told file)
        (OfferSafe view old new told file)
    offer_is_safe told file =
        writing_is_safe (root_kind sha256) IsImageOfHeads view old new as_it_reads only_now (IsMessageIn told file) IsNextListBy
        IsNextBy (λ m found came. IsOffered found m came)
        (λ m thread. IsNextListBy m) (λ m thread. IsNextBy m) (λ m thread k next is. is) (λ m thread w next is. is)
