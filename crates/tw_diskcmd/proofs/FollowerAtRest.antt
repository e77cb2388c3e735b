-- An image that stands for a list of heads has a store.
use Rattle.sha2.specs.Sha256.{sha256}
use Rattle.tw_disk.specs.Image.{Image}
use Rattle.tw_pages.specs.Slots.{IsTaken}
use Rattle.tw_follow.specs.HeadLists.{Kept}
use Rattle.tw_follow.specs.Stands.{root_kind}
use Rattle.tw_diskcmd.proofs.StoreAtRest.{opens_taken}
use Rattle.tw_diskcmd.specs.FollowerDisks.{IsImageOfHeads}

pub stands_taken : (k : Kept) (image : Image) → IsImageOfHeads k image → IsTaken image
stands_taken k image is = opens_taken (root_kind sha256) is.w image is.is
