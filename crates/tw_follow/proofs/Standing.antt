-- What an image stands for.
use Rattle.std.proofs.Common.{◌≡◌, ℕ, ◌+◌, ◌^◌, ◌≤◌, List, length, subst}
use Rattle.tw_disk.specs.Image.{Image}
use Rattle.tw_pages.specs.declared.open.StoreFault.{StoreFault}
use Rattle.tw_pages.specs.Records.{IsOnce, Served, Written, written_record}
use Rattle.tw_pages.specs.Records.Served.{Opened}
use Rattle.tw_pages.proofs.Standing.{never_refused, served_once as once_served, written_once}
use Rattle.tw_pages.proofs.Standing.{has_numbers as numbers}
use Rattle.tw_follow.specs.declared.root.RootRecord.{RootRecord}
use Rattle.tw_follow.specs.HeadLists.{AreHeadsRising, Kept}
use Rattle.tw_follow.specs.Stands.{IsNotOpenedFor, IsServed, KeepsList, StandsFor, root_kind}
use Rattle.tw_follow.proofs.Lists.{kept-once, kept-rising}
use Rattle.tw_follow.proofs.Spelling.{root-once}

module _ (dig : List ℕ → List ℕ) where
  pub once : IsOnce (root_kind dig)
  once root used generation r s is may also would = root-once root r s is may.spelled also would.spelled

  -- the pages of a follower have numbers that fit
  pub has_numbers : (image : Image) (root : RootRecord) (pages : Image) → IsServed dig image (Opened (written_record root pages))
      → 4 + length pages ≤ 2 ^ 64
  has_numbers image root pages is = numbers (root_kind dig) image (written_record root pages) is

  -- an image is served as one thing at most
  pub served_once : (image : Image) (one other : Served RootRecord) → IsServed dig image one → IsServed dig image other
      → one ≡ other
  served_once image one other a b = once_served (root_kind dig) once image one other a b

  pub stands_once : (image : Image) (k other : Kept) → StandsFor dig image k → StandsFor dig image other → k ≡ other
  stands_once image k other s t =
      kept-once t.w.pages t.w.root k other (subst (λ (w : Written RootRecord). KeepsList w.pages w.root k)
      (written_once (root_kind dig) once image s.w t.w s.is t.is) s.keeps) t.keeps

  pub stands_rising : (image : Image) (k : Kept) → StandsFor dig image k → AreHeadsRising k
  stands_rising image k s = kept-rising s.w.pages s.w.root k s.keeps

  pub stands_opened : (image : Image) (k : Kept) (fault : StoreFault) → StandsFor dig image k → IsNotOpenedFor dig image
      fault → ⊥
  stands_opened image k fault s why = never_refused (root_kind dig) image s.w s.is fault why
