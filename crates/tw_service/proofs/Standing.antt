-- What an image stands for.
use Rattle.std.proofs.Common.{◌≡◌, ℕ, ◌+◌, ◌^◌, ◌≤◌, List, length, sym, ◌∙◌, subst}
use Rattle.tw_base.specs.history.History.{History}
use Rattle.tw_base.proofs.lemmas.kinds.DigestBytes.{IsDigest}
use Rattle.tw_disk.specs.Image.{Image}
use Rattle.tw_pages.specs.Records.{IsOnce, Served, Written, written_record}
use Rattle.tw_pages.specs.Records.Served.{Opened}
use Rattle.tw_pages.proofs.Standing.{has_numbers as numbers_written, never_refused, served_once as once_served}
use Rattle.tw_pages.proofs.Standing.{written_once}
use Rattle.tw_pages.specs.declared.open.StoreFault.{StoreFault}
use Rattle.tw_skiplist.proofs.Once.{keeps_alike}
use Rattle.tw_answers.specs.declared.root.RootRecord.{RootRecord}
use Rattle.tw_answers.specs.Roots.{root_kind}
use Rattle.tw_answers.proofs.RootLaws.{root_once}
use Rattle.tw_service.specs.Stands.{IsNotOpenedFor, IsServed, KeepsHistory, StandsFor}
use Rattle.tw_service.proofs.NextHistories.{one_history}

pub once : IsOnce root_kind
once root used generation r s is may also would = root_once used generation root r s is may also would

-- the pages of a service have numbers that fit
pub has_numbers : (image : Image) (root : RootRecord) (pages : Image) → IsServed image (Opened (written_record root pages))
    → 4 + length pages ≤ 2 ^ 64
has_numbers image root pages is = numbers_written root_kind image (written_record root pages) is

-- an image is served as one thing at most
pub served_once : (image : Image) (one other : Served RootRecord) → IsServed image one → IsServed image other → one ≡ other
served_once image one other a b = once_served root_kind once image one other a b

module _ (dig : List ℕ → List ℕ) where
  -- pages keep one history at most under a record
  pub keeps_once : ((text : List ℕ) → IsDigest (dig text)) → (pages : Image) (r : RootRecord) (h g : History)
      → KeepsHistory dig pages r h → KeepsHistory dig pages r g → h ≡ g
  keeps_once size pages r h g s t =
      one_history dig pages h g s.whole.steps.places t.whole.steps.places s.whole.trees t.whole.trees
      (keeps_alike dig size pages h g r.head s.whole.steps t.whole.steps) (s.named ∙ sym t.named)

  pub stands_once : ((text : List ℕ) → IsDigest (dig text)) → (image : Image) (one other : List ℕ) (h g : History)
      → StandsFor dig image one h → StandsFor dig image other g → h ≡ g
  stands_once size image one other h g s t =
      let same = written_once root_kind once image s.stands.w t.stands.w s.stands.is t.stands.is in
      keeps_once size t.stands.w.pages t.stands.w.root h g
      (subst (λ (w : Written RootRecord). KeepsHistory dig w.pages w.root h) same s.stands.keeps) t.stands.keeps

  pub stands_opened : (image : Image) (name : List ℕ) (h : History) (fault : StoreFault) → StandsFor dig image name h
      → IsNotOpenedFor image fault → ⊥
  stands_opened image name h fault s why = never_refused root_kind image s.stands.w s.stands.is fault why
