-- A disk that stands for a history holds no store of a follower: their root records differ in size.
use Rattle.std.proofs.Common.{◌≡◌, ◌∙◌, ℕ, List, length, refl, ap, arith, inr, Bool, true, false}
use Rattle.std.specs.Prelude.{if◌then◌else◌, is_some}
use Rattle.sha2.specs.Sha256.{sha256}
use Rattle.tw_base.specs.history.History.{History}
use Rattle.tw_disk.specs.Image.{Image}
use Rattle.tw_pages.specs.Store.{Opening}
use Rattle.tw_pages.specs.declared.open.StoreFault.{StoreFault}
use Rattle.tw_pages.specs.declared.open.StoreFault.TheVariants.{NotAStore}
use Rattle.tw_answers.specs.declared.root.RootRecord.{RootRecord}
use Rattle.tw_answers.proofs.RootLaws.{root-sizes}
use Rattle.tw_follow.specs.declared.root.RootRecord.{RootRecord as FollowerRoot}
use Rattle.tw_pages.specs.Records.{HasRoot as HasRootOf}
use Rattle.tw_follow.specs.Stands.{IsNotOpenedFor, root_kind}
use Rattle.tw_follow.proofs.Spelling.{root-size}
use Rattle.tw_follow.specs.HeadLists.{Kept}
use Rattle.tw_follow.specs.Stands.{IsServed as IsServedList, StandsFor as StandsForList}
use Rattle.tw_answers.specs.Roots.{root_kind as service_kind}
use Rattle.tw_service.specs.Stands.{IsServed, StandsFor}
use Rattle.tw_pages.specs.Records.Served.{Opened}
use Rattle.tw_pages.specs.Records.{written_record}
use Rattle.tw_service.specs.Stands.{IsNotOpenedFor as IsNoService}

other_size : (is_timed : Bool) (size : ℕ) → size ≡ (if is_timed then 120 else 112) → size ≡ 64 → ⊥
other_size true size is small = omega (arith, is, small)
other_size false size is small = omega (arith, is, small)

no_follower : (o : Opening) (r : RootRecord) → HasRootOf service_kind o r → (f : FollowerRoot)
    → HasRootOf (root_kind sha256) o f → ⊥
no_follower o r has f other =
    other_size (is_some r.time) (length o.root)
    (ap (λ (bytes : List ℕ). length bytes) has.spelled ∙ root-sizes (is_some r.time) r has.may.spelled)
    (ap (λ (bytes : List ℕ). length bytes) other.spelled ∙ root-size f other.may.spelled)

-- what opens as a service's store is opened as no follower, whatever its pages keep
pub service_closed : (image : Image) (r : RootRecord) (pages : Image) → IsServed image (Opened (written_record r pages))
    → (why : StoreFault) × IsNotOpenedFor sha256 image why
service_closed image r pages is =
    (NotAStore is.opening.slot, inr (is.opening, is.opens, (λ f has. no_follower is.opening r is.has f has), refl))

-- and the other way round
pub follower_closed : (image : Image) (f : FollowerRoot) (pages : Image) → IsServedList sha256 image
    (Opened (written_record f pages)) → (why : StoreFault) × IsNoService image why
follower_closed image f pages is =
    (NotAStore is.opening.slot, inr (is.opening, is.opens, (λ r has. no_follower is.opening r has f is.has), refl))

-- so it is with what stands for a history, or for a list
pub stands_closed : (image : Image) (name : List ℕ) (h : History) → StandsFor sha256 image name h → (why : StoreFault)
    × IsNotOpenedFor sha256 image why
stands_closed image name h is =
    let it = is.stands.is in (
      NotAStore it.opening.slot,
      inr (it.opening, it.opens, (λ f has. no_follower it.opening is.stands.w.root it.has f has), refl),
    )

pub list_closed : (image : Image) (k : Kept) → StandsForList sha256 image k → (why : StoreFault) × IsNoService image why
list_closed image k is = (
  NotAStore is.is.opening.slot,
  inr (is.is.opening, is.is.opens, (λ r has. no_follower is.is.opening r has is.w.root is.is.has), refl),
)
