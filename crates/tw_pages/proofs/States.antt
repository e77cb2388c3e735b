-- From records and pages to the states that they keep: what a store says of its images, said of states.
use Rattle.std.proofs.Common.{◌≡◌, ℕ, List, [], inl, inr, ◌⊎◌, ⊎_elim, subst, sym}
use Rattle.tw_disk.specs.Disk.{DiskView, IsAtRest, LeavesOnly, Reads}
use Rattle.tw_disk.specs.Image.{Image}
use Rattle.tw_disk.proofs.Moments.{leaves_weaker}
use Rattle.tw_pages.specs.StoreValue.{store_disk}
use Rattle.tw_pages.specs.declared.store.Store.{Store}
use Rattle.tw_pages.specs.Records.{IsBlankOrNew, IsOneOf, IsWritten, RecordKind, Written, written_record}
use Rattle.tw_pages.specs.Rests.{RestsWith}
use Rattle.tw_pages.specs.States.{IsBlankOrFirst, ServesState, StandsForOneState, StandsForState}
use Rattle.tw_pages.proofs.Written.{rest_for_good}

module _ {R S : Type 0} (kind : RecordKind R) (Keeps : Image → R → S → Type 0) where
  pub stands_by : (w : Written R) (s : S) → Keeps w.pages w.root s → (c : Image) → IsWritten kind w c
      → StandsForState kind Keeps s c
  stands_by w s keeps c is = record { w = w; is = is; keeps = keeps }

  module _ (w next : Written R) (s after : S) (keeps : Keeps w.pages w.root s)
      (then : Keeps next.pages next.root after) where
    pub one_by : (c : Image) → IsOneOf kind w next c → StandsForOneState kind Keeps s after c
    one_by c one = ⊎_elim (λ was. inl (stands_by w s keeps c was)) (λ is. inr (stands_by next after then c is)) one

    pub leaves_states : (old new : DiskView) → LeavesOnly old new (IsOneOf kind w next)
        → LeavesOnly old new (StandsForOneState kind Keeps s after)
    leaves_states old new run = leaves_weaker old new (IsOneOf kind w next) (StandsForOneState kind Keeps s after)
        one_by run

    pub reads_states : (disk : DiskView) → Reads disk (IsOneOf kind w next)
        → Reads disk (StandsForOneState kind Keeps s after)
    reads_states disk reads = record { image = reads.image; told = reads.told; has = one_by reads.image reads.has }

  -- a store in the making
  module _ (root : R) (first : S) (keeps : Keeps [] root first) where
    pub begun_states : (c : Image) → IsBlankOrNew kind root c → IsBlankOrFirst kind Keeps first c
    begun_states c made = ⊎_elim (λ blank. inl blank) (λ is. inr (stands_by (written_record root []) first keeps c is))
        made

    pub leaves_begun : (old new : DiskView) → LeavesOnly old new (λ i. old.may_leave i ⊎ IsBlankOrNew kind root i)
        → LeavesOnly old new (λ i. old.may_leave i ⊎ IsBlankOrFirst kind Keeps first i)
    leaves_begun old new run = leaves_weaker old new (λ i. old.may_leave i ⊎ IsBlankOrNew kind root i)
        (λ i. old.may_leave i ⊎ IsBlankOrFirst kind Keeps first i)
        (λ i either. ⊎_elim (λ was. inl was) (λ made. inr (begun_states i made)) either) run

    pub reads_begun : (old new : DiskView) → Reads new (λ i. old.may_leave i ⊎ IsBlankOrNew kind root i)
        → Reads new (λ i. old.may_leave i ⊎ IsBlankOrFirst kind Keeps first i)
    reads_begun old new reads =
        record {
          image = reads.image;
          told = reads.told;
          has = ⊎_elim (λ was. inl was) (λ made. inr (begun_states reads.image made)) reads.has;
        }

    pub serves_first : {D : Type 0} {g : _} (view : D → DiskView) (store : Store D g) (now : R) → now ≡ root
        → RestsWith view kind store (written_record root []) → ServesState kind Keeps view store now first
    serves_first view store now is rests = record {
      pages = [];
      rests = subst (λ (r : R). RestsWith view kind store (written_record r [])) (sym is) rests;
      keeps = subst (λ (r : R). Keeps [] r first) (sym is) keeps;
    }

  -- a value that serves a state is at rest with what stands for it
  pub serves_for_good : {D : Type 0} {g : _} (view : D → DiskView) (store : Store D g) (root : R) (s : S)
      → ServesState kind Keeps view store root s → IsAtRest (view (store_disk store)) (StandsForState kind Keeps s)
  serves_for_good view store root s serves =
      let rest = rest_for_good view kind store (written_record root serves.pages) serves.rests in
      record {
        image = rest.image;
        told = rest.told;
        only = rest.only;
        has = stands_by (written_record root serves.pages) s serves.keeps rest.image rest.has;
      }

  -- a store that was opened serves what the image stood for
  pub serves_opened : {D : Type 0} {g : _} (view : D → DiskView) (store : Store D g) (root : R) (s : S) (c : Image)
      → (stands : StandsForState kind Keeps s c) → (root ≡ stands.w.root) × RestsWith view kind store stands.w
      → ServesState kind Keeps view store root s
  serves_opened view store root s c stands opened = record {
    pages = stands.w.pages;
    rests = subst (λ (r : R). RestsWith view kind store (written_record r stands.w.pages)) (sym opened.0) opened.1;
    keeps = subst (λ (r : R). Keeps stands.w.pages r s) (sym opened.0) stands.keeps;
  }
