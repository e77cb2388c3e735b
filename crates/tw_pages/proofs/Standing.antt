-- What an image opens with: one record and its pages, or for one reason none.
use Rattle.std.proofs.Common.{◌≡◌, ℕ, ◌+◌, ◌^◌, ◌≤◌, List, length, ap, arith, sym, ◌∙◌, subst, inl, inr, ⊎_elim, refl}
use Rattle.tw_disk.specs.Image.{Image}
use Rattle.tw_pages.specs.Store.{Opening, OpensAs, used_of}
use Rattle.tw_pages.specs.declared.open.StoreFault.{StoreFault}
use Rattle.tw_pages.specs.declared.open.StoreFault.TheVariants.{NotAStore}
use Rattle.tw_pages.proofs.Bodies.{used_fits}
use Rattle.tw_pages.proofs.Once.{opens_once}
use Rattle.tw_pages.proofs.NotRefused.{not_refused, refused_once}
use Rattle.tw_pages.specs.Records.{HasRoot, IsNotOpenedFor, IsOnce, IsServed, IsWritten, RecordKind, Served, Written}
use Rattle.tw_pages.specs.Records.Served.{Opened, Unopened}

module _ {R : Type 0} (kind : RecordKind R) where
  -- one that opens with a record is refused for no reason
  pub never_refused : (image : Image) (w : Written R) → IsWritten kind w image → (fault : StoreFault)
      → IsNotOpenedFor kind image fault → ⊥
  never_refused image w is fault why = ⊎_elim (not_refused is.opening image is.opens fault)
      (λ other. other.2 w.root (subst (λ (p : Opening). HasRoot kind p w.root)
      (opens_once is.opening other.0 image is.opens other.1) is.has)) why

  -- it isn't opened for one reason at most
  not_opened_once : (image : Image) (f g : StoreFault) → IsNotOpenedFor kind image f → IsNotOpenedFor kind image g
      → f ≡ g
  not_opened_once image f g (inl one) (inl two) = refused_once image f g one two
  not_opened_once image f g (inl one) (inr two) = absurd (not_refused two.0 image two.1 f one)
  not_opened_once image f g (inr one) (inl two) = absurd (not_refused one.0 image one.1 g two)
  not_opened_once image f g (inr one) (inr two) =
      one.3 ∙ ap (λ (o : Opening). NotAStore o.slot) (opens_once one.0 two.0 image one.1 two.1) ∙ sym two.3

  pub has_numbers : (image : Image) (w : Written R) → IsWritten kind w image → 4 + length w.pages ≤ 2 ^ 64
  has_numbers image w is =
      omega (
        arith,
        used_fits is.opening.generation (used_of is.opening) is.opening.root is.opens.stands.body.is.fits,
        ap length is.pages_are,
      )

  module _ (once : IsOnce kind) where
    -- it opens with one record and its pages
    pub written_once : (image : Image) (w v : Written R) → IsWritten kind w image → IsWritten kind v image → w ≡ v
    written_once image w v a b =
        let same = opens_once a.opening b.opening image a.opens b.opens in
        let has = subst (λ (o : Opening). HasRoot kind o w.root) same a.has in
        let root = once b.opening.root (used_of b.opening) b.opening.generation w.root v.root has.spelled has.may
        b.has.spelled b.has.may in
        let pages = sym a.pages_are ∙ ap (λ (o : Opening). o.pages) same ∙ b.pages_are in
        λ i. record { root = root i; pages = pages i }

    pub served_once : (image : Image) (one other : Served R) → IsServed kind image one → IsServed kind image other
        → one ≡ other
    served_once image (Opened w) (Opened v) a b = ap (λ (x : Written R). Opened x) (written_once image w v a b)
    served_once image (Opened w) (Unopened fault) a b = absurd (never_refused image w a fault b)
    served_once image (Unopened fault) (Opened w) a b = absurd (never_refused image w b fault a)
    served_once image (Unopened fault) (Unopened other) a b = ap (λ (f : StoreFault). Unopened f)
        (not_opened_once image fault other a b)

-- an image that opens with a record of one kind is opened with none of another, where no bytes are a record of both
pub other_kind : {R Q : Type 0} (kind : RecordKind R) (other : RecordKind Q)
    → ((used generation : ℕ) (r : R) (q : Q) → kind.May used generation r → other.May used generation q
    → kind.bytes r ≡ other.bytes q → ⊥)
    → (image : Image) (w : Written R) → IsWritten kind w image → (why : StoreFault) × IsNotOpenedFor other image why
other_kind {R} {Q} kind other apart image w is =
    let none : (q : Q) → HasRoot other is.opening q → ⊥ = λ q has. apart (used_of is.opening) is.opening.generation
    w.root q is.has.may has.may (sym is.has.spelled ∙ has.spelled) in
    (NotAStore is.opening.slot, inr (is.opening, is.opens, none, refl))
