-- What is opened of an image.
use Rattle.std.proofs.Common.{◌≡◌, ℕ, List, [], ◌++◌, refl, ap, sym, ◌∙◌, subst, inr, ⊎_elim}
use Rattle.std.proofs.lemmas.List.{append-nil}
use Rattle.std.specs.Option.{option_map}
use Rattle.std.specs.Prelude.{Option, Some}
use Rattle.tw_disk.specs.Image.{Image}
use Rattle.tw_disk.specs.Disk.{DiskView, IsAtRest}
use Rattle.tw_pages.specs.StoreValue.{IsKept, opening_of, staged_of, store_disk, store_root, store_slot}
use Rattle.tw_pages.specs.Same.{store_list, store_pages}
use Rattle.tw_pages.specs.Store.{Opening, OpensAs, used_of}
use Rattle.tw_pages.specs.declared.open.StoreFault.{StoreFault}
use Rattle.tw_pages.specs.declared.open.StoreFault.TheVariants.{NotAStore}
use Rattle.tw_pages.specs.declared.store.Store.{Store}
use Rattle.tw_pages.proofs.Once.{opens_once}
use Rattle.tw_pages.proofs.NotRefused.{not_refused}
use Rattle.tw_pages.proofs.StillKept.{kept_opens}
use Rattle.tw_pages.specs.Records.{HasRoot, IsNotOpenedFor, IsOnce, IsWritten, RecordKind, Written, written_record}
use Rattle.tw_pages.specs.Rests.{HasPages, RestsWith}

module _ {D R : Type 0} {g : _} (view : D → DiskView) (kind : RecordKind R) (store : Store D g) (c : Image)
    (at : IsAtRest (view (store_disk store)) (λ i. (i ≡ c) × IsKept store i))
    (root : List ℕ) (root_is : root ≡ store_root store) (used : ℕ) (counted : used ≡ used_of (opening_of store c))
    (generation : ℕ) (generation_is : generation ≡ store.generation) where
  abbrev here : Opening
  here = opening_of store c

  kept : IsKept store c
  kept = subst (λ (i : Image). IsKept store i) at.has.0 at.has.1

  opens : OpensAs here c
  opens = kept_opens view store c kept

  told_still : (view (store_disk store)).content ≡ Some c
  told_still = at.told ∙ ap (λ (i : Image). Some i) at.has.0

  pub stable : IsAtRest (view (store_disk store)) (λ i. i ≡ c)
  stable = record { image = at.image; told = at.told; only = at.only; has = at.has.0 }

  rests_at : (w : Written R) → HasPages kind store w c → RestsWith view kind store w
  rests_at w has =
      record {
        image = at.image;
        told = at.told;
        only = at.only;
        has = subst (λ (i : Image). HasPages kind store w i) (sym at.has.0) has;
      }

  -- ---- the root record is none

  module _ (none : (r : R) → root ≡ kind.bytes r → kind.May used generation r → ⊥) where
    no_root : (r : R) → HasRoot kind here r → ⊥
    no_root r has = none r (root_is ∙ has.spelled) (subst (λ n. kind.May n generation r) (sym counted)
        (subst (λ n. kind.May (used_of here) n r) (sym generation_is) has.may))

    pub refused : IsNotOpenedFor kind c (NotAStore (store_slot store))
    refused = inr (here, opens, no_root, refl)

    pub none_written : (w : Written R) → IsWritten kind w c → ⊥
    none_written w is = no_root w.root (subst (λ o. HasRoot kind o w.root) (opens_once is.opening here c is.opens opens)
        is.has)

  -- ---- the root record is this one

  module _ (r : R) (is : root ≡ kind.bytes r) (may : kind.May used generation r) where
    has_root : HasRoot kind here r
    has_root =
        record {
          spelled = sym root_is ∙ is;
          may = subst (λ n. kind.May n store.generation r) counted (subst (λ n. kind.May used n r) generation_is may);
        }

    pub opens_with : IsWritten kind (written_record r here.pages) c
    opens_with = record { opening = here; opens = opens; has = has_root; pages_are = refl }

    pub rests : RestsWith view kind store (written_record r here.pages)
    rests = rests_at (written_record r here.pages) (record { kept = kept; has = has_root; pages_are = refl })

    pub list : staged_of store ≡ [] → store_list view store ≡ Some here.pages
    list clean =
        ap (λ (o : Option Image). option_map (store_pages store) o) told_still
        ∙ ap (λ (staged : Image). Some (here.pages ++ staged)) clean
        ∙ ap (λ (pages : Image). Some pages) (append-nil here.pages)

    pub never_refused : (fault : StoreFault) → IsNotOpenedFor kind c fault → ⊥
    never_refused fault why = ⊎_elim (not_refused here c opens fault)
        (λ other. other.2 r (subst (λ o. HasRoot kind o r) (opens_once here other.0 c opens other.1) has_root)) why

    pub found : IsOnce kind → (w : Written R) → IsWritten kind w c → (r ≡ w.root) × RestsWith view kind store w
    found once w theirs =
        let same = opens_once theirs.opening here c theirs.opens opens in
        let has = subst (λ (o : Opening). HasRoot kind o w.root) same theirs.has in
        let pages = sym (ap (λ (o : Opening). o.pages) same) ∙ theirs.pages_are in (
          once here.root (used_of here) here.generation r w.root has_root.spelled has_root.may has.spelled has.may,
          rests_at w (record { kept = kept; has = has; pages_are = pages }),
        )
