-- From what a store says of its images to the record and the pages that they open with.
use Rattle.std.proofs.Common.{◌≡◌, ℕ, ◌+◌, List, [], ◌++◌, length, ap, sym, ◌∙◌, subst, inl, inr, ◌⊎◌, ⊎_elim}
use Rattle.std.proofs.Common.{Bool}
use Rattle.std.specs.Prelude.{Option, Some}
use Rattle.std.specs.Option.{option_map}
use Rattle.std.proofs.lemmas.List.{append-nil}
use Rattle.tw_disk.specs.Image.{Image}
use Rattle.tw_disk.specs.Disk.{DiskView, IsAtRest, LeavesOnly, Reads}
use Rattle.tw_disk.proofs.Moments.{goes_on, leaves_weaker}
use Rattle.tw_pages.specs.StoreValue.{IsKept, next_opening, opening_of, staged_of, store_disk}
use Rattle.tw_pages.specs.Same.{IsSameStore, store_count, store_list, store_pages}
use Rattle.tw_pages.specs.Store.{IsAbove, Opening, OpensAs, OpensAsEither}
use Rattle.tw_pages.specs.declared.store.Store.{Store}
use Rattle.tw_pages.proofs.StillKept.{kept_opens, same_leaves as store_leaves, same_opens}
use Rattle.tw_pages.specs.Records.{HasRoot, IsOneOf, IsWritten, RecordKind, Written, written_record}
use Rattle.tw_pages.specs.Rests.{HasPages, RestsWith}

some_same : {x y : Image} → Some x ≡ Some y → x ≡ y
some_same e = cc

module _ {D R : Type 0} {g : _} (view : D → DiskView) (kind : RecordKind R) where
  -- an image that opens as the store opens with what the store keeps
  pub opens_written : (store : Store D g) (w : Written R) (image c : Image) → HasPages kind store w image
      → OpensAs (opening_of store image) c → IsWritten kind w c
  opens_written store w image c has opens =
      record { opening = opening_of store image; opens = opens; has = has.has; pages_are = has.pages_are }

  -- and so does the content of its disk, where that is at rest, and each image that a crash leaves
  pub content_written : (store : Store D g) (w : Written R) → (rest : RestsWith view kind store w)
      → IsWritten kind w rest.image
  content_written store w rest = opens_written store w rest.image rest.image rest.has
      (kept_opens view store rest.image rest.has.kept)

  pub rest_written : (store : Store D g) (w : Written R) → RestsWith view kind store w → (c : Image)
      → (view (store_disk store)).may_leave c → IsWritten kind w c
  rest_written store w rest c left = subst (λ (i : Image). IsWritten kind w i) (sym (rest.only c left))
      (content_written store w rest)

  pub rest_for_good : (store : Store D g) (w : Written R) → RestsWith view kind store w
      → IsAtRest (view (store_disk store)) (IsWritten kind w)
  rest_for_good store w rest =
      record { image = rest.image; told = rest.told; only = rest.only; has = content_written store w rest }

  -- the pages that a store at rest tells are those, where nothing is staged
  pub told_list : (store : Store D g) (w : Written R) → RestsWith view kind store w → staged_of store ≡ []
      → store_list view store ≡ Some w.pages
  told_list store w rest clean =
      ap (λ (o : Option Image). option_map (store_pages store) o) rest.told
      ∙ ap (λ (staged : Image). Some ((opening_of store rest.image).pages ++ staged)) clean
      ∙ ap (λ (qs : Image). Some qs) (append-nil (opening_of store rest.image).pages)
      ∙ ap (λ (qs : Image). Some qs) rest.has.pages_are

  -- a store that was only read and staged on is at rest with the same
  same_kept : (old mid : Store D g) → IsSameStore view old mid → (c : Image) → IsKept old c → IsKept mid c
  same_kept old mid same c kept =
      subst (λ (b : Bool). IsAbove b (opening_of mid c) c) (sym same.spare)
      (subst (λ (o : Opening). IsAbove old.is_spare_open o c) (sym (same_opens view old mid same c)) kept)

  pub still_rests : (old mid : Store D g) (w : Written R) → IsSameStore view old mid → RestsWith view kind old w
      → RestsWith view kind mid w
  still_rests old mid w same rest =
      let o = sym (same_opens view old mid same rest.image) in
      record {
        image = rest.image;
        told = same.disk.content ∙ rest.told;
        only = λ c left. rest.only c ((same.disk.images c).0 left);
        has = record {
          kept = same_kept old mid same rest.image rest.has.kept;
          has = subst (λ (p : Opening). HasRoot kind p w.root) o rest.has.has;
          pages_are = sym (ap (λ (p : Opening). p.pages) o) ∙ rest.has.pages_are;
        };
      }

  -- what a crash leaves since, from before it was read and staged on
  pub since_same : (only_now : (d : D) (c : Image) → (view d).left_since (view d).moment c → (view d).may_leave c)
      (old mid new : Store D g) (w : Written R) (P : Image → Type 0)
      → IsSameStore view old mid → RestsWith view kind old w → ((c : Image) → IsWritten kind w c → P c)
      → LeavesOnly (view (store_disk mid)) (view (store_disk new)) P → LeavesOnly (view (store_disk old))
      (view (store_disk new)) P
  since_same only_now old mid new w P same rest own run =
      goes_on (view (store_disk old)) (view (store_disk mid)) (view (store_disk new)) P
      (store_leaves view only_now old mid P same (λ c left. own c (rest_written old w rest c left))) run

  pub only_same : (only_now : (d : D) (c : Image) → (view d).left_since (view d).moment c → (view d).may_leave c)
      (old mid : Store D g) (w : Written R) (P : Image → Type 0)
      → IsSameStore view old mid → RestsWith view kind old w → ((c : Image) → IsWritten kind w c → P c)
      → LeavesOnly (view (store_disk old)) (view (store_disk mid)) P
  only_same only_now old mid w P same rest own = store_leaves view only_now old mid P same
      (λ c left. own c (rest_written old w rest c left))

  -- at rest over what opens as this opening, which has the record and its pages
  pub rests_with : (store : Store D g) (o : Opening) (w : Written R)
      → IsAtRest (view (store_disk store)) (λ c. IsKept store c × (opening_of store c ≡ o)) → HasRoot kind o w.root
      → o.pages ≡ w.pages → RestsWith view kind store w
  rests_with store o w rest root pages =
      let is = rest.has.1 in
      record {
        image = rest.image;
        told = rest.told;
        only = rest.only;
        has = record {
          kept = rest.has.0;
          has = subst (λ (p : Opening). HasRoot kind p w.root) (sym is) root;
          pages_are = ap (λ (p : Opening). p.pages) is ∙ pages;
        };
      }

  -- ---- a commit

  module _ (store : Store D g) (ps all : Image) (root next : R)
      (rest : RestsWith view kind store (written_record root ps)) (list : store_list view store ≡ Some all)
      (count : store_count store ≡ 4 + length all) (may : kind.May (store_count store) (store.generation + 1) next)
      (bytes : List ℕ) (bytes_are : bytes ≡ kind.bytes next) where
    kept_rest : IsAtRest (view (store_disk store)) (IsKept store)
    kept_rest = record { image = rest.image; told = rest.told; only = rest.only; has = rest.has.kept }

    abbrev opening : Opening
    opening = next_opening store bytes rest.image

    all_pages : store_pages store rest.image ≡ all
    all_pages = some_same (sym (ap (λ (o : Option Image). option_map (store_pages store) o) rest.told) ∙ list)

    next_root : HasRoot kind opening next
    next_root = record {
      spelled = bytes_are;
      may = subst (λ (used : ℕ). kind.May used (store.generation + 1) next)
          (count ∙ sym (ap (λ (qs : Image). 4 + length qs) all_pages)) may;
    }

    either : (c : Image) → OpensAsEither (opening_of store rest.image) opening c → IsOneOf kind (written_record root ps)
        (written_record next all) c
    either c opens = ⊎_elim
        (λ was. inl (opens_written store (written_record root ps) rest.image c rest.has was))
        (λ is. inr (record { opening = opening; opens = is; has = next_root; pages_are = all_pages })) opens

    pub commit_leaves : (new : Store D g) → ((q : IsAtRest (view (store_disk store)) (IsKept store))
        → LeavesOnly (view (store_disk store)) (view (store_disk new)) (OpensAsEither (opening_of store q.image)
        (next_opening store bytes q.image)))
        → LeavesOnly (view (store_disk store)) (view (store_disk new))
        (IsOneOf kind (written_record root ps) (written_record next all))
    unfolding kept_rest
    commit_leaves new run = leaves_weaker (view (store_disk store)) (view (store_disk new)) _
        (IsOneOf kind (written_record root ps) (written_record next all)) either (run kept_rest)

    pub commit_tells : (new : Store D g) → ((q : IsAtRest (view (store_disk store)) (IsKept store))
        → Reads (view (store_disk new)) (OpensAsEither (opening_of store q.image) (next_opening store bytes q.image)))
        → Reads (view (store_disk new)) (IsOneOf kind (written_record root ps) (written_record next all))
    unfolding kept_rest
    commit_tells new tells = let there = tells kept_rest in
        record { image = there.image; told = there.told; has = either there.image there.has }

    pub commit_rests : (new : Store D g) → ((q : IsAtRest (view (store_disk store)) (IsKept store))
        → IsAtRest (view (store_disk new)) (λ c. IsKept new c × (opening_of new c ≡ next_opening store bytes q.image)))
        → RestsWith view kind new (written_record next all)
    unfolding kept_rest
    commit_rests new done = rests_with new opening (written_record next all) (done kept_rest) next_root all_pages
