-- What a page tells of a head.
use Rattle.std.proofs.Common.{◌≡◌, ℕ, ◌+◌, ◌-◌, ◌<◌, ◌≤◌, List, [], ◌∷◌, ◌++◌, length, refl, ap, sym, ◌∙◌, arith, Bool}
use Rattle.std.proofs.Common.{true, false, inl, inr, ◌⊎◌, length-append}
use Rattle.std.specs.Prelude.{◌==◌, ◌&&◌, nat_lt}
use Rattle.std.specs.Str.{bytes_eq}
use Rattle.std.proofs.lemmas.Bool.{and_parts, cases_lt, eqb-true, eq-eqb, lt-ltb, ltb-true}
use Rattle.std.proofs.lemmas.List.{get_or_append_left, get_or_at}
use Rattle.std.proofs.lemmas.Slice.Eq.{bytes_eq-Decides}
use Rattle.tw_disk.specs.Image.{Image, page_at}
use Rattle.tw_disk.specs.Found.{Found, ◌>>=◌, bytes_in, spelled, when}
use Rattle.tw_disk.specs.Found.Found.{Is, Bad}
use Rattle.tw_disk.proofs.FoundLaws.{bytes_in-out, bytes_in-within, is_on, same_found}
use Rattle.tw_disk.proofs.SpelledLaws.{is-spelled, page-is}
use Rattle.tw_follow.specs.declared.head_page.HeadPage.{HeadPage}
use Rattle.tw_follow.specs.declared.root.RootRecord.{RootRecord}
use Rattle.tw_follow.specs.HeadPages.{earlier_page, head_codec, head_in, head_page_bytes, last_head_page, page_of_head}
use Rattle.tw_follow.proofs.Spelling.{head-lawful, head-step}

-- where two readings one after another find something, the first does, and the second finds it
pub record Through {X Y : Type 0} (one : Found X) (next : X → Found Y) (y : Y) : Type 0 where
  pub first : X
  pub is : one ≡ Is first
  pub then_is : next first ≡ Is y

pub through : {X Y : Type 0} (one : Found X) (next : X → Found Y) (y : Y) → (one >>= next) ≡ Is y → Through one next y
through (Is x) next y e = record { first = x; is = refl; then_is = e }
through (Bad page) next y e = absurd cc

-- what passes a test is the value itself
pub passes : {X : Type 0} (b : Bool) (page : ℕ) (x y : X) → when b page x ≡ Is y → (b ≡ true) × (x ≡ y)
passes true page x y e = (refl, same_found x y e)
passes false page x y e = absurd cc

-- a reading whose value passes a test behind it
pub tested : {X : Type 0} (one : Found X) (test : X → Bool) (page : ℕ) (y : X) → (one >>= (λ x. when (test x) page x))
    ≡ Is y → (one ≡ Is y) × (test y ≡ true)
tested one test page y e =
    let own = through one (λ x. when (test x) page x) y e in
    let passed = passes (test own.first) page own.first y own.then_is in
    (own.is ∙ ap (λ x. Is x) passed.1, ap test (sym passed.1) ∙ passed.0)

pub is_tested : {X : Type 0} (one : Found X) (test : X → Bool) (page : ℕ) (y : X) → one ≡ Is y → test y ≡ true
    → (one >>= (λ x. when (test x) page x)) ≡ Is y
is_tested one test page y is passed = is_on one (λ x. when (test x) page x) y is ∙ ap (λ (b : Bool). when b page y)
    passed

-- ---- the page of a head

-- a page of this number that tells this: its bytes are such, and the page before lies below it
pub record Tells (ps : Image) (page : ℕ) (p : HeadPage) : Type 0 where
  pub bytes : List ℕ
  pub read : bytes_in ps page ≡ Is bytes
  pub in_it : head_in page bytes ≡ Is p
  pub below : p.before < page
  pub some : 0 < p.step

pub tells : (ps : Image) (page : ℕ) (p : HeadPage) → page_of_head ps page ≡ Is p → Tells ps page p
unfolding page_of_head head_in
tells ps page p e =
    let own = through (bytes_in ps page) (head_in page) p e in
    let test = tested (spelled page 4096 head_codec own.first) (λ q. nat_lt q.before page) page p own.then_is in
    record {
      bytes = own.first;
      read = own.is;
      in_it = own.then_is;
      below = ltb-true p.before page test.1;
      some = head-step p (is-spelled page 4096 head_codec head-lawful own.first p test.0).fits;
    }

-- it is in range
pub in_range : (ps : Image) (page : ℕ) (bytes : List ℕ) → bytes_in ps page ≡ Is bytes → (4 ≤ page)
    × (page < 4 + length ps)
in_range ps page bytes is = by (cases_lt page 4) (cases_lt page (4 + length ps))
  where
    never : (page < 4) ⊎ (4 + length ps ≤ page) → (4 ≤ page) × (page < 4 + length ps)
    never out = absurd (let bad : Bad page ≡ Is bytes = sym (bytes_in-out ps page out) ∙ is in cc)

    by : (page < 4) ⊎ (4 ≤ page) → (page < 4 + length ps) ⊎ (4 + length ps ≤ page) → (4 ≤ page) × (page < 4 + length ps)
    by (inl low) b = never (inl low)
    by (inr low) (inl less) = (low, less)
    by (inr low) (inr past) = never (inr past)

pub page_in_range : (ps : Image) (page : ℕ) (p : HeadPage) → page_of_head ps page ≡ Is p → (4 ≤ page)
    × (page < 4 + length ps)
page_in_range ps page p e = let own = tells ps page p e in in_range ps page own.bytes own.read

-- more pages behind change nothing
bytes_in-more : (ps more : Image) (page : ℕ) (bytes : List ℕ) → bytes_in ps page ≡ Is bytes → bytes_in (ps ++ more) page
    ≡ Is bytes
bytes_in-more ps more page bytes is =
    let range = in_range ps page bytes is in
    bytes_in-within (ps ++ more) page range.0 (omega (arith, range.1, length-append ps more))
    ∙ ap (λ (b : List ℕ). Is b) (get_or_append_left ps more [] (page - 4) (omega (arith, range.0, range.1)))
    ∙ sym (bytes_in-within ps page range.0 range.1) ∙ is

pub page-more : (ps more : Image) (page : ℕ) (p : HeadPage) → page_of_head ps page ≡ Is p → page_of_head (ps ++ more)
    page ≡ Is p
unfolding page_of_head
page-more ps more page p e =
    let own = through (bytes_in ps page) (head_in page) p e in
    is_on (bytes_in (ps ++ more) page) (head_in page) own.first (bytes_in-more ps more page own.first own.is)
    ∙ own.then_is

-- the page that was put behind
pub page-new : (ps : Image) (p : HeadPage) → head_codec.Fits p → p.before < 4 + length ps
    → page_of_head (ps ++ head_page_bytes p ∷ []) (4 + length ps) ≡ Is p
unfolding page_of_head head_in
page-new ps p fits below =
    let page : ℕ = 4 + length ps in
    let all : Image = ps ++ head_page_bytes p ∷ [] in
    let at : page_at all (page - 4) ≡ head_page_bytes p = get_or_at ps (head_page_bytes p) [] [] (page - 4)
    (omega arith) in
    is_on (bytes_in all page) (head_in page) (head_page_bytes p)
    (bytes_in-within all page (omega arith) (omega (arith, length-append ps (head_page_bytes p ∷ [])))
    ∙ ap (λ (b : List ℕ). Is b) at)
    ∙ is_tested (spelled page 4096 head_codec (head_page_bytes p)) (λ q. nat_lt q.before page) page p
    (page-is page head_codec head-lawful (head_page_bytes p) p (record { bytes = refl; fits = fits }))
    (lt-ltb p.before page below)

-- ---- the last one, and earlier ones

abbrev is_head_of : RootRecord → HeadPage → Bool
is_head_of r p = p.step == r.head.step && bytes_eq p.auth r.head.auth

pub record IsLast (ps : Image) (r : RootRecord) (p : HeadPage) : Type 0 where
  pub there : page_of_head ps r.page ≡ Is p
  pub step : p.step ≡ r.head.step
  pub auth : p.auth ≡ r.head.auth

pub last-is : (ps : Image) (r : RootRecord) (p : HeadPage) → last_head_page ps r ≡ Is p → IsLast ps r p
unfolding last_head_page
last-is ps r p e =
    let own = tested (page_of_head ps r.page) (is_head_of r) r.page p e in
    let parts = and_parts (p.step == r.head.step) (bytes_eq p.auth r.head.auth) own.1 in
    record {
      there = own.0;
      step = eqb-true p.step r.head.step parts.0;
      auth = (bytes_eq-Decides p.auth r.head.auth).0 parts.1;
    }

pub is-last : (ps : Image) (r : RootRecord) (p : HeadPage) → IsLast ps r p → last_head_page ps r ≡ Is p
unfolding last_head_page
is-last ps r p is = is_tested (page_of_head ps r.page) (is_head_of r) r.page p is.there
    (λ i. eq-eqb p.step r.head.step is.step i && (bytes_eq-Decides p.auth r.head.auth).1 is.auth i)

pub earlier-is : (ps : Image) (page above : ℕ) (p : HeadPage) → earlier_page ps page above ≡ Is p
    → (page_of_head ps page ≡ Is p) × (p.step < above)
unfolding earlier_page
earlier-is ps page above p e = let own = tested (page_of_head ps page) (λ q. nat_lt q.step above) page p e in
    (own.0, ltb-true p.step above own.1)

pub is-earlier : (ps : Image) (page above : ℕ) (p : HeadPage) → page_of_head ps page ≡ Is p → p.step < above
    → earlier_page ps page above ≡ Is p
unfolding earlier_page
is-earlier ps page above p is low = is_tested (page_of_head ps page) (λ q. nat_lt q.step above) page p is
    (lt-ltb p.step above low)

pub earlier-below : (ps : Image) (page above : ℕ) (p : HeadPage) → earlier_page ps page above ≡ Is p → p.before < page
earlier-below ps page above p e = (tells ps page p (earlier-is ps page above p e).0).below

pub earlier-more : (ps more : Image) (page above : ℕ) (p : HeadPage) → earlier_page ps page above ≡ Is p
    → earlier_page (ps ++ more) page above ≡ Is p
earlier-more ps more page above p e = let own = earlier-is ps page above p e in is-earlier (ps ++ more) page above p
    (page-more ps more page p own.0) own.1
