-- Pages that are kept, as one is used, added, or staged below.
use mathlib.Core.HLevel.{is_prop→PathP}
use Rattle.std.proofs.Common.{arith, ◌≡◌, ◌⊎◌, ◌<◌, ◌-◌, ◌++◌, ◌∷◌, [], ℕ, Bool, nat_eq, List, length, All, Contains}
use Rattle.std.proofs.Common.{Option, Some, None, Result, Ok, Err, OnOk, OnErr, option_map, get_or, slice_get, refl}
use Rattle.std.proofs.Common.{sym, ap, subst, ◌∙◌, inl, inr}
use Rattle.std.specs.Global.{Box}
use Rattle.std.specs.Map.{lookup}
use Rattle.std.proofs.lemmas.Bool.{eqb-true}
use Rattle.std.proofs.lemmas.List.{length-append, get_or_append_left}
use Rattle.std.proofs.lemmas.List.Elements.{All-contains, All-contains_itself}
use Rattle.std.proofs.lemmas.Option.{slice_get-get_or, slice_get_within, get_or_from_slice_get}
use Rattle.lru.specs.LruCache.{LruCache, lru_cache, promoted, put_entries}
use Rattle.lru.proofs.CallerLemmas.{Contains-lookup, Contains-promoted, Contains-put_entries}
use Rattle.tw_disk.specs.Image.{Page, Image, page_at}
use Rattle.tw_disk.specs.declared.limits.TheConstants.{FIRST_PAGE}
use Rattle.tw_disk.specs.Keeping.{IsKeptPageOf, ArePagesOf, AddsAtMost}

-- what holds of each element of a list holds of those of any list within it
All-within : {X : Type 0} (P : X → Type 0) (more less : List X) → ((x : X) → Contains less x → Contains more x)
    → All P more → All P less
All-within P more less within all k d lt = All-contains P more _ all (within _ (All-contains_itself less k d lt))

-- a look-up changes the order of use alone
pub AreOf-used : (list : Option Image) (kept used : LruCache ℕ (Box Page)) (test : ℕ → Bool)
    → ArePagesOf list kept.entries
    → used ≡ lru_cache (promoted test kept.entries) kept.cap → ArePagesOf list used.entries
AreOf-used list kept used test are order = rw order (λ pages told. All-within (IsKeptPageOf pages) kept.entries
    (promoted test kept.entries) (Contains-promoted test kept.entries) (are pages told))

-- a page that is found is the one of its number
pub AreOf-lookup : (list : Option Image) (kept : List (ℕ × Box Page)) (number : ℕ) (page : Box Page)
    → ArePagesOf list kept
    → lookup (nat_eq number) kept ≡ Some page → (pages : Image) → list ≡ Some pages → page.value ≡ page_at pages
    (number - FIRST_PAGE)
AreOf-lookup list kept number page are found pages told =
    let entry = Contains-lookup (nat_eq number) kept page found in
    let is : slice_get pages (entry.0 - FIRST_PAGE) ≡ Some page.value = All-contains (IsKeptPageOf pages) kept
    (entry.0, page) (are pages told) entry.1 in
    let same : number ≡ entry.0 = eqb-true number entry.0 entry.2 in
    sym (get_or_from_slice_get pages (number - FIRST_PAGE) page.value [] (rw same is))

-- a page that is staged is behind all others
IsPageOf-staged : (pages : Image) (page : Page) (e : ℕ × Box Page) → IsKeptPageOf pages e
    → IsKeptPageOf (pages ++ page ∷ []) e
IsPageOf-staged pages page e is =
    let at = e.0 - FIRST_PAGE in
    let within : at < length pages = slice_get_within pages at e.1.value is in
    slice_get-get_or (pages ++ page ∷ []) at [] (omega (arith, within, length-append pages (page ∷ [])))
    ∙ ap (λ p. Some p) (get_or_append_left pages (page ∷ []) [] at within ∙ get_or_from_slice_get pages at e.1.value []
    is)

-- so all that are kept are right still
AreOf-staged : (list : Option Image) (kept : List (ℕ × Box Page)) (page : Page) → ArePagesOf list kept
    → ArePagesOf (option_map (λ pages. pages ++ page ∷ []) list) kept
AreOf-staged None kept page are pages told = absurd cc
AreOf-staged (Some below) kept page are pages told =
    let more : below ++ page ∷ [] ≡ pages = cc in
    λ k d lt. subst (λ all. IsKeptPageOf all (get_or kept k d)) more (IsPageOf-staged below page (get_or kept k d)
    (are below refl k d lt))

-- whether it is staged or there is no memory, those that are kept are right
pub AreOf-after_stage : {V E : Type 0} (old new : Option Image) (kept : List (ℕ × Box Page)) (page : Page)
    (result : Result V E)
    → OnOk result (new ≡ option_map (λ pages. pages ++ page ∷ []) old) → OnErr result (new ≡ old) → ArePagesOf old kept
    → ArePagesOf new kept
AreOf-after_stage old new kept page (Ok number) staged as_before are = rw staged (AreOf-staged old kept page are)
AreOf-after_stage old new kept page (Err refused) staged as_before are = rw as_before are

-- each entry after a put was there, or is the one that was put
adds-put_entries : (old : LruCache ℕ (Box Page)) (number : ℕ) (page : Box Page) (e : ℕ × Box Page)
    → Contains (put_entries nat_eq old number page) e
    → Contains old.entries e ⊎ ((e.0 ≡ number) × (e.1.value ≡ page.value))
adds-put_entries old number page e is = elim (Contains-put_entries nat_eq old number page e is) [
  | inl was ↦ inl was
  | inr one ↦ inr (
    elim one.1 [
      | inl same ↦ same
      | inr found ↦ sym (eqb-true number e.0 found.2)
    ],
    ap (λ b. b.value) one.0,
  )
]

-- putting a page adds at most that one
pub adds-put : {V E : Type 0} (old new : LruCache ℕ (Box Page)) (number : ℕ) (page : Box Page) (result : Result V E)
    → OnOk result (new ≡ lru_cache (put_entries nat_eq old number page) old.cap) → OnErr result (new ≡ old)
    → AddsAtMost old.entries new.entries number page.value
adds-put old new number page (Ok was) put kept =
    let entries : new.entries ≡ put_entries nat_eq old number page = ap (λ c. c.entries) put in
    rw entries (λ k d lt. adds-put_entries old number page _ (All-contains_itself (put_entries nat_eq old number page) k
    d lt))
adds-put old new number page (Err refused) put kept = rw kept (λ k d lt. inl (All-contains_itself old.entries k d lt))

-- it leaves the room for pages as it was
pub room-put : {V E : Type 0} (old new : LruCache ℕ (Box Page)) (number : ℕ) (page : Box Page) (result : Result V E)
    → OnOk result (new ≡ lru_cache (put_entries nat_eq old number page) old.cap) → OnErr result (new ≡ old)
    → new.cap ≡ old.cap
room-put old new number page (Ok was) put kept = ap (λ c. c.cap) put
room-put old new number page (Err refused) put kept = ap (λ c. c.cap) kept
