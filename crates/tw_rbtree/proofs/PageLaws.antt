-- The tree pages that are found, and where a question leads in one.
use Rattle.std.proofs.Common.{◌≡◌, ℕ, suc, zero, ◌+◌, ◌<◌, ◌≤◌, List, [], ◌∷◌, drop, length, Bool, true, false, refl}
use Rattle.std.proofs.Common.{ap, sym, ◌∙◌, subst, arith, ◌⊎◌, inl, inr, slice_get, ◌-◌}
use Rattle.std.specs.Prelude.{◌&&◌, Option, Some, None, if◌then◌else◌}
use Rattle.std.proofs.lemmas.Option.{none-some, same_Some}
use Rattle.tw_base.specs.declared.history.thread.Entry.{Entry}
use Rattle.tw_base.specs.declared.history.tree_proof.Ask.{Ask}
use Rattle.tw_base.specs.history.Ways.{has_asked_key, is_left}
use Rattle.tw_disk.specs.Found.{Found, bytes_in, spelled, when, ◌>>=◌}
use Rattle.tw_disk.specs.Found.Found.{Is, Bad}
use Rattle.tw_disk.specs.Image.{Image, page_at}
use Rattle.tw_disk.proofs.FoundLaws.{bytes_in-out, bytes_in-within, is_on, same_found}
use Rattle.tw_rbnode.specs.Page.{TreePage}
use Rattle.tw_rbnode.proofs.PageOnce.{once}
use Rattle.tw_rbnode.specs.declared.node.Found.{Found as Spot}
use Rattle.tw_rbnode.specs.declared.node.Found.TheVariants.{At, Between}
use Rattle.tw_rbtree.specs.declared.seeking.Sought.{Sought}
use Rattle.tw_base.specs.declared.kinds.limits.TheConstants.{PAGE_SIZE}
use Rattle.tw_base.specs.format.PageBytes.{IsPageOf}
use Rattle.tw_disk.proofs.SpelledLaws.{Spelt, is-spelled, page-is, spelled-bad}
use Rattle.tw_rbnode.specs.NodeBytes.{Held, MayStand, fields_of, page_node_codec}
use Rattle.tw_rbnode.specs.Tests.{may_stand, page_of}
use Rattle.tw_rbnode.proofs.NodeCodecs.{node-lawful}
use Rattle.tw_rbnode.proofs.Tests.{passed-stands, stands-passed}
use Rattle.tw_rbtree.specs.Reading.{IsPageAt, child_in, fits, is_above, is_below, lie_between, node_from, node_in}
use Rattle.tw_rbtree.specs.Ways.{seek}

module _ (dig : List ℕ → List ℕ) where
  pub bytes-are : (page : ℕ) (bytes : List ℕ) (p : TreePage) → MayStand dig page p → IsPageOf page_node_codec bytes
      (fields_of p) → node_from dig page bytes ≡ Is p
  unfolding node_from
  bytes-are page bytes p stands is =
      let own = stands-passed dig page p stands in
      is_on (spelled page PAGE_SIZE page_node_codec bytes) (λ f. when (may_stand dig page f) page (page_of f))
      (fields_of p) (page-is page page_node_codec node-lawful bytes (fields_of p) is)
      ∙ ap (λ (b : Bool). when b page (page_of (fields_of p))) own.1 ∙ ap (λ (q : TreePage). Is q) own.0

  pub bytes-none : (page : ℕ) (bytes : List ℕ) → ((p : TreePage) → MayStand dig page p → IsPageOf page_node_codec bytes
      (fields_of p) → ⊥) → node_from dig page bytes ≡ Bad page
  unfolding node_from
  bytes-none page bytes none = by (spelled page PAGE_SIZE page_node_codec bytes) refl
    where
      test : (f : ℕ × Held) → Spelt PAGE_SIZE page_node_codec bytes f → (b : Bool) → may_stand dig page f ≡ b
          → when b page (page_of f) ≡ Bad page
      test f spelt false e = refl
      test f spelt true e =
          let own = passed-stands dig page f spelt.fits e in
          absurd (none (page_of f) own.0 (subst (λ (g : ℕ × Held). IsPageOf page_node_codec bytes g) (sym own.1)
          (record { bytes = spelt.bytes_are; fits = spelt.fits })))

      by : (found : Found (ℕ × Held)) → spelled page PAGE_SIZE page_node_codec bytes ≡ found
          → (found >>= (λ f. when (may_stand dig page f) page (page_of f))) ≡ Bad page
      by (Bad q) e = ap (λ (s : Found (ℕ × Held)). s >>= (λ f. when (may_stand dig page f) page (page_of f)))
          (sym e ∙ spelled-bad page PAGE_SIZE page_node_codec node-lawful bytes q e)
      by (Is f) e = test f (is-spelled page PAGE_SIZE page_node_codec node-lawful bytes f e) (may_stand dig page f) refl

  pub are-bytes : (page : ℕ) (bytes : List ℕ) (p : TreePage) → node_from dig page bytes ≡ Is p → MayStand dig page p
      × IsPageOf page_node_codec bytes (fields_of p)
  unfolding node_from
  are-bytes page bytes p found = by (spelled page PAGE_SIZE page_node_codec bytes) refl found
    where
      test : (f : ℕ × Held) → Spelt PAGE_SIZE page_node_codec bytes f → (b : Bool) → may_stand dig page f ≡ b
          → when b page (page_of f) ≡ Is p → MayStand dig page p × IsPageOf page_node_codec bytes (fields_of p)
      test f spelt false e is = cc
      test f spelt true e is =
          let own = passed-stands dig page f spelt.fits e in
          subst (λ (q : TreePage). MayStand dig page q × IsPageOf page_node_codec bytes (fields_of q))
          (same_found (page_of f) p is) (
            own.0,
            subst (λ (g : ℕ × Held). IsPageOf page_node_codec bytes g) (sym own.1)
                (record { bytes = spelt.bytes_are; fits = spelt.fits }),
          )

      by : (s : Found (ℕ × Held)) → spelled page PAGE_SIZE page_node_codec bytes ≡ s
          → (s >>= (λ f. when (may_stand dig page f) page (page_of f))) ≡ Is p → MayStand dig page p
          × IsPageOf page_node_codec bytes (fields_of p)
      by (Bad q) e is = cc
      by (Is f) e is = test f (is-spelled page PAGE_SIZE page_node_codec node-lawful bytes f e) (may_stand dig page f)
          refl is

  module _ (ps : Image) where
    pub one_page : (page : ℕ) (p q : TreePage) → IsPageAt dig ps page p → IsPageAt dig ps page q → p ≡ q
    one_page page p q is other = once _ p q is.may_stand.node other.may_stand.node is.bytes other.bytes

    -- the page that stands there is found
    pub root-is : (page : ℕ) (p : TreePage) → IsPageAt dig ps page p → node_in dig ps page ≡ Is p
    unfolding node_in
    root-is page p is =
        is_on (bytes_in ps page) (node_from dig page) (page_at ps (page - 4)) (bytes_in-within ps page is.low is.below)
        ∙ bytes-are page (page_at ps (page - 4)) p is.may_stand is.bytes

    -- and what is found stands there
    pub is-root : (page : ℕ) (p : TreePage) → node_in dig ps page ≡ Is p → IsPageAt dig ps page p
    unfolding node_in
    is-root page p found = by found (let cases : ((page < 4) ⊎ (4 + length ps ≤ page))
        ⊎ ((4 ≤ page) × (page < 4 + length ps)) = grind arith in cases)
      where
        by : (bytes_in ps page >>= node_from dig page) ≡ Is p → ((page < 4) ⊎ (4 + length ps ≤ page))
            ⊎ ((4 ≤ page) × (page < 4 + length ps)) → IsPageAt dig ps page p
        by found (inl out) = absurd (let bad : Bad page ≡ Is p =
            sym (ap (λ (f : Found (List ℕ)). f >>= node_from dig page) (bytes_in-out ps page out)) ∙ found in cc)
        by found (inr within) =
            let stands = are-bytes page (page_at ps (page - 4)) p
            (sym (is_on (bytes_in ps page) (node_from dig page) (page_at ps (page - 4))
            (bytes_in-within ps page within.0 within.1)) ∙ found) in
            record { low = within.0; below = within.1; may_stand = stands.0; bytes = stands.1 }

    pub child-is : (level : ℕ) (low high : Option Entry) (page : ℕ) (p : TreePage) → IsPageAt dig ps page p
        → fits level low high p ≡ true → child_in dig ps level low high page ≡ Is p
    unfolding child_in
    child-is level low high page p is fit =
        is_on (node_in dig ps page) (λ (q : TreePage). when (fits level low high q) page q) p (root-is page p is)
        ∙ ap (λ (b : Bool). when b page p) fit

    -- a page that is found is tried
    pub child-tried : (level : ℕ) (low high : Option Entry) (page : ℕ) (p : TreePage) → node_in dig ps page ≡ Is p
        → child_in dig ps level low high page ≡ when (fits level low high p) page p
    unfolding child_in
    child-tried level low high page p found = is_on (node_in dig ps page)
        (λ (q : TreePage). when (fits level low high q) page q) p found

-- a list from an index on
drop-here : {X : Type 0} (xs : List X) (i : ℕ) (x : X) → slice_get xs i ≡ Some x → drop i xs ≡ x ∷ drop (suc i) xs
drop-here [] i x e = absurd (none-some x e)
drop-here (y ∷ xs) zero x e = ap (λ (z : _). z ∷ xs) (same_Some _ _ e)
drop-here (y ∷ xs) (suc i) x e = drop-here xs i x e

-- the entry of the slot behind a place
drop-at : {X : Type 0} (xs : List X) (i : ℕ) (x : X) → slice_get xs (i + 1 - 1) ≡ Some x
    → drop i xs ≡ x ∷ drop (i + 1) xs
drop-at xs i x e =
    drop-here xs i x (ap (slice_get xs) (let s : i ≡ i + 1 - 1 = omega arith in s) ∙ e)
    ∙ ap (λ (n : ℕ). x ∷ drop n xs) (let s : suc i ≡ i + 1 = omega arith in s)

pub drop-past : {X : Type 0} (xs : List X) (i : ℕ) → length xs ≤ i → drop i xs ≡ []
drop-past [] zero h = refl
drop-past [] (suc i) h = refl
drop-past (x ∷ xs) zero h = absurd (omega (arith, h))
drop-past (x ∷ xs) (suc i) h = drop-past xs i (omega (arith, h))

-- an entry more lies between
pub between-on : (low high : Option Entry) (es : List Entry) (i : ℕ) (e : Entry) → slice_get es (i + 1 - 1) ≡ Some e
    → (b : Bool) → (is_above low e && is_below high e) ≡ b
    → lie_between low high (drop i es) ≡ (b && lie_between low high (drop (i + 1) es))
between-on low high es i e is b test = ap (lie_between low high) (drop-at es i e is)
    ∙ ap (λ (c : Bool). c && lie_between low high (drop (i + 1) es)) test

-- the way in a page goes on to the right, stops at an entry, or meets the asked one
module _ (ask : Ask) (low high : Option Entry) (es : List Entry) (i : ℕ) (e : Entry)
    (is : slice_get es (i + 1 - 1) ≡ Some e) where
  seek-here : seek ask i low high (drop i es) ≡ seek ask i low high (e ∷ drop (i + 1) es)
  seek-here = ap (seek ask i low high) (drop-at es i e is)

  abbrev seek_by : (meets left : Bool) → Sought
  seek_by meets left =
      if meets then record { at = At (i + 1); low = low; met = Some e; high = high }
      else (if left then record { at = Between i; low = low; met = None; high = Some e } else seek ask (i + 1) (Some e)
      high (drop (i + 1) es))

  pub seek-meets : has_asked_key ask e ≡ true → seek ask i low high (drop i es)
      ≡ record { at = At (i + 1); low = low; met = Some e; high = high }
  unfolding seek
  seek-meets meets = seek-here ∙ ap (λ (b : Bool). seek_by b (is_left ask e)) meets

  pub seek-stops : has_asked_key ask e ≡ false → is_left ask e ≡ true → seek ask i low high (drop i es)
      ≡ record { at = Between i; low = low; met = None; high = Some e }
  unfolding seek
  seek-stops meets left = seek-here ∙ ap (λ (b : Bool). seek_by b (is_left ask e)) meets ∙ ap (seek_by false) left

  pub seek-passes : has_asked_key ask e ≡ false → is_left ask e ≡ false → seek ask i low high (drop i es) ≡ seek ask
      (i + 1) (Some e) high (drop (i + 1) es)
  unfolding seek
  seek-passes meets left = seek-here ∙ ap (λ (b : Bool). seek_by b (is_left ask e)) meets ∙ ap (seek_by false) left

pub seek-ends : (ask : Ask) (low high : Option Entry) (es : List Entry) (i : ℕ) → length es ≤ i
    → seek ask i low high (drop i es) ≡ record { at = Between i; low = low; met = None; high = high }
unfolding seek
seek-ends ask low high es i past = ap (seek ask i low high) (drop-past es i past)

-- the place and the slot to which a question leads are there
abbrev pub IsSpotOf : (base count : ℕ) → Spot → Type 0
IsSpotOf base count (At slot) = (base < slot) × (slot ≤ base + count)
IsSpotOf base count (Between place) = (base ≤ place) × (place ≤ base + count)

spot-on : (base count : ℕ) (spot : Spot) → IsSpotOf (base + 1) count spot → IsSpotOf base (suc count) spot
spot-on base count (At slot) h = (omega (arith, h.0), omega (arith, h.1))
spot-on base count (Between place) h = (omega (arith, h.0), omega (arith, h.1))

pub seek-there : (ask : Ask) (base : ℕ) (low high : Option Entry) (es : List Entry) → IsSpotOf base (length es)
    (seek ask base low high es).at
unfolding seek
seek-there ask base low high [] = (omega arith, omega arith)
seek-there ask base low high (e ∷ es) = by (seek-there ask (base + 1) (Some e) high es) (has_asked_key ask e)
    (is_left ask e)
  where
    rest : Sought
    rest = seek ask (base + 1) (Some e) high es

    by : IsSpotOf (base + 1) (length es) rest.at → (meets left : Bool) → IsSpotOf base (suc (length es))
        (if meets then record { at = At (base + 1); low = low; met = Some e; high = high }
        else (if left then record { at = Between base; low = low; met = None; high = Some e } else rest)).at
    by below true left = (omega arith, omega arith)
    by below false true = (omega arith, omega arith)
    by below false false = spot-on base (length es) rest.at below
