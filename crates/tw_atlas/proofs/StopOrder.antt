-- Where the hops that go on from a stop stand among ordered ones: they are those from the first that isn't below the
-- stop up to
-- the next service; and where a hop has a mark, those of its service behind it have one.
use Rattle.std.proofs.Common.{◌≡◌, ◌≢◌, ℕ, suc, zero, ◌+◌, ◌<◌, ◌≤◌, List, [], ◌∷◌, length, take, get_or, Bool, true}
use Rattle.std.proofs.Common.{false, cond, Option, Some, None, refl, sym, ◌∙◌, ap, subst, arith, ltb, eqb, set}
use Rattle.std.specs.Prelude.{is_some, map}
use Rattle.std.specs.List.{AllByRecursion}
use Rattle.std.specs.List.Sorted.{IsPartitionedBy, IsStrictlySortedBy}
use Rattle.std.specs.Ordering.{is_lt, nat_cmp, ordering_reverse, ordering_then}
use Rattle.std.specs.declared.cmp.Ordering.{Ordering}
use Rattle.std.specs.declared.cmp.Ordering.TheVariants.{Less, Equal, Greater}
use Rattle.std.specs.Cmp.Lexicographic.{slice_cmp}
use Rattle.std.proofs.lemmas.Bool.{ltb-false}
use Rattle.std.proofs.lemmas.Cmp.{nat_list_cmp_total, tied_itself}
use Rattle.std.proofs.lemmas.Map.Lookups.{exact_bytes}
use Rattle.tw_base.specs.declared.history.report.Hop.{Hop}
use Rattle.tw_base.specs.declared.history.thread.Key.{Key}
use Rattle.tw_base.specs.history.Entries.{key_cmp}
use Rattle.tw_base.proofs.lemmas.history.Keys.{key_cmp_total}
use Rattle.tw_base.proofs.lemmas.history.KeyTests.{below-lt, below-other, same_key}
use Rattle.tw_atlas.specs.Reaching.{goes_on_from, source, target}
use Rattle.tw_atlas.specs.Rounds.{after_of, hop_cmp}
use Rattle.tw_atlas.proofs.Hops.{get-in, goes-on, goes-on-from}
use Rattle.tw_atlas.proofs.MarkLaws.{mark-more, mixed, mixed-get, mixed-set, or_next}
use Rattle.tw_atlas.proofs.RoundLaws.{position-none, position-some}

not-less : (x y : ℕ) → is_lt (nat_cmp x y) ≡ false → y ≤ x
not-less x y e = by (ltb x y) refl e
  where
    by : (b : Bool) → ltb x y ≡ b → is_lt (cond b Less (cond (eqb x y) Equal Greater)) ≡ false → y ≤ x
    by true is e = cc
    by false is e = ltb-false x y is

-- between a stop and a hop of its service
pub squeezed : (a stop h : Key) → is_lt (key_cmp a stop) ≡ false → is_lt (key_cmp h a) ≡ false → h.from ≡ stop.from
    → (a.from ≡ stop.from) × (stop.step ≤ a.step) × (a.step ≤ h.step)
squeezed a stop h low high same = by (slice_cmp nat_cmp a.from stop.from) refl low
  where
    alike : h.from ≡ a.from → slice_cmp nat_cmp h.from a.from ≡ Equal
    alike e = subst (λ (n : List ℕ). slice_cmp nat_cmp n a.from ≡ Equal) (sym e) (tied_itself nat_list_cmp_total a.from)

    by : (o : Ordering) → slice_cmp nat_cmp a.from stop.from ≡ o → is_lt (ordering_then o (nat_cmp a.step stop.step))
        ≡ false
        → (a.from ≡ stop.from) × (stop.step ≤ a.step) × (a.step ≤ h.step)
    by Less is e = cc
    by Equal is e =
        let name : a.from ≡ stop.from = exact_bytes a.from stop.from is in
        let tie = alike (same ∙ sym name) in (
          name,
          not-less a.step stop.step e,
          not-less h.step a.step (subst (λ (o : Ordering). is_lt (ordering_then o (nat_cmp h.step a.step)) ≡ false) tie
              high),
        )
    by Greater is e =
        let turned : slice_cmp nat_cmp stop.from a.from ≡ Less = nat_list_cmp_total.antisymm stop.from a.from
        ∙ ap ordering_reverse is in
        let below : slice_cmp nat_cmp h.from a.from ≡ Less = subst (λ (n : List ℕ). slice_cmp nat_cmp n a.from ≡ Less)
        (sym same) turned in
        absurd (let never : is_lt (ordering_then Less (nat_cmp h.step a.step)) ≡ false =
        subst (λ (o : Ordering). is_lt (ordering_then o (nat_cmp h.step a.step)) ≡ false) below high in cc)

-- ---- ordered hops

hop-less : (a b : Hop) → hop_cmp a b ≡ Less → is_lt (key_cmp (source b) (source a)) ≡ false
hop-less a b less = by (key_cmp (source a) (source b)) refl less
  where
    turned : key_cmp (source b) (source a) ≡ ordering_reverse (key_cmp (source a) (source b))
    turned = key_cmp_total.antisymm (source b) (source a)

    by : (o : Ordering) → key_cmp (source a) (source b) ≡ o → ordering_then o (key_cmp (target a) (target b)) ≡ Less
        → is_lt (key_cmp (source b) (source a)) ≡ false
    by Less is e = ap is_lt (turned ∙ ap ordering_reverse is)
    by Equal is e = ap is_lt (turned ∙ ap ordering_reverse is)
    by Greater is e = cc

pub sorted-keys : (hops : List Hop) → IsStrictlySortedBy hop_cmp hops → (i j : ℕ) (d : Hop) → i ≤ j → j < length hops
    → is_lt (key_cmp (source (get_or hops j d)) (source (get_or hops i d))) ≡ false
unfolding IsStrictlySortedBy
sorted-keys [] sorted i j d order within = absurd (omega arith)
sorted-keys (hop ∷ hops) sorted zero zero d order within = ap is_lt (same_key (source hop))
sorted-keys (hop ∷ hops) sorted zero (suc j) d order within = hop-less hop (get_or hops j d)
    (later hops j sorted.0 (omega (arith, within)))
  where
    later : (hs : List Hop) (j : ℕ) → AllByRecursion (λ (y : Hop). hop_cmp hop y ≡ Less) hs → j < length hs
        → hop_cmp hop (get_or hs j d) ≡ Less
    later [] j all within = absurd (omega arith)
    later (h ∷ hs) zero all within = all.0
    later (h ∷ hs) (suc j) all within = later hs j all.1 (omega (arith, within))
sorted-keys (hop ∷ hops) sorted (suc i) zero d order within = absurd (omega arith)
sorted-keys (hop ∷ hops) sorted (suc i) (suc j) d order within = sorted-keys hops sorted.1 i j d (omega (arith, order))
    (omega (arith, within))

-- those below a stop come first
pub partitioned : (hops : List Hop) (stop : Key) → IsStrictlySortedBy hop_cmp hops
    → IsPartitionedBy (λ hop. is_lt (key_cmp (source hop) stop)) hops
partitioned hops stop sorted i j d order within below =
    by (is_lt (key_cmp (source (get_or hops i d)) stop)) refl
  where
    by : (b : Bool) → is_lt (key_cmp (source (get_or hops i d)) stop) ≡ b
        → is_lt (key_cmp (source (get_or hops i d)) stop) ≡ true
    by true is = is
    by false is =
        let wide = below-other (source (get_or hops j d)) stop (source (get_or hops i d))
        (below-lt (source (get_or hops j d)) stop below) is in
        absurd (let never : true ≡ false = sym (ap is_lt wide) ∙ sorted-keys hops sorted i j d order within in cc)

-- ---- which marks a stop changes

or-none : (o : Option ℕ) → or_next o None ≡ o
or-none None = refl
or-none (Some k) = refl

module _ (stops : List Key) (number : ℕ) (stop : Key) (within : number < length stops)
    (is_stop : get_or stops number stop ≡ stop) where
  -- a hop that doesn't go on
  pub still-stays : (hop : Hop) → goes_on_from stop hop ≡ false → after_of (take (number + 1) stops) hop ≡ after_of
      (take number stops) hop
  still-stays hop off =
      mark-more stops number stop hop within is_stop ∙ ap (λ b. or_next (after_of (take number stops) hop)
      (cond b (Some number) None)) off
      ∙ or-none (after_of (take number stops) hop)

  -- one that does, and has no mark
  pub gets : (hop : Hop) → after_of (take number stops) hop ≡ None → goes_on_from stop hop ≡ true
      → after_of (take (number + 1) stops) hop ≡ Some number
  gets hop none on =
      mark-more stops number stop hop within is_stop ∙ ap (λ b. or_next (after_of (take number stops) hop)
      (cond b (Some number) None)) on
      ∙ ap (λ o. or_next o (Some number)) none

  -- one that has a mark
  keeps : (hop : Hop) → after_of (take number stops) hop ≢ None → after_of (take (number + 1) stops) hop ≡ after_of
      (take number stops) hop
  keeps hop some = by (after_of (take number stops) hop) (mark-more stops number stop hop within is_stop) some
    where
      by : (o : Option ℕ) → after_of (take (number + 1) stops) hop ≡ or_next o
          (cond (goes_on_from stop hop) (Some number) None) → o ≢ None → after_of (take (number + 1) stops) hop ≡ o
      by None e some = absurd (some refl)
      by (Some k) e some = e

  -- one below the stop
  pub below-stays : (hop : Hop) → is_lt (key_cmp (source hop) stop) ≡ true → after_of (take (number + 1) stops) hop
      ≡ after_of (take number stops) hop
  below-stays hop below = by (goes_on_from stop hop) refl
    where
      by : (b : Bool) → goes_on_from stop hop ≡ b → after_of (take (number + 1) stops) hop ≡ after_of
          (take number stops) hop
      by false off = still-stays hop off
      by true on =
          let goes = goes-on stop hop on in
          absurd (let same = sym (ap is_lt (tie goes.0)) ∙ below in let order = less hop.step stop.step same in
          let late = goes.1 in omega (arith, order, late))
        where
          tie : hop.from ≡ stop.from → key_cmp (source hop) stop ≡ nat_cmp hop.step stop.step
          tie name = ap (λ (o : Ordering). ordering_then o (nat_cmp hop.step stop.step))
              (subst (λ (n : List ℕ). slice_cmp nat_cmp hop.from n ≡ Equal) name
              (tied_itself nat_list_cmp_total hop.from))

          less : (x y : ℕ) → is_lt (nat_cmp x y) ≡ true → x < y
          less x y e = grind (arith, nat_cmp)

  -- behind a hop that isn't below the stop, and has a mark or doesn't go on, no mark changes
  pub behind-stays : (a hop : Hop) → is_lt (key_cmp (source a) stop) ≡ false → is_lt (key_cmp (source hop) (source a))
      ≡ false
      → (goes_on_from stop a ≡ true → after_of (take number stops) a ≢ None)
      → after_of (take (number + 1) stops) hop ≡ after_of (take number stops) hop
  behind-stays a hop low high marked = by (goes_on_from stop hop) refl
    where
      by : (b : Bool) → goes_on_from stop hop ≡ b → after_of (take (number + 1) stops) hop ≡ after_of
          (take number stops) hop
      by false off = still-stays hop off
      by true on =
          let between = squeezed (source a) stop (source hop) low high (goes-on stop hop on).0 in
          let has = marked (goes-on-from stop a between.0 between.1) in
          keeps hop (λ none. has (unmarked none between.0 (goes-on stop hop on).0 between.2))
        where
          -- were the hop without a mark, the one before it were so too
          unmarked : after_of (take number stops) hop ≡ None → a.from ≡ stop.from → hop.from ≡ stop.from
              → a.step ≤ hop.step → after_of (take number stops) a ≡ None
          unmarked none one other order = from (after_of (take number stops) a) refl
            where
              from : (o : Option ℕ) → after_of (take number stops) a ≡ o → after_of (take number stops) a ≡ None
              from None is = is
              from (Some k) is =
                  let found = position-some (λ (at : Key). goes_on_from at a) (take number stops) 0 k is in
                  let goes = goes-on found.1 a found.4 in
                  let later = goes.1 in
                  let on = goes-on-from found.1 hop (other ∙ sym one ∙ goes.0) (omega (arith, later, order)) in
                  absurd (let never : false ≡ true = sym (position-none (λ (at : Key). goes_on_from at hop)
                  (take number stops) 0 none found.1 (get-in (take number stops) found.0 found.1 found.3)) ∙ on in cc)

-- ---- lists of marks that change between two places alone

module _ {H M : Type 0} (f g : H → M) where
  pub mixed-from : (hs : List H) (i : ℕ) → ((k : ℕ) (d : H) → k < i → k < length hs → f (get_or hs k d) ≡ g
      (get_or hs k d)) → mixed f g hs i ≡ map g hs
  mixed-from [] zero same = refl
  mixed-from [] (suc i) same = refl
  mixed-from (x ∷ hs) zero same = refl
  mixed-from (x ∷ hs) (suc i) same =
      let rest = mixed-from hs i (λ k d low high. same (suc k) d (omega (arith, low)) (omega (arith, high))) in
      let first : f x ≡ g x = same 0 x (omega arith) (omega arith) in
      λ t. first t ∷ rest t

  pub mixed-to : (hs : List H) (i : ℕ) → ((k : ℕ) (d : H) → i ≤ k → k < length hs → f (get_or hs k d) ≡ g
      (get_or hs k d)) → mixed f g hs i ≡ map f hs
  mixed-to [] zero same = refl
  mixed-to [] (suc i) same = refl
  mixed-to (x ∷ hs) zero same =
      let rest = mixed-to hs 0 (λ k d low high. same (suc k) d (omega arith) (omega (arith, high))) in
      let first : g x ≡ f x = sym (same 0 x (omega arith) (omega arith)) in
      λ t. first t ∷ rest t
  mixed-to (x ∷ hs) (suc i) same = ap (λ (ms : List M). f x ∷ ms)
      (mixed-to hs i (λ k d low high. same (suc k) d (omega (arith, low)) (omega (arith, high))))

-- ---- the loop over the hops from the first that isn't below the stop

module _ (stops : List Key) (number : ℕ) (stop : Key) (within : number < length stops)
    (is_stop : get_or stops number stop ≡ stop) (hops : List Hop) where
  abbrev pub marks-to : ℕ → List (Option ℕ)
  marks-to i = mixed (after_of (take (number + 1) stops)) (after_of (take number stops)) hops i

  pub marks-begin : (i : ℕ) → ((k : ℕ) (d : Hop) → 0 ≤ k → k < i → is_lt (key_cmp (source (get_or hops k d)) stop)
      ≡ true) → marks-to i ≡ map (after_of (take number stops)) hops
  marks-begin i below = mixed-from (after_of (take (number + 1) stops)) (after_of (take number stops)) hops i
      (λ k d low high. below-stays stops number stop within is_stop (get_or hops k d) (below k d (omega arith) low))

  -- a mark that is read
  pub mark-read : (i : ℕ) (d : Hop) (m : Option ℕ) → i < length hops → get_or (marks-to i) i m ≡ after_of
      (take number stops) (get_or hops i d)
  mark-read i d m high = mixed-get (after_of (take (number + 1) stops)) (after_of (take number stops)) hops i
      (get_or hops i d) m high (get_or-get_or hops i d high)
    where
      get_or-get_or : (hs : List Hop) (i : ℕ) (d : Hop) → i < length hs → get_or hs i (get_or hs i d) ≡ get_or hs i d
      get_or-get_or [] i d high = absurd (omega arith)
      get_or-get_or (h ∷ hs) zero d high = refl
      get_or-get_or (h ∷ hs) (suc i) d high = get_or-get_or hs i d (omega (arith, high))

  -- what the test of a mark says
  pub has-mark : (i : ℕ) (d : Hop) (marks : List (Option ℕ)) → marks ≡ marks-to i → i < length hops
      → is_some (get_or marks i None) ≡ true
      → after_of (take number stops) (get_or hops i d) ≢ None
  has-mark i d marks are high test none =
      let read : get_or marks i None ≡ None = ap (λ (ms : List (Option ℕ)). get_or ms i None) are ∙ mark-read i d None
      high ∙ none in
      let never : true ≡ false = sym test ∙ ap is_some read in cc

  pub no-mark : (i : ℕ) (hop : Hop) (marks : List (Option ℕ)) → marks ≡ marks-to i → i < length hops
      → get_or hops i hop ≡ hop → is_some (get_or marks i None) ≡ false
      → after_of (take number stops) hop ≡ None
  no-mark i hop marks are high is test =
      sym (ap (after_of (take number stops)) is) ∙ sym (mark-read i hop None high)
      ∙ sym (ap (λ (ms : List (Option ℕ)). get_or ms i None) are) ∙ unmarked (get_or marks i None) test
    where
      unmarked : (o : Option ℕ) → is_some o ≡ false → o ≡ None
      unmarked None test = refl
      unmarked (Some k) test = cc

  pub stays-off : (i : ℕ) (d hop : Hop) → i < length hops → hop ≡ get_or hops i hop → goes_on_from stop hop ≡ false
      → goes_on_from stop (get_or hops i d) ≡ true → ⊥
  stays-off i d hop high is off on =
      let same : get_or hops i d ≡ hop = same-get hops i d hop high ∙ sym is in
      let never : false ≡ true = sym off ∙ sym (ap (goes_on_from stop) same) ∙ on in cc
    where
      same-get : (hs : List Hop) (i : ℕ) (d e : Hop) → i < length hs → get_or hs i d ≡ get_or hs i e
      same-get [] i d e high = absurd (omega arith)
      same-get (h ∷ hs) zero d e high = refl
      same-get (h ∷ hs) (suc i) d e high = same-get hs i d e (omega (arith, high))

  pub marks-end : (i from : ℕ) → IsStrictlySortedBy hop_cmp hops → i < length hops → from ≤ i
      → ((k : ℕ) (d : Hop) → from ≤ k → k < length hops → is_lt (key_cmp (source (get_or hops k d)) stop) ≡ false)
      → ((d : Hop) → goes_on_from stop (get_or hops i d) ≡ true → after_of (take number stops) (get_or hops i d) ≢ None)
      → marks-to i ≡ map (after_of (take (number + 1) stops)) hops
  marks-end i from sorted high order over marked = mixed-to (after_of (take (number + 1) stops))
      (after_of (take number stops)) hops i
      (λ k d low far. behind-stays stops number stop within is_stop (get_or hops i d) (get_or hops k d)
      (over i d order high) (sorted-keys hops sorted i k d low far) (marked d))

  pub marks-more : (i : ℕ) (hop : Hop) → i < length hops → get_or hops i hop ≡ hop → after_of (take number stops) hop
      ≡ None → goes_on_from stop hop ≡ true
      → set (marks-to i) i (Some number) ≡ marks-to (i + 1)
  marks-more i hop high is none on =
      ap (λ (m : Option ℕ). set (marks-to i) i m) (sym (gets stops number stop within is_stop hop none on))
      ∙ mixed-set (after_of (take (number + 1) stops)) (after_of (take number stops)) hops i hop high is
      ∙ ap marks-to (let next : suc i ≡ i + 1 = omega arith in next)
