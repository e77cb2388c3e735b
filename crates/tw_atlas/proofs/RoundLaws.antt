-- Rounds of legs: what is listed is grounded, no hop is listed twice, and in the end none is left that goes on.
use Rattle.std.proofs.Common.{◌≡◌, ◌≢◌, ◌⊎◌, ℕ, suc, zero, ◌+◌, ◌<◌, ◌≤◌, List, [], ◌∷◌, ◌++◌, length, Bool, true}
use Rattle.std.proofs.Common.{false, cond, Option, Some, None, refl, sym, ◌∙◌, ap, subst, inl, inr, arith}
use Rattle.std.specs.Prelude.{All, is_none, map, option_map, slice_get}
use Rattle.std.specs.List.{AllPairs, cons_option, position_from}
use Rattle.std.proofs.lemmas.List.{append-nil}
use Rattle.std.proofs.lemmas.List.Elements.{All-cons, All-nil}
use Rattle.std.proofs.lemmas.List.Kept.{AllPairs-cons}
use Rattle.tw_base.specs.declared.history.report.Hop.{Hop}
use Rattle.tw_base.specs.declared.history.thread.Key.{Key}
use Rattle.tw_base.specs.kinds.Lists.{Each, In}
use Rattle.tw_base.proofs.lemmas.kinds.ListLemmas.{Apart, Each-append, Each-in, In-cases_append}
use Rattle.tw_atlas.specs.declared.atlas.Leg.{Leg}
use Rattle.tw_atlas.specs.Atlases.{IsAtlasClosed, IsGrounded, leg_hops, stops}
use Rattle.tw_atlas.specs.Reaching.{goes_on_from, target}
use Rattle.tw_atlas.specs.Rounds.{after_of, left_over, legs_of, ordered, round_of_hops, rounds}
use Rattle.tw_atlas.proofs.HopOrder.{in-ordered, ordered-has, ordered-rises, rises-apart}

-- ---- the first place at which a test passes

module _ {K : Type 0} (t : K → Bool) where
  pub position-some : (xs : List K) (i k : ℕ) → position_from t i xs ≡ Some k → (j : ℕ) × (x : K) × (k ≡ i + j)
      × (slice_get xs j ≡ Some x) × (t x ≡ true)
  position-some [] i k e = cc
  position-some (x ∷ xs) i k e = by (t x) refl (position-some xs (i + 1) k) e
    where
      by : (b : Bool) → t x ≡ b → (position_from t (i + 1) xs ≡ Some k → (j : ℕ) × (y : K) × (k ≡ i + 1 + j)
          × (slice_get xs j ≡ Some y) × (t y ≡ true))
          → cond b (Some i) (position_from t (i + 1) xs) ≡ Some k → (j : ℕ) × (y : K) × (k ≡ i + j)
          × (slice_get (x ∷ xs) j ≡ Some y) × (t y ≡ true)
      by true is more e = (0, x, (let same : i ≡ k = cc in omega (arith, same)), refl, is)
      by false is more e = let there = more e in
          (suc there.0, there.1, (let place = there.2 in omega (arith, place)), there.3, there.4)

  pub position-none : (xs : List K) (i : ℕ) → position_from t i xs ≡ None → (x : K) → In x xs → t x ≡ false
  position-none [] i e x p = absurd p
  position-none (y ∷ ys) i e x p = by (t y) refl (λ rest. position-none ys (i + 1) rest x) e p
    where
      by : (b : Bool) → t y ≡ b → (position_from t (i + 1) ys ≡ None → In x ys → t x ≡ false)
          → cond b (Some i) (position_from t (i + 1) ys) ≡ None → In x (y ∷ ys) → t x ≡ false
      by true is more e p = cc
      by false is more e (inl same) = ap t same ∙ is
      by false is more e (inr there) = more e there

-- ---- lists by place

module _ {X : Type 0} where
  pub get-append : (xs ys : List X) (k : ℕ) (x : X) → slice_get xs k ≡ Some x → slice_get (xs ++ ys) k ≡ Some x
  get-append [] ys k x e = cc
  get-append (y ∷ xs) ys zero x e = e
  get-append (y ∷ xs) ys (suc k) x e = get-append xs ys k x e

  pub get-cases : (xs ys : List X) (k : ℕ) (x : X) → slice_get (xs ++ ys) k ≡ Some x → (slice_get xs k ≡ Some x)
      ⊎ ((length xs ≤ k) × In x ys)
  get-cases [] ys k x e = inr (omega arith, there ys k e)
    where
      there : (zs : List X) (k : ℕ) → slice_get zs k ≡ Some x → In x zs
      there [] k e = cc
      there (z ∷ zs) zero e = inl (let same : Some z ≡ Some x = e in cc)
      there (z ∷ zs) (suc k) e = inr (there zs k e)
  get-cases (y ∷ xs) ys zero x e = inl e
  get-cases (y ∷ xs) ys (suc k) x e = elim (get-cases xs ys k x e)
      [ inl here ↦ inl here | inr later ↦ inr (let far = later.0 in omega (arith, far), later.1) ]

  pub get-within : (xs : List X) (k : ℕ) (x : X) → slice_get xs k ≡ Some x → k < length xs
  get-within [] k x e = cc
  get-within (y ∷ xs) zero x e = omega arith
  get-within (y ∷ xs) (suc k) x e = let rest = get-within xs k x e in omega (arith, rest)

  apart-append : (xs ys : List X) → Apart xs → Apart ys → ((x : X) → In x xs → In x ys → ⊥) → Apart (xs ++ ys)
  apart-append [] ys one other never = other
  apart-append (x ∷ xs) ys one other never = (
    Each-append (λ (y : X). x ≢ y) xs ys one.0
        (each-not ys (λ y there same. never x (inl refl) (subst (λ (z : X). In z ys) (sym same) there))),
    apart-append xs ys one.1 other (λ z here there. never z (inr here) there),
  )
    where
      each-not : (zs : List X) → ((y : X) → In y zs → x ≡ y → ⊥) → Each (λ (y : X). x ≢ y) zs
      each-not [] never = tt
      each-not (z ∷ zs) never = (never z (inl refl), each-not zs (λ y there. never y (inr there)))

  pub each-all : (P : X → Type 0) (xs : List X) → ((x : X) → In x xs → P x) → Each P xs
  each-all P [] all = tt
  each-all P (x ∷ xs) all = (all x (inl refl), each-all P xs (λ y there. all y (inr there)))

  pub pairs-apart : (xs : List X) → Apart xs → AllPairs (λ one other. one ≢ other) xs
  pairs-apart [] apart = λ i j d less within. absurd (omega arith)
  pairs-apart (x ∷ xs) apart = AllPairs-cons (λ one other. one ≢ other) x xs (all xs apart.0) (pairs-apart xs apart.1)
    where
      all : (ys : List X) → Each (λ (y : X). x ≢ y) ys → All (λ (y : X). x ≢ y) ys
      all [] e = All-nil (λ (y : X). x ≢ y)
      all (y ∷ ys) e = All-cons (λ (y : X). x ≢ y) y ys e.0 (all ys e.1)

pub map-append : {X Y : Type 0} (f : X → Y) (xs ys : List X) → map f (xs ++ ys) ≡ map f xs ++ map f ys
map-append f [] ys = refl
map-append f (x ∷ xs) ys = ap (λ zs. f x ∷ zs) (map-append f xs ys)

-- ---- one round

module _ (at : List Key) where
  in-round : (left : List Hop) (leg : Leg) → In leg (round_of_hops at left) → In leg.hop left
      × (after_of at leg.hop ≡ Some leg.after)
  in-round [] leg p = absurd p
  in-round (hop ∷ left) leg p = by (after_of at hop) refl (in-round left leg) p
    where
      by : (o : Option ℕ) → after_of at hop ≡ o → (In leg (round_of_hops at left) → In leg.hop left
          × (after_of at leg.hop ≡ Some leg.after))
          → In leg (cons_option (option_map (λ after. record { after = after; hop = hop }) o) (round_of_hops at left))
          → In leg.hop (hop ∷ left) × (after_of at leg.hop ≡ Some leg.after)
      by None is more p = let there = more p in (inr there.0, there.1)
      by (Some after) is more (inl same) = (
        inl (ap (λ (l : Leg). l.hop) same),
        ap (λ (l : Leg). after_of at l.hop) same ∙ is ∙ ap (λ (l : Leg). Some l.after) (sym same),
      )
      by (Some after) is more (inr p) = let there = more p in (inr there.0, there.1)

  round-has : (left : List Hop) (hop : Hop) (after : ℕ) → In hop left → after_of at hop ≡ Some after
      → In hop (leg_hops (round_of_hops at left))
  round-has [] hop after p e = absurd p
  round-has (one ∷ left) hop after p e = by (after_of at one) refl (λ there. round-has left hop after there e) p
    where
      by : (o : Option ℕ) → after_of at one ≡ o → (In hop left → In hop (leg_hops (round_of_hops at left)))
          → In hop (one ∷ left)
          → In hop (leg_hops (cons_option (option_map (λ after. record { after = after; hop = one }) o)
          (round_of_hops at left)))
      by None is more (inl same) = absurd (let never : Some after ≡ None = sym e ∙ ap (after_of at) same ∙ is in cc)
      by None is more (inr there) = more there
      by (Some k) is more (inl same) = inl same
      by (Some k) is more (inr there) = inr (more there)

  pub in-left : (left : List Hop) (hop : Hop) → In hop (left_over at left) → In hop left × (after_of at hop ≡ None)
  in-left [] hop p = absurd p
  in-left (one ∷ left) hop p = by (after_of at one) refl (in-left left hop) p
    where
      by : (o : Option ℕ) → after_of at one ≡ o → (In hop (left_over at left) → In hop left × (after_of at hop ≡ None))
          → In hop (cond (is_none o) (one ∷ left_over at left) (left_over at left)) → In hop (one ∷ left)
          × (after_of at hop ≡ None)
      by None is more (inl same) = (inl same, ap (after_of at) same ∙ is)
      by None is more (inr p) = let there = more p in (inr there.0, there.1)
      by (Some k) is more p = let there = more p in (inr there.0, there.1)

  left-has : (left : List Hop) (hop : Hop) → In hop left → after_of at hop ≡ None → In hop (left_over at left)
  left-has [] hop p e = absurd p
  left-has (one ∷ left) hop p e = by (after_of at one) refl (λ there. left-has left hop there e) p
    where
      by : (o : Option ℕ) → after_of at one ≡ o → (In hop left → In hop (left_over at left)) → In hop (one ∷ left)
          → In hop (cond (is_none o) (one ∷ left_over at left) (left_over at left))
      by None is more (inl same) = inl same
      by None is more (inr there) = inr (more there)
      by (Some k) is more (inl same) = absurd (let never : None ≡ Some k = sym e ∙ ap (after_of at) same ∙ is in cc)
      by (Some k) is more (inr there) = more there

  pub round-count : (left : List Hop) → length (round_of_hops at left) + length (left_over at left) ≡ length left
  round-count [] = omega arith
  round-count (one ∷ left) = by (after_of at one) (round-count left)
    where
      by : (o : Option ℕ) → length (round_of_hops at left) + length (left_over at left) ≡ length left
          → length (cons_option (option_map (λ after. record { after = after; hop = one }) o) (round_of_hops at left))
          + length (cond (is_none o) (one ∷ left_over at left) (left_over at left)) ≡ length (one ∷ left)
      by None more = omega (arith, more)
      by (Some k) more = omega (arith, more)

  apart-left : (left : List Hop) → Apart left → Apart (left_over at left)
  apart-left [] apart = tt
  apart-left (one ∷ left) apart = by (after_of at one) (apart-left left apart.1)
    where
      by : (o : Option ℕ) → Apart (left_over at left)
          → Apart (cond (is_none o) (one ∷ left_over at left) (left_over at left))
      by None more = (
        each-all (λ (y : Hop). one ≢ y) (left_over at left) (λ y there. Each-in (λ (y : Hop). one ≢ y) left y apart.0
            (in-left left y there).0),
        more,
      )
      by (Some k) more = more

  round-hop : (left : List Hop) (hop : Hop) → In hop (leg_hops (round_of_hops at left)) → In hop left
      × ((after : ℕ) × (after_of at hop ≡ Some after))
  round-hop left hop p = found (round_of_hops at left) p (in-round left)
    where
      found : (legs : List Leg) → In hop (leg_hops legs) → ((leg : Leg) → In leg legs → In leg.hop left
          × (after_of at leg.hop ≡ Some leg.after)) → In hop left × ((after : ℕ) × (after_of at hop ≡ Some after))
      found [] p all = absurd p
      found (leg ∷ legs) (inl same) all = let here = all leg (inl refl) in
          (subst (λ (h : Hop). In h left) (sym same) here.0, (leg.after, ap (after_of at) same ∙ here.1))
      found (leg ∷ legs) (inr p) all = found legs p (λ l there. all l (inr there))

  apart-round : (left : List Hop) → Apart left → Apart (leg_hops (round_of_hops at left))
  apart-round [] apart = tt
  apart-round (one ∷ left) apart = by (after_of at one) (apart-round left apart.1)
    where
      by : (o : Option ℕ) → Apart (leg_hops (round_of_hops at left))
          → Apart (leg_hops (cons_option (option_map (λ after. record { after = after; hop = one }) o)
          (round_of_hops at left)))
      by None more = more
      by (Some k) more = (
        each-all (λ (y : Hop). one ≢ y) (leg_hops (round_of_hops at left)) (λ y there. Each-in (λ (y : Hop). one ≢ y)
            left y apart.0 (round-hop left y there).0),
        more,
      )

  -- ---- a round that lists nothing

  abbrev pub NoneGoes : List Hop → Type 0
  NoneGoes left = Each (λ hop. after_of at hop ≡ None) left

  none-goes : (left : List Hop) → round_of_hops at left ≡ [] → NoneGoes left
  none-goes [] e = tt
  none-goes (one ∷ left) e = by (after_of at one) refl (none-goes left) e
    where
      by : (o : Option ℕ) → after_of at one ≡ o → (round_of_hops at left ≡ [] → NoneGoes left)
          → cons_option (option_map (λ after. record { after = after; hop = one }) o) (round_of_hops at left) ≡ []
          → NoneGoes (one ∷ left)
      by None is more e = (is, more e)
      by (Some k) is more e = cc

  round-none : (left : List Hop) → NoneGoes left → round_of_hops at left ≡ []
  round-none [] none = refl
  round-none (one ∷ left) none = ap (λ (o : Option ℕ). cons_option (option_map (λ after. leg_of after) o)
      (round_of_hops at left)) none.0 ∙ round-none left none.1
    where
      leg_of : ℕ → Leg
      leg_of after = record { after = after; hop = one }

  left-none : (left : List Hop) → NoneGoes left → left_over at left ≡ left
  left-none [] none = refl
  left-none (one ∷ left) none =
      ap (λ (o : Option ℕ). cond (is_none o) (one ∷ left_over at left) (left_over at left)) none.0
      ∙ ap (λ hops. one ∷ hops) (left-none left none.1)

-- ---- all rounds

pub rounds-none : (more : ℕ) (start : Key) (legs : List Leg) (left : List Hop) → NoneGoes (stops start legs) left
    → rounds more start legs left ≡ legs
rounds-none zero start legs left none = refl
rounds-none (suc more) start legs left none =
    ap (λ r. rounds more start (legs ++ r) (left_over (stops start legs) left))
    (round-none (stops start legs) left none)
    ∙ ap (λ lo. rounds more start (legs ++ []) lo) (left-none (stops start legs) left none)
    ∙ ap (λ l. rounds more start l left) (append-nil legs)
    ∙ rounds-none more start legs left none

-- what is listed so far, and what is left of the given hops
pub record Parts (given : List Hop) (start : Key) (legs : List Leg) (left : List Hop) : Type 0 where
  pub once : Apart (leg_hops legs)
  pub left_once : Apart left
  pub never_both : (hop : Hop) → In hop (leg_hops legs) → In hop left → ⊥
  pub left_given : (hop : Hop) → In hop left → In hop given
  pub all : (hop : Hop) → In hop given → In hop (leg_hops legs) ⊎ In hop left
  pub grounded : (k : ℕ) (leg : Leg) → slice_get legs k ≡ Some leg → IsGrounded given start legs k leg

-- what is listed in the end
pub record Whole (given : List Hop) (start : Key) (legs : List Leg) : Type 0 where
  pub once : Apart (leg_hops legs)
  pub grounded : (k : ℕ) (leg : Leg) → slice_get legs k ≡ Some leg → IsGrounded given start legs k leg
  pub closed : IsAtlasClosed given start legs

module _ (given : List Hop) (start : Key) where
  stops-more : (legs more : List Leg) → stops start (legs ++ more) ≡ stops start legs ++ map
      (λ (leg : Leg). target leg.hop) more
  stops-more legs more = ap (λ keys. start ∷ keys) (map-append (λ (leg : Leg). target leg.hop) legs more)

  still : (legs more : List Leg) (k : ℕ) (leg : Leg) → IsGrounded given start legs k leg → IsGrounded given start
      (legs ++ more) k leg
  still legs more k leg g = record {
    is_given = g.is_given;
    earlier = g.earlier;
    follows = (
      g.follows.0,
      ap (λ keys. slice_get keys leg.after) (stops-more legs more) ∙ get-append (stops start legs)
          (map (λ (leg : Leg). target leg.hop) more) leg.after g.follows.0 g.follows.1,
      g.follows.2,
    );
  }

  length-targets : (legs : List Leg) → length (map (λ (leg : Leg). target leg.hop) legs) ≡ length legs
  length-targets [] = refl
  length-targets (leg ∷ legs) = let rest = length-targets legs in omega (arith, rest)

  fresh : (legs more : List Leg) (k : ℕ) (leg : Leg) → length legs ≤ k → In leg.hop given → after_of (stops start legs)
      leg.hop ≡ Some leg.after
      → IsGrounded given start (legs ++ more) k leg
  fresh legs more k leg late there e =
      let found = position-some (λ (at : Key). goes_on_from at leg.hop) (stops start legs) 0 leg.after e in
      let same : leg.after ≡ found.0 = let place = found.2 in omega (arith, place) in
      let here : slice_get (stops start legs) leg.after ≡ Some found.1 = ap (slice_get (stops start legs)) same
      ∙ found.3 in
      let within = get-within (stops start legs) leg.after found.1 here in
      let count = length-targets legs in
      record {
        is_given = there;
        earlier = omega (arith, within, count, late);
        follows = (
          found.1,
          ap (λ keys. slice_get keys leg.after) (stops-more legs more) ∙ get-append (stops start legs)
              (map (λ (leg : Leg). target leg.hop) more) leg.after found.1 here,
          found.4,
        );
      }

  parts-more : (legs : List Leg) (left : List Hop) → Parts given start legs left
      → Parts given start (legs ++ round_of_hops (stops start legs) left) (left_over (stops start legs) left)
  parts-more legs left p =
      let at : List Key = stops start legs in
      let listed : (hop : Hop) → In hop (leg_hops (legs ++ round_of_hops at left)) → In hop (leg_hops legs)
      ⊎ In hop (leg_hops (round_of_hops at left)) =
      λ hop there. In-cases_append hop (leg_hops legs) (leg_hops (round_of_hops at left))
      (subst (In hop) (map-append (λ (leg : Leg). leg.hop) legs (round_of_hops at left)) there) in
      record {
        once = subst Apart (sym (map-append (λ (leg : Leg). leg.hop) legs (round_of_hops at left)))
            (apart-append (leg_hops legs) (leg_hops (round_of_hops at left)) p.once (apart-round at left p.left_once)
            (λ hop here there. p.never_both hop here (round-hop at left hop there).0));
        left_once = apart-left at left p.left_once;
        never_both = λ hop here there. (let over = in-left at left hop there in elim (listed hop here) [
          | inl early ↦ p.never_both hop early over.0
          | inr late ↦ (let never : Some (round-hop at left hop late).1.0 ≡ None = sym (round-hop at left hop late).1.1
              ∙ over.1 in cc)
        ]);
        left_given = λ hop there. p.left_given hop (in-left at left hop there).0;
        all = λ hop there. elim (p.all hop there) [
          | inl early ↦ inl (subst (In hop) (sym (map-append (λ (leg : Leg). leg.hop) legs (round_of_hops at left)))
              (in-front hop (leg_hops legs) (leg_hops (round_of_hops at left)) early))
          | inr late ↦ goes hop (after_of at hop) refl late
        ];
        grounded = λ k leg is. elim (get-cases legs (round_of_hops at left) k leg is) [
          | inl early ↦ still legs (round_of_hops at left) k leg (p.grounded k leg early)
          | inr late ↦ fresh legs (round_of_hops at left) k leg late.0
              (p.left_given leg.hop (in-round at left leg late.1).0) (in-round at left leg late.1).1
        ];
      }
    where
      in-front : (hop : Hop) (xs ys : List Hop) → In hop xs → In hop (xs ++ ys)
      in-front hop [] ys there = absurd there
      in-front hop (x ∷ xs) ys (inl same) = inl same
      in-front hop (x ∷ xs) ys (inr there) = inr (in-front hop xs ys there)

      in-back : (hop : Hop) (xs ys : List Hop) → In hop ys → In hop (xs ++ ys)
      in-back hop [] ys there = there
      in-back hop (x ∷ xs) ys there = inr (in-back hop xs ys there)

      goes : (hop : Hop) (o : Option ℕ) → after_of (stops start legs) hop ≡ o → In hop left
          → In hop (leg_hops (legs ++ round_of_hops (stops start legs) left))
          ⊎ In hop (left_over (stops start legs) left)
      goes hop None is there = inr (left-has (stops start legs) left hop there is)
      goes hop (Some after) is there =
          inl (subst (In hop) (sym (map-append (λ (leg : Leg). leg.hop) legs (round_of_hops (stops start legs) left)))
          (in-back hop (leg_hops legs) (leg_hops (round_of_hops (stops start legs) left))
          (round-has (stops start legs) left hop after there is)))

  ended : (legs : List Leg) (left : List Hop) → Parts given start legs left → NoneGoes (stops start legs) left
      → Whole given start legs
  ended legs left p none = record {
    once = p.once;
    grounded = p.grounded;
    closed = λ at hop there has on. elim (p.all hop has) [
      | inl here ↦ here
      | inr late ↦ absurd (let no = Each-in (λ hop. after_of (stops start legs) hop ≡ None) left hop none late in
          let never : false ≡ true = sym (position-none (λ (at : Key). goes_on_from at hop) (stops start legs) 0 no at
          there) ∙ on in cc)
    ];
  }

  pub rounds-whole : (more : ℕ) (legs : List Leg) (left : List Hop) → Parts given start legs left → length left ≤ more
      → Whole given start (rounds more start legs left)
  rounds-whole zero legs [] p few = ended legs [] p tt
  rounds-whole zero legs (hop ∷ left) p few = absurd (omega arith)
  rounds-whole (suc more) legs left p few =
      by (round_of_hops (stops start legs) left) refl (rounds-whole more (legs ++ round_of_hops (stops start legs) left)
      (left_over (stops start legs) left)) (parts-more legs left p)
    where
      by : (r : List Leg) → round_of_hops (stops start legs) left ≡ r
          → (Parts given start (legs ++ round_of_hops (stops start legs) left) (left_over (stops start legs) left)
          → length (left_over (stops start legs) left) ≤ more
          → Whole given start (rounds more start (legs ++ round_of_hops (stops start legs) left)
          (left_over (stops start legs) left)))
          → Parts given start (legs ++ round_of_hops (stops start legs) left) (left_over (stops start legs) left)
          → Whole given start (rounds more start (legs ++ round_of_hops (stops start legs) left)
          (left_over (stops start legs) left))
      by [] is go next = let none = none-goes (stops start legs) left is in subst (Whole given start)
          (sym (rounds-none (suc more) start legs left none)) (ended legs left p none)
      by (leg ∷ r) is go next =
          let count = round-count (stops start legs) left in
          let some : length (round_of_hops (stops start legs) left) ≡ length (leg ∷ r) = ap (λ (l : List Leg). length l)
          is in
          go next (omega (arith, count, some, few))

-- before the first round
begun : (given : List Hop) (start : Key) → Parts given start [] (ordered given)
begun given start = record {
  once = tt;
  left_once = rises-apart (ordered given) (ordered-rises given);
  never_both = λ hop here there. here;
  left_given = λ hop there. in-ordered hop given there;
  all = λ hop there. inr (ordered-has hop given there);
  grounded = λ k leg is. (let never : None ≡ Some leg = is in cc);
}

pub legs-whole : (given : List Hop) (start : Key) → Whole given start (legs_of given start)
legs-whole given start = rounds-whole given start (length (ordered given)) [] (ordered given) (begun given start)
    (omega arith)
