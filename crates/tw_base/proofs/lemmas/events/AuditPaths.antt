-- The equations of the sides of an audit path, without the bound on splits.
use Rattle.std.proofs.Common.{◌≡◌, ℕ, suc, zero, ◌+◌, ◌-◌, ◌<◌, ◌≤◌, ◌^◌, List, [], ◌∷◌, ◌++◌, length, refl, ap, sym}
use Rattle.std.proofs.Common.{◌∙◌, arith, lit<, inl, inr}
use Rattle.std.specs.Prelude.{nat_lt, if◌then◌else◌}
use Rattle.std.proofs.lemmas.Bool.{cases_lt, le-leb, lt-leb, lt-ltb, le-ltb}
use Rattle.std.proofs.lemmas.List.{length-append}
use Rattle.std.proofs.Math.Nat.{pow-le-pow_right}
use Rattle.tw_base.specs.declared.events.side.Side.{Side}
use Rattle.tw_base.specs.declared.events.side.Side.TheVariants.{Left, Right}
use Rattle.tw_base.specs.events.AuditPath.{path_length, path_sides, sides_within}
use Rattle.tw_base.specs.events.EventTree.{audit_path, largest_power_below, left_half, right_half}
use Rattle.tw_base.proofs.lemmas.events.EventTrees.{audit_path-left, audit_path-none, audit_path-one, audit_path-right}
use Rattle.tw_base.proofs.lemmas.events.EventTrees.{by_halves, halves, largest_power_below-is}
use Rattle.tw_base.proofs.lemmas.events.EventTrees.{largest_power_below-less, largest_power_below-some}

module _ (count : ℕ) where
  sides_of : ℕ → (index : ℕ) → List Side
  sides_of splits index =
      if nat_lt index (largest_power_below count) then sides_within splits (largest_power_below count) index ++ Right
      ∷ []
      else sides_within splits (count - largest_power_below count) (index - largest_power_below count) ++ Left ∷ []

  sides-few : (splits index : ℕ) → count ≤ 1 → sides_within splits count index ≡ []
  unfolding sides_within sides_of
  sides-few zero index few = refl
  sides-few (suc splits) index few = ap (λ t. if t then [] else sides_of splits index) (le-leb count 1 few)

  sides-more : (splits index : ℕ) → 1 < count → sides_within (suc splits) count index ≡ sides_of splits index
  unfolding sides_within sides_of
  sides-more splits index more = ap (λ t. if t then [] else sides_of splits index) (lt-leb count 1 more)

  sides_of-left : (splits index : ℕ) → index < largest_power_below count → sides_of splits index ≡ sides_within splits
      (largest_power_below count) index ++ Right ∷ []
  unfolding sides_of
  sides_of-left splits index less =
      ap (λ t. if t then sides_within splits (largest_power_below count) index ++ Right ∷ []
      else sides_within splits (count - largest_power_below count) (index - largest_power_below count) ++ Left ∷ [])
      (lt-ltb index (largest_power_below count) less)

  sides_of-right : (splits index : ℕ) → largest_power_below count ≤ index
      → sides_of splits index ≡ sides_within splits (count - largest_power_below count)
      (index - largest_power_below count) ++ Left ∷ []
  unfolding sides_of
  sides_of-right splits index past =
      ap (λ t. if t then sides_within splits (largest_power_below count) index ++ Right ∷ []
      else sides_within splits (count - largest_power_below count) (index - largest_power_below count) ++ Left ∷ [])
      (le-ltb index (largest_power_below count) past)

-- splits past the count change nothing
sides-enough : (count a b index : ℕ) → count ≤ a → count ≤ b → sides_within a count index ≡ sides_within b count index
sides-enough count = by_halves P small large count
  where
    P : ℕ → Type 0
    P n = (a b index : ℕ) → n ≤ a → n ≤ b → sides_within a n index ≡ sides_within b n index

    small : (n : ℕ) → n ≤ 1 → P n
    small n few a b index m k = sides-few n a index few ∙ sym (sides-few n b index few)

    large : (n : ℕ) → 1 < n → P (largest_power_below n) → P (n - largest_power_below n) → P n
    large n more left right zero b index m k = absurd (omega arith)
    large n more left right (suc a) zero index m k = absurd (omega arith)
    large n more left right (suc a) (suc b) index m k =
        let l = largest_power_below-less n more in
        let s = largest_power_below-some n more in
        elim (cases_lt index (largest_power_below n)) [
          | inl less ↦ sides-more n a index more ∙ sides_of-left n a index less
              ∙ ap (λ x. x ++ Right ∷ []) (left a b index (omega arith) (omega arith))
              ∙ sym (sides-more n b index more ∙ sides_of-left n b index less)
          | inr past ↦ sides-more n a index more ∙ sides_of-right n a index past
              ∙ ap (λ x. x ++ Left ∷ []) (right a b (index - largest_power_below n) (omega arith) (omega arith))
              ∙ sym (sides-more n b index more ∙ sides_of-right n b index past)
        ]

pub path_sides-few : (count index : ℕ) → count ≤ 1 → path_sides count index ≡ []
unfolding path_sides
path_sides-few count index few = sides-few count count index few

pub path_sides-left : (count index : ℕ) → 1 < count → index < largest_power_below count
    → path_sides count index ≡ path_sides (largest_power_below count) index ++ Right ∷ []
unfolding path_sides
path_sides-left count index more less =
    sides-enough count count (suc count) index (omega arith) (omega arith) ∙ sides-more count count index more
    ∙ sides_of-left count count index less
    ∙ ap (λ x. x ++ Right ∷ []) (sides-enough (largest_power_below count) count (largest_power_below count) index
    (omega (arith, largest_power_below-less count more)) (omega arith))

pub path_sides-right : (count index : ℕ) → 1 < count → largest_power_below count ≤ index
    → path_sides count index ≡ path_sides (count - largest_power_below count) (index - largest_power_below count)
    ++ Left ∷ []
unfolding path_sides
path_sides-right count index more past =
    sides-enough count count (suc count) index (omega arith) (omega arith) ∙ sides-more count count index more
    ∙ sides_of-right count count index past
    ∙ ap (λ x. x ++ Left ∷ []) (sides-enough (count - largest_power_below count) count
    (count - largest_power_below count) (index - largest_power_below count) (omega arith) (omega arith))

one_more : {X : Type 0} (xs : List X) (x : X) → length (xs ++ x ∷ []) ≡ suc (length xs)
one_more xs x = length-append xs (x ∷ []) ∙ (let e : length xs + 1 ≡ suc (length xs) = omega arith in e)

pub path_length-few : (count index : ℕ) → count ≤ 1 → path_length count index ≡ 0
unfolding path_length
path_length-few count index few = ap length (path_sides-few count index few)

pub path_length-left : (count index : ℕ) → 1 < count → index < largest_power_below count
    → path_length count index ≡ suc (path_length (largest_power_below count) index)
unfolding path_length
path_length-left count index more less = ap length (path_sides-left count index more less) ∙ one_more _ Right

pub path_length-right : (count index : ℕ) → 1 < count → largest_power_below count ≤ index
    → path_length count index ≡ suc (path_length (count - largest_power_below count)
    (index - largest_power_below count))
unfolding path_length
path_length-right count index more past = ap length (path_sides-right count index more past) ∙ one_more _ Left

-- each label halves the count
pub path_length-le : (level count index : ℕ) → count ≤ 2 ^ level → path_length count index ≤ level
path_length-le zero count index few = let e = path_length-few count index few in omega arith
path_length-le (suc level) count index few =
    elim (cases_lt 1 count) [
      | inr one ↦ (let e = path_length-few count index one in omega arith)
      | inl more ↦ (
          let k = largest_power_below-is count more in
          let same = k.1 in
          let next = k.2.next in
          let low : largest_power_below count ≤ 2 ^ level = low_half k.0 more k.1 k.2.below in
          elim (cases_lt index (largest_power_below count)) [
            | inl less ↦ (let e = path_length-left count index more less in let m =
                path_length-le level (largest_power_below count) index low in omega arith)
            | inr past ↦ (
                let e = path_length-right count index more past in
                let m = path_length-le level (count - largest_power_below count) (index - largest_power_below count)
                (omega (arith, same, next)) in
                omega arith)
          ])
    ]
  where
    low_half : (l : ℕ) → 1 < count → largest_power_below count ≡ 2 ^ l → 2 ^ l < count → largest_power_below count ≤ 2
        ^ level
    low_half l more e b =
        elim (cases_lt level l) [
          | inl high ↦ (let p : 2 ^ suc level ≤ 2 ^ l = pow-le-pow_right (lit< tt) high in absurd (omega arith))
          | inr past ↦ (let p : 2 ^ l ≤ 2 ^ level = pow-le-pow_right (lit< tt) past in omega arith)
        ]

module _ (dig : List ℕ → List ℕ) where
  pub few-events : (events : List (List ℕ)) (index : ℕ) → length events ≤ 1 → audit_path dig events index ≡ []
  few-events [] index few = audit_path-none dig index
  few-events (e ∷ []) index few = audit_path-one dig e index
  few-events (e ∷ f ∷ es) index few = absurd (omega arith)

  -- the path of the standard has that length
  pub length-audit_path : (events : List (List ℕ)) (index : ℕ) → length (audit_path dig events index) ≡ path_length
      (length events) index
  length-audit_path events index = by_halves P small large (length events) events index refl
    where
      P : ℕ → Type 0
      P n = (events : List (List ℕ)) (index : ℕ) → length events ≡ n → length (audit_path dig events index)
          ≡ path_length n index

      small : (n : ℕ) → n ≤ 1 → P n
      small n few events index e = ap length (few-events events index (omega arith)) ∙ sym (path_length-few n index few)

      large : (n : ℕ) → 1 < n → P (largest_power_below n) → P (n - largest_power_below n) → P n
      large n more left right events index e =
          let more' : 1 < length events = omega arith in
          let sizes = halves n events more e in
          elim (cases_lt index (largest_power_below n)) [
            | inl less ↦ ap length (audit_path-left dig events index more' (omega arith)) ∙ one_more _ _
                ∙ ap suc (left (left_half events) index sizes.1)
                ∙ sym (path_length-left n index more less)
            | inr past ↦ ap length (audit_path-right dig events index more' (omega arith)) ∙ one_more _ _
                ∙ ap suc (right (right_half events) (index - largest_power_below (length events)) sizes.2)
                ∙ ap (λ x. suc (path_length (n - largest_power_below n) (index - x))) sizes.0
                ∙ sym (path_length-right n index more past)
          ]
