-- The reason that is found in checks is the lowest of those that stand.
use Rattle.std.proofs.Common.{◌≡◌, ◌⊎◌, ℕ, ◌<◌, ◌≤◌, List, [], ◌∷◌, refl, sym, ap, ◌∙◌, subst, arith, inl, inr}
use Rattle.std.specs.Prelude.{Bool, true, false, Option, Some, None, ◌&&◌, ◌==◌, nat_lt, is_some, IsSome, if◌then◌else◌}
use Rattle.std.specs.List.{flat_map}
use Rattle.std.specs.Option.{option_map_or}
use Rattle.std.proofs.lemmas.Bool.{both_ways}
use Rattle.std.proofs.lemmas.Bool.Decides.{nat_tests}
use Rattle.tw_base.specs.declared.history.report.Reason.{Reason}
use Rattle.tw_base.specs.declared.history.report.Reason.TheVariants.{NotHeld}
use Rattle.tw_base.specs.declared.history.thread.Key.{Key}
use Rattle.tw_base.specs.declared.history.thread.Thread.{Thread}
use Rattle.tw_base.specs.kinds.Lists.{Each}
use Rattle.tw_base.specs.history.Reasons.{IsNoHigher, reason_number, reason_place}
use Rattle.tw_chain.specs.Checks.{Check}
use Rattle.tw_chain.specs.Checks.Check.{InOrder, NeedsAnchor, CarriesThread, PathOf, LinkOf, OpeningOf, EventOf}
use Rattle.tw_chain.specs.Checks.Check.{AnswerOf}
use Rattle.tw_chain.specs.Finding.{found_in, is_lower, lower_of, passes}
use Rattle.tw_chain.specs.Passing.{Passes, anchor_at, needed_by, reason_of}
use Rattle.tw_chain.specs.Reasons.{Fails, first_not_held}
use Rattle.tw_chain.proofs.PassesLaws.{passes-is}

-- ---- the order of reasons

pub no_higher-self : (one : Reason) → IsNoHigher one one
no_higher-self one = inr (refl, omega arith)

no_higher-trans : (one two three : Reason) → IsNoHigher one two → IsNoHigher two three → IsNoHigher one three
no_higher-trans one two three (inl below) (inl next) = inl (omega (arith, below, next))
no_higher-trans one two three (inl below) (inr next) = inl (omega (arith, below, next.0))
no_higher-trans one two three (inr same) (inl next) = inl (omega (arith, same.0, next))
no_higher-trans one two three (inr same) (inr next) = inr (omega (arith, same.0, next.0), omega (arith, same.1, next.1))

below-yes : (n p m q : ℕ) → (if nat_lt n m then true else (n == m && nat_lt p q)) ≡ true → (n < m) ⊎ ((n ≡ m) × (p ≤ q))
below-yes n p m q is = grind (arith, nat_tests)

below-no : (n p m q : ℕ) → (if nat_lt n m then true else (n == m && nat_lt p q)) ≡ false → (m < n) ⊎ ((m ≡ n) × (q ≤ p))
below-no n p m q is = grind (arith, nat_tests)

lower-yes : (one other : Reason) → is_lower one other ≡ true → IsNoHigher one other
lower-yes one other is = below-yes (reason_number one) (reason_place one) (reason_number other) (reason_place other) is

lower-no : (one other : Reason) → is_lower one other ≡ false → IsNoHigher other one
lower-no one other is = below-no (reason_number one) (reason_place one) (reason_number other) (reason_place other) is

-- ---- the first anchor that isn't held

same_some : (one other : Key) → Some one ≡ Some other → one ≡ other
same_some one other e = cc

same_key : (one other : Key) → NotHeld one.from one.step ≡ NotHeld other.from other.step → one ≡ other
same_key one other e =
    let from : one.from ≡ other.from = cc in
    let step : one.step ≡ other.step = cc in
    let made : (service : List ℕ) (at : ℕ) → Key = λ service at. record { from = service; step = at } in
    ap (λ (service : List ℕ). made service one.step) from ∙ ap (made other.from) step

held-first : (anchor : Option Thread) (own : Key) (behind : Option Key) → IsSome anchor → option_map_or (λ t. behind)
    anchor (Some own) ≡ behind
held-first None own behind held = absurd (let no : false ≡ true = held in cc)
held-first (Some t) own behind held = refl

missing-first : (anchor : Option Thread) (own : Key) (behind : Option Key) → (IsSome anchor → ⊥)
    → option_map_or (λ t. behind) anchor (Some own) ≡ Some own
missing-first None own behind missing = refl
missing-first (Some t) own behind missing = absurd (missing refl)

module _ (dig : List ℕ → List ℕ) (anchors : List Thread) (strict : Bool) where
  abbrev first_of : List Check → Option Key
  first_of cs = first_not_held anchors (flat_map needed_by cs)

  first-passed : (c : Check) (cs : List Check) → Passes dig anchors c → first_of (c ∷ cs) ≡ first_of cs
  first-passed (NeedsAnchor key) cs held = held-first (anchor_at anchors key) key (first_of cs) held
  first-passed (InOrder lower upper) cs passed = refl
  first-passed (CarriesThread t) cs passed = refl
  first-passed (PathOf part at upper) cs passed = refl
  first-passed (LinkOf part l) cs passed = refl
  first-passed (OpeningOf part t o) cs passed = refl
  first-passed (EventOf part o e) cs passed = refl
  first-passed (AnswerOf part root ask proof) cs passed = refl

  first-here : (c : Check) (cs : List Check) (key : Key) → (Passes dig anchors c → ⊥) → reason_of c ≡ NotHeld key.from
      key.step → first_of (c ∷ cs) ≡ Some key
  first-here (NeedsAnchor own) cs key missing is = missing-first (anchor_at anchors own) own (first_of cs) missing
      ∙ ap (λ (k : Key). Some k) (same_key own key is)
  first-here (InOrder lower upper) cs key fails is = absurd (cc)
  first-here (CarriesThread t) cs key fails is = absurd (cc)
  first-here (PathOf part at upper) cs key fails is = absurd (cc)
  first-here (LinkOf part l) cs key fails is = absurd (cc)
  first-here (OpeningOf part t o) cs key fails is = absurd (cc)
  first-here (EventOf part o e) cs key fails is = absurd (cc)
  first-here (AnswerOf part root ask proof) cs key fails is = absurd (cc)

  -- a reason that is lower than that of the check before it isn't of an anchor behind another that isn't held
  first-behind : (c : Check) (cs : List Check) (key : Key) → is_lower (NotHeld key.from key.step) (reason_of c) ≡ true
      → first_of (c ∷ cs) ≡ first_of cs
  first-behind (NeedsAnchor own) cs key lower = absurd (let no : false ≡ true = lower in cc)
  first-behind (InOrder lower upper) cs key is = refl
  first-behind (CarriesThread t) cs key is = refl
  first-behind (PathOf part at upper) cs key is = refl
  first-behind (LinkOf part l) cs key is = refl
  first-behind (OpeningOf part t o) cs key is = refl
  first-behind (EventOf part o e) cs key is = refl
  first-behind (AnswerOf part root ask proof) cs key is = refl

  -- ---- what is found

  -- the reason stands, and is the lowest of those of checks that don't pass; of anchors it is the first that isn't held
  pub record IsLeast (cs : List Check) (reason : Reason) : Type 0 where
    pub fails : Fails dig anchors strict cs reason
    pub least : (other : Reason) → Fails dig anchors strict cs other → IsNoHigher reason other
    pub first : (key : Key) → reason ≡ NotHeld key.from key.step → first_of cs ≡ Some key

  -- where nothing is found each check passes
  abbrev pub IsFound : List Check → Option Reason → Type 0
  IsFound cs None = Each (Passes dig anchors) cs
  IsFound cs (Some reason) = IsLeast cs reason

  pub passing-fails : (cs : List Check) (reason : Reason) → Each (Passes dig anchors) cs → Fails dig anchors strict cs
      reason → ⊥
  passing-fails [] reason all fails = fails
  passing-fails (c ∷ cs) reason all (inl here) = here.1 all.0
  passing-fails (c ∷ cs) reason all (inr there) = passing-fails cs reason all.1 there

  passed : (c : Check) (cs : List Check) (found : Option Reason) → Passes dig anchors c → IsFound cs found
      → IsFound (c ∷ cs) found
  passed c cs None passes_c is = (passes_c, is)
  passed c cs (Some reason) passes_c is = record {
    fails = inr is.fails;
    least = λ other. elim [ inl here ↦ absurd (here.1 passes_c) | inr there ↦ is.least other there ];
    first = λ key same. first-passed c cs passes_c ∙ is.first key same;
  }

  module _ (c : Check) (cs : List Check) (fails_c : Passes dig anchors c → ⊥) where
    abbrev own : Reason
    own = reason_of c

    alone : Each (Passes dig anchors) cs → IsLeast (c ∷ cs) own
    alone all = record {
      fails = inl (refl, fails_c);
      least = λ other. elim [
        | inl here ↦ subst (IsNoHigher own) (sym here.0) (no_higher-self own)
        | inr there ↦ absurd (passing-fails cs other all there)
      ];
      first = λ key same. first-here c cs key fails_c same;
    }

    kept : (reason : Reason) → is_lower reason own ≡ false → IsLeast cs reason → IsLeast (c ∷ cs) own
    kept reason higher is = record {
      fails = inl (refl, fails_c);
      least = λ other. elim [
        | inl here ↦ subst (IsNoHigher own) (sym here.0) (no_higher-self own)
        | inr there ↦ no_higher-trans own reason other (lower-no reason own higher) (is.least other there)
      ];
      first = λ key same. first-here c cs key fails_c same;
    }

    lowered : (reason : Reason) → is_lower reason own ≡ true → IsLeast cs reason → IsLeast (c ∷ cs) reason
    lowered reason lower is = record {
      fails = inr is.fails;
      least = λ other. elim [
        | inl here ↦ subst (IsNoHigher reason) (sym here.0) (lower-yes reason own lower)
        | inr there ↦ is.least other there
      ];
      first = λ key same. first-behind c cs key (subst (λ r. is_lower r own ≡ true) same lower) ∙ is.first key same;
    }

    failed : (found : Option Reason) → IsFound cs found → IsFound (c ∷ cs) (lower_of (Some own) found)
    failed None is = alone is
    failed (Some reason) is =
        let cases : (b : Bool) → is_lower reason own ≡ b → IsFound (c ∷ cs) (if b then Some reason else Some own) =
        elim [ true ↦ λ lower. lowered reason lower is | false ↦ λ higher. kept reason higher is ]
        in cases (is_lower reason own) refl

  pub found-is : (cs : List Check) → IsFound cs (found_in dig anchors cs)
  found-is [] = tt
  found-is (c ∷ cs) =
      let behind : Option Reason = found_in dig anchors cs in
      let all : IsFound cs behind = found-is cs in
      let is = passes-is dig anchors c in
      let cases : (b : Bool) → passes dig anchors c ≡ b
      → IsFound (c ∷ cs) (lower_of (if b then None else Some (reason_of c)) behind) =
      elim [
        | true ↦ λ passes_c. passed c cs behind (is.0 passes_c) all
        | false ↦ λ fails_c. failed c cs (λ had. both_ways (passes dig anchors c) fails_c (is.1 had)) behind all
      ]
      in cases (passes dig anchors c) refl

  -- ---- the lemmas of what is found

  -- nothing is found exactly where each check passes
  pub found-none : (cs : List Check) → found_in dig anchors cs ≡ None → Each (Passes dig anchors) cs
  found-none cs none = subst (IsFound cs) none (found-is cs)

  -- what is found is the lowest reason
  pub found-lowest : (cs : List Check) (reason : Reason) → found_in dig anchors cs ≡ Some reason → IsLeast cs reason
  found-lowest cs reason some = subst (IsFound cs) some (found-is cs)

  needed_fails : (own : Key) (cs : List Check) (key : Key) (anchor : Option Thread) → anchor_at anchors own ≡ anchor
      → option_map_or (λ t. first_of cs) anchor (Some own) ≡ Some key
      → (first_of cs ≡ Some key → Fails dig anchors strict cs (NotHeld key.from key.step))
      → Fails dig anchors strict (NeedsAnchor own ∷ cs) (NotHeld key.from key.step)
  needed_fails own cs key None missing is behind = inl (
    ap (λ (k : Key). NotHeld k.from k.step) (sym (same_some own key is)),
    λ held. (let none : false ≡ true = sym (ap is_some missing) ∙ held in cc),
  )
  needed_fails own cs key (Some t) held is behind = inr (behind is)

  -- the first anchor that isn't held is one that isn't held
  pub first-fails : (cs : List Check) (key : Key) → first_of cs ≡ Some key → Fails dig anchors strict cs
      (NotHeld key.from key.step)
  first-fails [] key none = absurd (cc)
  first-fails (NeedsAnchor own ∷ cs) key is = needed_fails own cs key (anchor_at anchors own) refl is
      (first-fails cs key)
  first-fails (InOrder lower upper ∷ cs) key is = inr (first-fails cs key is)
  first-fails (CarriesThread t ∷ cs) key is = inr (first-fails cs key is)
  first-fails (PathOf part at upper ∷ cs) key is = inr (first-fails cs key is)
  first-fails (LinkOf part l ∷ cs) key is = inr (first-fails cs key is)
  first-fails (OpeningOf part t o ∷ cs) key is = inr (first-fails cs key is)
  first-fails (EventOf part o e ∷ cs) key is = inr (first-fails cs key is)
  first-fails (AnswerOf part root ask proof ∷ cs) key is = inr (first-fails cs key is)
