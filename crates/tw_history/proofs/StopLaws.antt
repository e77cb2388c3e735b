-- What the stops of a pass tell at the steps asked for.
use Rattle.std.proofs.Common.{◌≡◌, ℕ, ◌<◌, ◌≤◌, List, [], ◌∷◌, ◌++◌, Bool, true, false, refl, ap, sym, ◌∙◌, subst}
use Rattle.std.proofs.Common.{arith, inl, inr}
use Rattle.std.specs.Prelude.{Some, None, find, ◌==◌, if◌then◌else◌}
use Rattle.std.specs.Option.{option_map}
use Rattle.std.proofs.lemmas.Bool.{cases_lt, eq-eqb, eqb-true, le-leb, lt-leb}
use Rattle.tw_base.specs.history.Auth.{auth}
use Rattle.tw_base.specs.history.History.{History}
use Rattle.tw_base.specs.history.HistoryTexts.{texts_to}
use Rattle.tw_base.specs.kinds.Handing.{Hands}
use Rattle.tw_base.specs.kinds.Lists.{Each, In}
use Rattle.tw_base.proofs.lemmas.kinds.ListLemmas.{Each-append, Each-map, In-left, In-right}
use Rattle.tw_history.specs.declared.stops.Stop.{Stop}
use Rattle.tw_history.specs.PassSteps.{HandsOn}
use Rattle.tw_history.specs.Stops.{HasStop, HasStops, auth_to, stopped_at}

has-more : (stops more : List Stop) (step : ℕ) → HasStop stops step → HasStop (stops ++ more) step
has-more stops more step (s, has, at) = (s, In-left s stops more has, at)

module _ (dig : List ℕ → List ℕ) (h : History) (asked : List ℕ) where
  -- the beginning
  pub stops-begin : (auth_0 : List ℕ) (stops : List Stop) → auth_0 ≡ auth dig h 0
      → stops ≡ record { step = 0; auth = auth_0 } ∷ [] → HasStops dig h asked stops 0
  stops-begin auth_0 stops is pushed =
      subst (λ ss. HasStops dig h asked ss 0) (sym pushed)
      (record { own = ((omega arith, is), tt); all = all_of asked })
    where
      all_of : (steps : List ℕ) → Each (λ step. step ≤ 0 → HasStop (record { step = 0; auth = auth_0 } ∷ []) step) steps
      all_of [] = tt
      all_of (step ∷ steps) = (
        (λ within. (record { step = 0; auth = auth_0 }, inl refl, (let e : 0 ≡ step = omega (arith, within) in e))),
        all_of steps,
      )

  -- one stop more, behind which no step asked for stands before it
  pub stops-more : (stops new : List Stop) (at next : ℕ) (auth_next : List ℕ) → HasStops dig h asked stops at
      → at < next → auth_next ≡ auth dig h next → Each (λ step. step < next → step ≤ at) asked
      → new ≡ stops ++ record { step = next; auth = auth_next } ∷ []
      → HasStops dig h asked new next
  stops-more stops new at next auth_next has behind is between pushed =
      subst (λ ss. HasStops dig h asked ss next) (sym pushed) (record {
        own = Each-append _ stops (record { step = next; auth = auth_next } ∷ [])
            (Each-map _ _ stops (λ s own. (omega (arith, own.0, behind), own.1)) has.own) ((omega arith, is), tt);
        all = all_of asked has.all between;
      })
    where
      one_of : (step : ℕ) → (step ≤ at → HasStop stops step) → (step < next → step ≤ at) → step ≤ next
          → HasStop (stops ++ record { step = next; auth = auth_next } ∷ []) step
      one_of step old before within =
          elim (cases_lt step next) [
            | inl less ↦ has-more stops _ step (old (before less))
            | inr past ↦ (
              record { step = next; auth = auth_next },
              In-right _ stops _ (inl refl),
              (let e : next ≡ step = omega (arith, past, within) in e),
            )
          ]

      all_of : (steps : List ℕ) → Each (λ step. step ≤ at → HasStop stops step) steps
          → Each (λ step. step < next → step ≤ at) steps
          → Each (λ step. step ≤ next → HasStop (stops ++ record { step = next; auth = auth_next } ∷ []) step) steps
      all_of [] old before = tt
      all_of (step ∷ steps) old before = (one_of step old.0 before.0, all_of steps old.1 before.1)

  -- what is found among them
  found : (stops : List Stop) (upto step : ℕ) → Each (λ (s : Stop). (s.step ≤ upto) × (s.auth ≡ auth dig h s.step))
      stops → HasStop stops step → stopped_at stops step ≡ Some (auth dig h step)
  found [] upto step own (s, has, at) = absurd has
  found (x ∷ stops) upto step own (s, has, at) = by (λ there. found stops upto step own.1 (s, there, at))
      (x.step == step) refl
    where
      by : (In s stops → stopped_at stops step ≡ Some (auth dig h step)) → (b : Bool) → (x.step == step) ≡ b
          → option_map (λ (u : Stop). u.auth) (if b then Some x else find (λ (u : Stop). u.step == step) stops) ≡ Some
          (auth dig h step)
      by more true same = ap (λ (a : List ℕ). Some a) (own.0.1 ∙ ap (auth dig h) (eqb-true x.step step same))
      by more false apart =
          elim has [
            | inl here ↦ absurd (let is : x.step ≡ step = ap (λ (u : Stop). u.step) (sym here) ∙ at in
                let yes : (x.step == step) ≡ true = eq-eqb x.step step is in let no : true ≡ false = sym yes ∙ apart in
                cc)
            | inr there ↦ more there
          ]

  none : (stops : List Stop) (upto step : ℕ) → Each (λ (s : Stop). (s.step ≤ upto) × (s.auth ≡ auth dig h s.step)) stops
      → upto < step → stopped_at stops step ≡ None
  none [] upto step own past = refl
  none (x ∷ stops) upto step own past = by (none stops upto step own.1 past) (x.step == step) refl
    where
      by : stopped_at stops step ≡ None → (b : Bool) → (x.step == step) ≡ b → option_map (λ (u : Stop). u.auth)
          (if b then Some x else find (λ (u : Stop). u.step == step) stops) ≡ None
      by more true same = absurd (let is = eqb-true x.step step same in omega (arith, is, own.0.0, past))
      by more false apart = more

  -- at the last step they tell what the history has up to there
  pub stops-answer : (stops : List Stop) (last : ℕ) → HasStops dig h asked stops last
      → Each (λ step. stopped_at stops step ≡ auth_to dig h last step) asked
  stops-answer stops last has = Each-map _ _ asked one has.all
    where
      one : (step : ℕ) → (step ≤ last → HasStop stops step) → stopped_at stops step ≡ auth_to dig h last step
      one step all =
          elim (cases_lt last step) [
            | inl past ↦ none stops last step has.own past
                ∙ sym (ap (λ b. if b then Some (auth dig h step) else None) (lt-leb step last past))
            | inr within ↦ found stops last step has.own (all within)
                ∙ sym (ap (λ b. if b then Some (auth dig h step) else None) (le-leb step last within))
          ]

module _ (dig : List ℕ → List ℕ) (h : History) {S : Type 0} (took : S → List (List ℕ) → Type 0) where
  -- from step to step, and on
  pub handed-on : (a b c : S) (i j k : ℕ) → HandsOn dig h took a b i j → HandsOn dig h took b c j k
      → HandsOn dig h took a c i k
  handed-on a b c i j k first second = record { behind = λ before has. second.behind before (first.behind before has) }

  -- up to the last step, behind what was before the first
  pub handed-to : (a b c : S) (last : ℕ) → Hands took a b (texts_to dig h 0) → HandsOn dig h took b c 0 last
      → Hands took a c (texts_to dig h last)
  handed-to a b c last first rest = record { behind = λ before has. rest.behind before (first.behind before has) }
