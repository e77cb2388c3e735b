-- What was heard of proofs, weighed against the history.
use Rattle.std.proofs.Common.{◌≡◌, ℕ, ◌+◌, ◌<◌, ◌≤◌, List, [], ◌∷◌, length, Bool, true, false, refl, ap, sym, ◌∙◌}
use Rattle.std.proofs.Common.{subst, arith, inl, inr}
use Rattle.std.specs.Prelude.{◌≢◌, Option, Some, None, nat_le, nat_lt, if◌then◌else◌, Result, Ok, Err, IfOk}
use Rattle.std.proofs.lemmas.Bool.{false≢true, leb-true}
use Rattle.std.proofs.lemmas.Option.{none-some, same_Some}
use Rattle.std.proofs.lemmas.Slice.Eq.{bytes_eq-Decides}
use Rattle.tw_base.specs.declared.history.thread.Thread.{Thread}
use Rattle.tw_base.specs.history.Auth.{auth, auth_within}
use Rattle.tw_base.specs.history.History.{History}
use Rattle.tw_base.specs.kinds.Lists.{Each}
use Rattle.tw_adopt.specs.declared.adopted.AdoptFault.{AdoptFault}
use Rattle.tw_adopt.specs.declared.adopted.AdoptFault.TheVariants.{Part, Stranger, Differs, NoMemory}
use Rattle.tw_adopt.specs.declared.receiving.Receiving.{Receiving}
use Rattle.tw_adopt.specs.Adopting.{AreGood, IsFirstFault, IsOther, further, furthest}
use Rattle.tw_adopt.specs.Hearing.{AreHeard, IsWeighed}
use Rattle.tw_adopt.specs.Stops.{differing, is_auth_found}

-- what was found is the authenticator, or isn't
pub found-is : (found : Option (List ℕ)) (held : List ℕ) → is_auth_found found held ≡ true → found ≡ Some held
found-is None held is = absurd (false≢true is)
found-is (Some auth) held is = ap (λ (a : List ℕ). Some a) ((bytes_eq-Decides auth held).0 is)

pub found-not : (found : Option (List ℕ)) (held : List ℕ) → is_auth_found found held ≡ false → found ≢ Some held
found-not None held is same = none-some held same
found-not (Some auth) held is same =
    false≢true (sym is ∙ (bytes_eq-Decides auth held).1 (same_Some auth held same))

-- an authenticator that the history has is of one of its steps
pub within-some : (dig : List ℕ → List ℕ) (h : History) (step : ℕ) (held : List ℕ) → auth_within dig h step ≡ Some held
    → (step ≤ length h.steps) × (auth dig h step ≡ held)
within-some dig h step held is = by (nat_le step (length h.steps)) refl is
  where
    by : (b : Bool) → nat_le step (length h.steps) ≡ b → (if b then Some (auth dig h step) else None) ≡ Some held
        → (step ≤ length h.steps) × (auth dig h step ≡ held)
    by true test same = (leb-true step (length h.steps) test, same_Some (auth dig h step) held same)
    by false test same = absurd (none-some held same)

-- what holds of all that was shown, holds of the furthest
pub furthest-each : (P : Receiving → Type 0) (first : Receiving) (rest : List Receiving) → P first → Each P rest
    → P (furthest first rest)
furthest-each P first [] one all = one
furthest-each P first (t ∷ rest) one all = furthest-each P (further first t) rest
    (by (nat_lt first.entry.thread.step t.entry.thread.step)) all.1
  where
    by : (b : Bool) → P (if b then t else first)
    by true = all.0
    by false = one

-- a fault that shows something is no want of memory
fault-known : (dig : List ℕ → List ℕ) (anchors : List Thread) (h : History) (proofs : List (List ℕ))
    (fault : AdoptFault) → IsFirstFault dig anchors h 1 proofs fault
    → IsWeighed dig anchors h proofs (Err fault)
fault-known dig anchors h proofs (Part number reason) is = is
fault-known dig anchors h proofs (Stranger number) is = is
fault-known dig anchors h proofs (Differs number step held found) is = is
fault-known dig anchors h proofs NoMemory is = tt

module _ (dig : List ℕ → List ℕ) (h : History) where
  -- the history has the authenticator that was shown
  abbrev pub Agrees : Receiving → Type 0
  Agrees t = auth_within dig h t.entry.thread.step ≡ Some t.entry.thread.auth

  pub none-differs : (number : ℕ) (shown : List Receiving) → differing dig h number shown ≡ None → Each Agrees shown
  none-differs number [] none = tt
  none-differs number (t ∷ shown) none =
      by (none-differs (number + 1) shown) (is_auth_found (auth_within dig h t.entry.thread.step) t.entry.thread.auth)
      refl none
    where
      by : (differing dig h (number + 1) shown ≡ None → Each Agrees shown) → (b : Bool)
          → is_auth_found (auth_within dig h t.entry.thread.step) t.entry.thread.auth ≡ b
          → (if b then differing dig h (number + 1) shown else Some
          (Differs number t.entry.thread.step t.entry.thread.auth (auth_within dig h t.entry.thread.step))) ≡ None
          → Agrees t × Each Agrees shown
      by behind true test rest = (found-is (auth_within dig h t.entry.thread.step) t.entry.thread.auth test, behind rest)
      by behind false test rest = absurd (none-some _ (sym rest))

  module _ (anchors : List Thread) where
    -- the first from which it differs is the first fault
    pub differs-first : (number : ℕ) (proofs : List (List ℕ)) (shown : List Receiving) (stopped : Option AdoptFault)
        (fault : AdoptFault) → AreHeard dig anchors h number proofs shown stopped
        → differing dig h number shown ≡ Some fault → IsFirstFault dig anchors h number proofs fault
    differs-first number proofs [] stopped fault heard some = absurd (none-some fault some)
    differs-first number [] (t ∷ shown) stopped fault heard some = absurd heard
    differs-first number (bytes ∷ proofs) (t ∷ shown) stopped fault heard some =
        by (differs-first (number + 1) proofs shown stopped fault heard.1)
        (is_auth_found (auth_within dig h t.entry.thread.step) t.entry.thread.auth) refl some
      where
        other : IsOther dig anchors h bytes t.entry.thread.step t.entry.thread.auth
            (auth_within dig h t.entry.thread.step) → IsFirstFault dig anchors h number (bytes ∷ proofs)
            (Differs number t.entry.thread.step t.entry.thread.auth (auth_within dig h t.entry.thread.step))
        other is = inl (refl, is)

        by : (differing dig h (number + 1) shown ≡ Some fault → IsFirstFault dig anchors h (number + 1) proofs fault)
            → (b : Bool)
            → is_auth_found (auth_within dig h t.entry.thread.step) t.entry.thread.auth ≡ b
            → (if b then differing dig h (number + 1) shown else Some
            (Differs number t.entry.thread.step t.entry.thread.auth (auth_within dig h t.entry.thread.step))) ≡ Some
            fault
            → IsFirstFault dig anchors h number (bytes ∷ proofs) fault
        by behind true test rest =
            inr (t, (heard.0, found-is (auth_within dig h t.entry.thread.step) t.entry.thread.auth test), behind rest)
        by behind false test rest =
            subst (λ (f : AdoptFault). IsFirstFault dig anchors h number (bytes ∷ proofs) f) (same_Some _ fault rest)
            (other (record {
              shown = t;
              shows = heard.0;
              step_is = refl;
              held_is = refl;
              found_is = refl;
              differs = found-not (auth_within dig h t.entry.thread.step) t.entry.thread.auth test;
            }))

    -- where it agrees with all that was shown, the fault behind these is the first
    pub stopped-first : (number : ℕ) (proofs : List (List ℕ)) (shown : List Receiving) (fault : AdoptFault)
        → AreHeard dig anchors h number proofs shown (Some fault) → Each Agrees shown
        → IsFirstFault dig anchors h number proofs fault
    stopped-first number [] [] fault heard agree = absurd heard
    stopped-first number [] (t ∷ shown) fault heard agree = absurd heard
    stopped-first number (bytes ∷ proofs) [] fault heard agree = inl heard
    stopped-first number (bytes ∷ proofs) (t ∷ shown) fault heard agree =
        inr (t, (heard.0, agree.0), stopped-first (number + 1) proofs shown fault heard.1 agree.1)

    -- and where there is none, each proof is good
    pub heard-good : (number : ℕ) (proofs : List (List ℕ)) (shown : List Receiving) → AreHeard dig anchors h number
        proofs shown None → Each Agrees shown → AreGood dig anchors h proofs shown
    heard-good number [] [] heard agree = tt
    heard-good number [] (t ∷ shown) heard agree = absurd heard
    heard-good number (bytes ∷ proofs) [] heard agree = absurd heard
    heard-good number (bytes ∷ proofs) (t ∷ shown) heard agree =
        ((heard.0, agree.0), heard-good (number + 1) proofs shown heard.1 agree.1)

    -- ---- what is decided

    pub decided-differs : (proofs : List (List ℕ)) (shown : List Receiving) (stopped : Option AdoptFault)
        (fault : AdoptFault) → AreHeard dig anchors h 1 proofs shown stopped
        → Some fault ≡ differing dig h 1 shown → IsWeighed dig anchors h proofs (Err fault)
    decided-differs proofs shown stopped fault heard some = fault-known dig anchors h proofs fault
        (differs-first 1 proofs shown stopped fault heard (sym some))

    pub decided : (proofs : List (List ℕ)) (shown : List Receiving) (stopped : Option AdoptFault)
        (result : Result Receiving AdoptFault)
        → AreHeard dig anchors h 1 proofs shown stopped → None ≡ differing dig h 1 shown
        → ((fault : AdoptFault) → stopped ≡ Some fault → result ≡ Err fault)
        → ((first : Receiving) (rest : List Receiving) → stopped ≡ None → shown ≡ first ∷ rest
        → result ≡ Ok (furthest first rest))
        → (stopped ≡ None → 0 < length shown) → IsWeighed dig anchors h proofs result
    decided proofs shown (Some fault) result heard none stops goes some =
        subst (λ r. IsWeighed dig anchors h proofs r) (sym (stops fault refl))
        (fault-known dig anchors h proofs fault (stopped-first 1 proofs shown fault heard
        (none-differs 1 shown (sym none))))
    decided proofs [] None result heard none stops goes some = absurd (let never = some refl in omega (arith, never))
    decided proofs (first ∷ rest) None result heard none stops goes some =
        subst (λ r. IsWeighed dig anchors h proofs r) (sym (goes first rest refl refl))
        (first, rest, heard-good 1 proofs (first ∷ rest) heard (none-differs 1 (first ∷ rest) (sym none)), refl)

  -- what is decided is of a step that the history has
  pub decided-inside : (shown : List Receiving) (stopped : Option AdoptFault) (result : Result Receiving AdoptFault)
      → None ≡ differing dig h 1 shown
      → ((fault : AdoptFault) → stopped ≡ Some fault → result ≡ Err fault)
      → ((first : Receiving) (rest : List Receiving) → stopped ≡ None → shown ≡ first ∷ rest
      → result ≡ Ok (furthest first rest))
      → (stopped ≡ None → 0 < length shown) → IfOk result (λ r. r.entry.thread.step ≤ length h.steps)
  decided-inside shown (Some fault) result none stops goes some =
      subst (λ (r : Result Receiving AdoptFault). IfOk r (λ r. r.entry.thread.step ≤ length h.steps))
      (sym (stops fault refl)) tt
  decided-inside [] None result none stops goes some = absurd (let never = some refl in omega (arith, never))
  decided-inside (first ∷ rest) None result none stops goes some =
      let agree = none-differs 1 (first ∷ rest) (sym none) in
      let held : Agrees (furthest first rest) = furthest-each Agrees first rest agree.0 agree.1 in
      subst (λ (r : Result Receiving AdoptFault). IfOk r (λ r. r.entry.thread.step ≤ length h.steps))
      (sym (goes first rest refl refl))
      (within-some dig h (furthest first rest).entry.thread.step (furthest first rest).entry.thread.auth held).0
