-- Which threads a family has.
use Rattle.std.proofs.Common.{◌≡◌, ℕ, List, [], ◌∷◌, ◌++◌, length, Bool, true, false, refl, ap, ◌∙◌, subst}
use Rattle.std.specs.Prelude.{Option, Some, None, find, nat_le, not, option_and_then, if◌then◌else◌}
use Rattle.std.proofs.lemmas.Bool.{le-leb, leb-true}
use Rattle.std.proofs.lemmas.Slice.Eq.{bytes_eq-Decides}
use Rattle.tw_base.specs.declared.history.thread.Thread.{Thread}
use Rattle.tw_base.specs.history.Auth.{auth, auth_within}
use Rattle.tw_base.specs.history.Family.{HasThread, HasThreads, history_of}
use Rattle.tw_base.specs.history.History.{History}
use Rattle.tw_audit.specs.Auditing.{agrees_with, is_found}

module _ (dig : List ℕ → List ℕ) (family : List History) where
  pub agrees-has : (t : Thread) → agrees_with dig family t ≡ true → HasThread dig family t
  agrees-has t = by (history_of family t.from) refl
    where
      within : (h : History) → history_of family t.from ≡ Some h → (b : Bool) → nat_le t.step (length h.steps) ≡ b
          → is_found (if b then Some (auth dig h t.step) else None) t ≡ true → HasThread dig family t
      within h has true inside agrees =
          (h, has, leb-true t.step (length h.steps) inside, (bytes_eq-Decides (auth dig h t.step) t.auth).0 agrees)
      within h has false inside agrees = cc

      by : (o : Option History) → history_of family t.from ≡ o
          → is_found (option_and_then (λ h. auth_within dig h t.step) o) t ≡ true → HasThread dig family t
      by None none agrees = cc
      by (Some h) some agrees = within h some (nat_le t.step (length h.steps)) refl agrees

  pub has-agrees : (t : Thread) → HasThread dig family t → agrees_with dig family t ≡ true
  has-agrees t has =
      let h : History = has.0 in
      ap (λ o. is_found (option_and_then (λ g. auth_within dig g t.step) o) t) has.1
      ∙ ap (λ b. is_found (if b then Some (auth dig h t.step) else None) t) (le-leb t.step (length h.steps) has.2)
      ∙ (bytes_eq-Decides (auth dig h t.step) t.auth).1 has.3

  abbrev lacks : Thread → Bool
  lacks t = not (agrees_with dig family t)

  -- where none is missing, all are there
  pub none-missing : (ts : List Thread) → find lacks ts ≡ None → HasThreads dig family ts
  none-missing [] none = tt
  none-missing (t ∷ ts) none = by (none-missing ts) (agrees_with dig family t) refl none
    where
      by : (find lacks ts ≡ None → HasThreads dig family ts) → (b : Bool) → agrees_with dig family t ≡ b
          → (if not b then Some t else find lacks ts) ≡ None → HasThreads dig family (t ∷ ts)
      by more true agrees rest = (agrees-has t agrees, more rest)
      by more false agrees rest = cc

  -- those before the first that is missing are there, and it isn't
  pub record Missing (ts : List Thread) (t : Thread) : Type 0 where
    pub before : List Thread
    pub after : List Thread
    pub split : ts ≡ before ++ t ∷ after
    pub there : HasThreads dig family before
    pub lacked : HasThread dig family t → ⊥

  pub first-missing : (ts : List Thread) (t : Thread) → find lacks ts ≡ Some t → Missing ts t
  first-missing [] t some = cc
  first-missing (u ∷ ts) t some = by (first-missing ts t) (agrees_with dig family u) refl some
    where
      by : (find lacks ts ≡ Some t → Missing ts t) → (b : Bool) → agrees_with dig family u ≡ b
          → (if not b then Some u else find lacks ts) ≡ Some t → Missing (u ∷ ts) t
      by later true agrees rest =
          let more = later rest in
          record {
            before = u ∷ more.before;
            after = more.after;
            split = ap (λ us. u ∷ us) more.split;
            there = (agrees-has u agrees, more.there);
            lacked = more.lacked;
          }
      by later false agrees rest =
          let same : u ≡ t = cc in
          record {
            before = [];
            after = ts;
            split = ap (λ v. v ∷ ts) same;
            there = tt;
            lacked = λ has. (let yes : agrees_with dig family t ≡ true = has-agrees t has in let no : agrees_with dig
                family t ≡ false = subst (λ v. agrees_with dig family v ≡ false) same agrees in cc);
          }
