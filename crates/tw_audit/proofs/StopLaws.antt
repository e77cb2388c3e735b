-- What the stops of passes tell of the threads held.
use Rattle.std.proofs.Common.{◌≡◌, ℕ, ◌+◌, ◌<◌, List, [], ◌∷◌, ◌++◌, length, get_or, take, Bool, true, false}
use Rattle.std.proofs.Common.{◌∙◌, refl, ap, sym, subst, inl, inr}
use Rattle.std.specs.Prelude.{Some, None, option_and_then, if◌then◌else◌}
use Rattle.std.specs.Str.{bytes_eq}
use Rattle.std.proofs.lemmas.Slice.Eq.{bytes_eq-Decides}
use Rattle.tw_base.specs.declared.history.thread.Thread.{Thread}
use Rattle.tw_base.specs.history.Family.{history_of}
use Rattle.tw_base.specs.history.History.{History}
use Rattle.tw_base.specs.kinds.Lists.{Each, In}
use Rattle.tw_base.proofs.lemmas.kinds.ListLemmas.{Each-in, Each-map, In-left, In-right}
use Rattle.tw_history.specs.declared.stops.Stop.{Stop}
use Rattle.tw_history.specs.Stops.{auth_to, stopped_at}
use Rattle.tw_audit.specs.declared.passing.Passed.{Passed}
use Rattle.tw_base.specs.history.Auth.{auth_within}
use Rattle.tw_audit.specs.Auditing.{auth_in}
use Rattle.tw_audit.specs.Stops.{AnswerInTurn, AnswersAll, found_by_stops}
use Rattle.tw_audit.proofs.LoopLaws.{each-more}

module _ (name : List ℕ) (held : List Thread) (i : ℕ) (t : Thread) (inside : i < length held)
    (is : t ≡ get_or held i t) where
  -- the steps of the threads of the service, and one thread more, of the service
  pub steps-more : (steps new : List ℕ) → Each (λ (u : Thread). u.from ≡ name → In u.step steps) (take i held)
      → new ≡ steps ++ t.step ∷ [] → Each (λ (u : Thread). u.from ≡ name → In u.step new) (take (i + 1) held)
  steps-more steps new has pushed =
      each-more (λ (u : Thread). u.from ≡ name → In u.step new) held i t inside
      (Each-map _ _ (take i held)
      (λ u old of. subst (λ ss. In u.step ss) (sym pushed) (In-left u.step steps (t.step ∷ []) (old of))) has)
      (subst (λ (u : Thread). u.from ≡ name → In u.step new) is
      (λ of. subst (λ ss. In t.step ss) (sym pushed) (In-right t.step steps (t.step ∷ []) (inl refl))))

  -- or of another
  pub steps-same : (steps new : List ℕ) → Each (λ (u : Thread). u.from ≡ name → In u.step steps) (take i held)
      → new ≡ steps → bytes_eq t.from name ≡ false
      → Each (λ (u : Thread). u.from ≡ name → In u.step new) (take (i + 1) held)
  steps-same steps new has same other =
      subst (λ ss. Each (λ (u : Thread). u.from ≡ name → In u.step ss) (take (i + 1) held)) (sym same)
      (each-more (λ (u : Thread). u.from ≡ name → In u.step steps) held i t inside has
      (subst (λ (u : Thread). u.from ≡ name → In u.step steps) is
      (λ of. absurd (let yes : bytes_eq t.from name ≡ true = (bytes_eq-Decides t.from name).1 of in
      let no : true ≡ false = sym yes ∙ other in cc))))

-- what was kept at each of the steps tells of the threads what the history has
pub stops-answer : (dig : List ℕ → List ℕ) (h : History) (held : List Thread) (steps : List ℕ) (stops : List Stop)
    → Each (λ (t : Thread). t.from ≡ h.name → In t.step steps) held
    → Each (λ step. stopped_at stops step ≡ auth_to dig h (length h.steps) step) steps
    → Each (λ (t : Thread). t.from ≡ h.name → stopped_at stops t.step ≡ auth_within dig h t.step) held
stops-answer dig h held steps stops inside tells =
    Each-map _ _ held (λ t has of. Each-in _ steps t.step tells (has of)) inside

module _ (dig : List ℕ → List ℕ) (held : List Thread) where
  -- a thread that is held, by the first history of its service
  turn-at : (family : List History) (passed : List Passed) → AnswerInTurn dig held family passed → (t : Thread)
      → In t held → found_by_stops passed t ≡ auth_in dig family t
  turn-at [] [] turn t has = refl
  turn-at [] (p ∷ passed) turn t has = absurd turn
  turn-at (h ∷ family) [] turn t has = absurd turn
  turn-at (h ∷ family) (p ∷ passed) turn t has = branch (turn-at family passed turn.1 t has) (bytes_eq h.name t.from)
      refl
    where
      branch : found_by_stops passed t ≡ auth_in dig family t → (b : Bool) → bytes_eq h.name t.from ≡ b
          → found_by_stops (p ∷ passed) t ≡ auth_in dig (h ∷ family) t
      branch rest true same =
          ap (λ b. if b then stopped_at p.stops.items t.step else found_by_stops passed t)
          (ap (λ n. bytes_eq n t.from) turn.0.service ∙ same)
          ∙ Each-in _ held t turn.0.found has (sym ((bytes_eq-Decides h.name t.from).0 same))
          ∙ sym (ap (λ b. option_and_then (λ g. auth_within dig g t.step) (if b then Some h else history_of family
          t.from)) same)
      branch rest false apart =
          ap (λ b. if b then stopped_at p.stops.items t.step else found_by_stops passed t)
          (ap (λ n. bytes_eq n t.from) turn.0.service ∙ apart)
          ∙ rest
          ∙ sym (ap (λ b. option_and_then (λ g. auth_within dig g t.step) (if b then Some h else history_of family
          t.from)) apart)

  turn-of : (family : List History) (passed : List Passed) → AnswerInTurn dig held family passed → (ts : List Thread)
      → ((t : Thread) → In t ts → In t held)
      → Each (λ (t : Thread). found_by_stops passed t ≡ auth_in dig family t) ts
  turn-of family passed turn [] inside = tt
  turn-of family passed turn (t ∷ ts) inside =
      (turn-at family passed turn t (inside t (inl refl)), turn-of family passed turn ts (λ u has. inside u (inr has)))

  -- and so of the whole family
  pub turn-answers : (family : List History) (passed : List Passed) → AnswerInTurn dig held family passed
      → AnswersAll dig family held passed
  turn-answers family passed turn = turn-of family passed turn held (λ t has. has)
