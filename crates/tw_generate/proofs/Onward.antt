-- Histories that go on: what they had stays.
use Rattle.std.proofs.Common.{◌≡◌, ◌⊎◌, ℕ, suc, zero, ◌≤◌, List, [], ◌∷◌, ◌++◌, length, Bool, true, false, refl, ap}
use Rattle.std.proofs.Common.{sym, ◌∙◌, subst, inl, inr, arith}
use Rattle.std.specs.Prelude.{Option, Some, None, option_and_then, if◌then◌else◌}
use Rattle.std.specs.Option.{option_to_list}
use Rattle.std.specs.Str.{bytes_eq}
use Rattle.std.proofs.lemmas.Bool.{cases_lt}
use Rattle.std.proofs.lemmas.List.{append-nil, length_push}
use Rattle.std.proofs.lemmas.Option.{slice_get_cases}
use Rattle.tw_base.specs.declared.history.thread.Entry.{Entry}
use Rattle.tw_base.specs.declared.history.thread.Thread.{Thread}
use Rattle.tw_base.specs.history.Auth.{auth}
use Rattle.tw_base.specs.history.Family.{HasHistory, HasThread, history_of}
use Rattle.tw_base.specs.history.History.{History, Step, entry_at, events_at, events_of, plus, received, thread_of}
use Rattle.tw_base.proofs.lemmas.history.Plus.{auth-plus, entry_at-plus, received-plus, step_at-new, step_at-plus}

-- ---- one more step

abbrev pub entry_of : ℕ → Option Thread → Option Entry
entry_of i o = option_and_then (λ (t : Thread). Some (record { thread = t; archived = i })) o

pub of-thread : (i : ℕ) (o : Option Thread) (e : Entry) → entry_of i o ≡ Some e → o ≡ Some e.thread
of-thread i None e is = cc
of-thread i (Some t) e is = let same : record { thread = t; archived = i } ≡ e = cc in ap (λ (x : Entry). Some x.thread)
    same

-- no entry is of a step above the last one
pub none-above : (h : History) (k : ℕ) (e : Entry) → entry_at h k ≡ Some e → k ≤ length h.steps
none-above h zero e is = cc
none-above h (suc i) e is = elim (slice_get_cases h.steps i).1 [
  | inl there ↦ omega (arith, there.1)
  | inr past ↦ absurd (let no : entry_at h (suc i) ≡ None = ap (λ (o : Option Step). entry_of (suc i) (thread_of o))
      past.1 in let bad : None ≡ Some e = sym no ∙ is in cc)
]

-- it was received before, or by the new step
pub entry-more : (h : History) (s : Step) (k : ℕ) (e : Entry) → entry_at (plus h s) k ≡ Some e → (entry_at h k ≡ Some e)
    ⊎ (thread_of (Some s) ≡ Some e.thread)
entry-more h s k e is = elim (cases_lt (length h.steps) k) [
  | inl new ↦
      let within : k ≤ length (plus h s).steps = none-above (plus h s) k e is in
      let at : k ≡ suc (length h.steps) = omega (arith, new, within, length_push h.steps s) in
      inr (of-thread (suc (length h.steps)) (thread_of (Some s)) e
      (ap (λ (o : Option Step). entry_of (suc (length h.steps)) (thread_of o)) (sym (step_at-new h s))
      ∙ subst (λ n. entry_at (plus h s) n ≡ Some e) at is))
  | inr old ↦ inl (sym (entry_at-plus h s k old) ∙ is)
]

-- what was received, with one more step
pub received-more : (h : History) (s : Step)
    → received (plus h s) (length (plus h s).steps) ≡ received h (length h.steps) ++ option_to_list
    (entry_of (suc (length h.steps)) (thread_of (Some s)))
unfolding received
received-more h s =
    let longer : length (plus h s).steps ≡ suc (length h.steps) = length_push h.steps s ∙ omega arith in
    ap (received (plus h s)) longer
    ∙ ap (λ (es : List Entry). es ++ option_to_list (entry_at (plus h s) (suc (length h.steps))))
    (received-plus h s (length h.steps) (omega arith))
    ∙ ap (λ (o : Option Step). received h (length h.steps) ++ option_to_list
    (entry_of (suc (length h.steps)) (thread_of o))) (step_at-new h s)

-- ---- a history that goes on

module _ (dig : List ℕ → List ℕ) where
  pub record GoesOn (before after : History) : Type 0 where
    pub name : after.name ≡ before.name
    pub longer : length before.steps ≤ length after.steps
    pub auths : (i : ℕ) → i ≤ length before.steps → auth dig after i ≡ auth dig before i
    pub events : (i : ℕ) → i ≤ length before.steps → events_at after i ≡ events_at before i
    pub more : List Entry
    pub heard : received after (length after.steps) ≡ received before (length before.steps) ++ more

  pub on-same : (h : History) → GoesOn h h
  on-same h =
      record {
        name = refl;
        longer = omega arith;
        auths = λ i within. refl;
        events = λ i within. refl;
        more = [];
        heard = sym (append-nil (received h (length h.steps)));
      }

  pub on-plus : (h : History) (s : Step) → GoesOn h (plus h s)
  on-plus h s = record {
    name = refl;
    longer = omega (arith, length_push h.steps s);
    auths = λ i within. auth-plus h s dig i within;
    events = λ i within. ap events_of (step_at-plus h s i within);
    more = option_to_list (entry_of (suc (length h.steps)) (thread_of (Some s)));
    heard = received-more h s;
  }

  -- ---- histories side by side

  abbrev pub AllGoOn : (before after : List History) → Type 0
  AllGoOn [] [] = Unit {0}
  AllGoOn [] (h ∷ after) = ⊥
  AllGoOn (g ∷ before) [] = ⊥
  AllGoOn (g ∷ before) (h ∷ after) = GoesOn g h × AllGoOn before after

  pub history-on : (before after : List History) → AllGoOn before after → (name : List ℕ) (x : History)
      → HasHistory before name x
      → (y : History) × HasHistory after name y × GoesOn x y
  history-on [] [] on name x has = cc
  history-on [] (h ∷ after) on name x has = absurd on
  history-on (g ∷ before) [] on name x has = absurd on
  history-on (g ∷ before) (h ∷ after) on name x has = by (bytes_eq g.name name) refl has
      (λ is. history-on before after on.1 name x is)
    where
      by : (b : Bool) → bytes_eq g.name name ≡ b → (if b then Some g else history_of before name) ≡ Some x
          → (HasHistory before name x → (y : History) × HasHistory after name y × GoesOn x y) → (y : History)
          × HasHistory (h ∷ after) name y × GoesOn x y
      by true is has rest =
          let same : g ≡ x = cc in (
            h,
            ap (λ b. if b then Some h else history_of after name) (ap (λ n. bytes_eq n name) on.0.name ∙ is),
            subst (λ (z : History). GoesOn z h) same on.0,
          )
      by false is has rest =
          let there = rest has in (
            there.0,
            ap (λ b. if b then Some h else history_of after name) (ap (λ n. bytes_eq n name) on.0.name ∙ is) ∙ there.1,
            there.2,
          )

  pub thread-on : (before after : List History) → AllGoOn before after → (t : Thread) → HasThread dig before t
      → HasThread dig after t
  thread-on before after on t has =
      let next = history-on before after on t.from has.0 has.1 in
      (next.0, next.1, omega (arith, has.2, next.2.longer), next.2.auths t.step has.2 ∙ has.3)
