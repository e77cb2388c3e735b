-- The proof that is claimed of three histories is accepted under their heads, and so are their map files.
use Rattle.std.proofs.Common.{◌≡◌, ℕ, ◌≤◌, List, [], ◌∷◌, length, Bool, true, false, refl, ap, sym, ◌∙◌, subst, arith}
use Rattle.std.specs.Prelude.{◌==◌, ◌&&◌, Option, Some, None, if◌then◌else◌}
use Rattle.std.specs.List.{flat_map}
use Rattle.std.specs.Option.{option_to_list}
use Rattle.std.specs.Str.{bytes_eq}
use Rattle.std.proofs.lemmas.Bool.{and_from, eq-eqb}
use Rattle.std.proofs.lemmas.Slice.Eq.{bytes_eq-Decides}
use Rattle.tw_base.specs.declared.history.thread.Key.{Key}
use Rattle.tw_base.specs.declared.history.thread.Thread.{Thread}
use Rattle.tw_base.specs.history.Anchors.{anchor_of, is_at}
use Rattle.tw_base.specs.history.Auth.{auth}
use Rattle.tw_base.specs.history.Chains.{HopStands}
use Rattle.tw_base.specs.history.Family.{HasHistory, HasThread, history_of}
use Rattle.tw_base.specs.history.History.{History, entry_at}
use Rattle.tw_base.specs.kinds.Lists.{Each}
use Rattle.tw_base.proofs.lemmas.kinds.ListLemmas.{Each-append}
use Rattle.tw_chain.specs.Checks.{Check}
use Rattle.tw_chain.specs.Checks.Check.{AnswerOf, CarriesThread, EventOf, InOrder, LinkOf, NeedsAnchor, OpeningOf}
use Rattle.tw_chain.specs.Checks.Check.{PathOf}
use Rattle.tw_chain.specs.OwnProofs.{IsOwnProof}
use Rattle.tw_chain.specs.Passing.{anchor_at, carried_by, held_by}
use Rattle.tw_chain.specs.declared.proof.Proof.{Proof}
use Rattle.tw_chain.specs.declared.proof.ThreadProof.{ThreadProof}
use Rattle.tw_join.specs.Joining.{shown_hop}
use Rattle.tw_join.specs.OwnParts.{IsMade}
use Rattle.tw_service.specs.Machine.{last_thread}
use Rattle.tw_generate.specs.Schedules.{Trio, Who, alpha_name, beta_name, trio_history}
use Rattle.tw_generate.specs.Schedules.Who.{Alpha, Beta, Gamma}
use Rattle.tw_generate.specs.Summing.{last, trio_family, trio_heads}
use Rattle.tw_generate.proofs.Standing.{AreNamed, Stand, has-own, own-thread}

-- ---- anchors

abbrev found_at : (t : Thread) (ts : List Thread) (name : List ℕ) (step : ℕ) → Bool → Option Thread
found_at t ts name step b = if b then Some t else anchor_of ts name step

same-place : (t : Thread) → is_at t.from t.step t ≡ true
same-place t = and_from (bytes_eq t.from t.from) (t.step == t.step) ((bytes_eq-Decides t.from t.from).1 refl)
    (eq-eqb t.step t.step refl)

-- an anchor that is found is one of those that are held
anchor-in : (anchors : List Thread) (name : List ℕ) (step : ℕ) (t : Thread) (P : Thread → Type 0) → Each P anchors
    → anchor_of anchors name step ≡ Some t → P t
anchor-in [] name step t P all is = cc
anchor-in (a ∷ anchors) name step t P all is = by (is_at name step a) is (λ rest. anchor-in anchors name step t P all.1
    rest)
  where
    by : (b : Bool) → (if b then Some a else anchor_of anchors name step) ≡ Some t
        → (anchor_of anchors name step ≡ Some t → P t) → P t
    by true is rest = let same : a ≡ t = cc in subst P same all.0
    by false is rest = rest is

module _ (dig : List ℕ → List ℕ) where
  -- the head of each is found among the heads
  pub head-found : (who : Who) (t : Trio) → AreNamed t → anchor_of (trio_heads dig t) (trio_history who t).name
      (last (trio_history who t)) ≡ Some (last_thread dig (trio_history who t))
  head-found Alpha t names = ap (found_at (last_thread dig t.alpha) (last_thread dig t.beta ∷ last_thread dig t.gamma
      ∷ []) t.alpha.name (last t.alpha)) (same-place (last_thread dig t.alpha))
  head-found Beta t names =
      let apart : bytes_eq t.alpha.name t.beta.name ≡ false = ap (λ n. bytes_eq n t.beta.name) names.alpha
      ∙ ap (bytes_eq alpha_name) names.beta in
      ap (found_at (last_thread dig t.alpha) (last_thread dig t.beta ∷ last_thread dig t.gamma ∷ []) t.beta.name
      (last t.beta)) (ap (λ b. b && last t.alpha == last t.beta) apart)
      ∙ ap (found_at (last_thread dig t.beta) (last_thread dig t.gamma ∷ []) t.beta.name (last t.beta))
      (same-place (last_thread dig t.beta))
  head-found Gamma t names =
      let one : bytes_eq t.alpha.name t.gamma.name ≡ false = ap (λ n. bytes_eq n t.gamma.name) names.alpha
      ∙ ap (bytes_eq alpha_name) names.gamma in
      let two : bytes_eq t.beta.name t.gamma.name ≡ false = ap (λ n. bytes_eq n t.gamma.name) names.beta
      ∙ ap (bytes_eq beta_name) names.gamma in
      ap (found_at (last_thread dig t.alpha) (last_thread dig t.beta ∷ last_thread dig t.gamma ∷ []) t.gamma.name
      (last t.gamma)) (ap (λ b. b && last t.alpha == last t.gamma) one)
      ∙ ap (found_at (last_thread dig t.beta) (last_thread dig t.gamma ∷ []) t.gamma.name (last t.gamma))
      (ap (λ b. b && last t.beta == last t.gamma) two)
      ∙ ap (found_at (last_thread dig t.gamma) [] t.gamma.name (last t.gamma)) (same-place (last_thread dig t.gamma))

  heads-had : (t : Trio) → AreNamed t → Each (HasThread dig (trio_family t)) (trio_heads dig t)
  heads-had t names = (
    own-thread dig Alpha t (last t.alpha) names (omega arith),
    (
      own-thread dig Beta t (last t.beta) names (omega arith),
      (own-thread dig Gamma t (last t.gamma) names (omega arith), tt),
    ),
  )

  abbrev pub IsKeyHeld : Trio → Key → Type 0
  IsKeyHeld t key = (anchor : Thread) × (anchor_at (trio_heads dig t) key ≡ Some anchor) × HasThread dig (trio_family t)
      anchor

  pub key-held : (who : Who) (t : Trio) (key : Key) → AreNamed t → key.from ≡ (trio_history who t).name
      → key.step ≡ last (trio_history who t) → IsKeyHeld t key
  key-held who t key names from at = (
    last_thread dig (trio_history who t),
    ap (λ n. anchor_of (trio_heads dig t) n key.step) from ∙ ap (anchor_of (trio_heads dig t) (trio_history who t).name)
        at ∙ head-found who t names,
    own-thread dig who t (last (trio_history who t)) names (omega arith),
  )

  -- where no thread is carried, the histories have all threads that are held
  pub held-had : (t : Trio) (cs : List Check) → AreNamed t → flat_map carried_by cs ≡ []
      → Each (HasThread dig (trio_family t)) (flat_map (held_by (trio_heads dig t)) cs)
  held-had t [] names none = tt
  held-had t (InOrder lower upper ∷ cs) names none = held-had t cs names none
  held-had t (NeedsAnchor key ∷ cs) names none =
      Each-append (HasThread dig (trio_family t)) (option_to_list (anchor_at (trio_heads dig t) key))
      (flat_map (held_by (trio_heads dig t)) cs) (by (anchor_at (trio_heads dig t) key) refl) (held-had t cs names none)
    where
      by : (o : Option Thread) → anchor_at (trio_heads dig t) key ≡ o → Each (HasThread dig (trio_family t))
          (option_to_list o)
      by None is = tt
      by (Some a) is =
          (anchor-in (trio_heads dig t) key.from key.step a (HasThread dig (trio_family t)) (heads-had t names) is, tt)
  held-had t (CarriesThread thread ∷ cs) names none = cc
  held-had t (PathOf part at upper ∷ cs) names none = held-had t cs names none
  held-had t (LinkOf part l ∷ cs) names none = held-had t cs names none
  held-had t (OpeningOf part thread o ∷ cs) names none = held-had t cs names none
  held-had t (EventOf part o e ∷ cs) names none = held-had t cs names none
  held-had t (AnswerOf part root ask proof ∷ cs) names none = held-had t cs names none

  -- a thread of one of them is one that it has
  pub own-had : (who : Who) (t : Trio) (thread : Thread) → AreNamed t → HasThread dig (trio_family t) thread
      → thread.from ≡ (trio_history who t).name
      → (thread.step ≤ last (trio_history who t)) × (auth dig (trio_history who t) thread.step ≡ thread.auth)
  own-had who t thread names had from =
      let there : Some had.0 ≡ Some (trio_history who t) = sym had.1 ∙ ap (history_of (trio_family t)) from
      ∙ has-own who t names in
      let same : had.0 ≡ trio_history who t = cc in
      subst (λ (h : History). (thread.step ≤ length h.steps) × (auth dig h thread.step ≡ thread.auth)) same
      (had.2, had.3)

  -- ---- a part that one of the histories made

  pub made-by : (who : Who) (t : Trio) (step top : ℕ) (p : Proof) → AreNamed t → step ≤ top
      → top ≤ last (trio_history who t) → IsOwnProof dig (trio_history who t) step top p → IsMade dig (trio_family t) p
  made-by who t step top p names order within own = record {
    history = trio_history who t;
    has = has-own who t names;
    step = step;
    top = top;
    order = order;
    within = within;
    own = own;
  }

  pub hop-stands : (who : Who) (t : Trio) (p : ThreadProof) (most : ℕ) → Stand dig t most
      → p.at.service ≡ (trio_history who t).name → entry_at (trio_history who t) p.entry.archived ≡ Some p.entry
      → HasThread dig (trio_family t) p.entry.thread → HopStands dig (trio_family t) (shown_hop p)
  hop-stands who t p most s service at had = record {
    source = had.0;
    has_source = had.1;
    within = had.2;
    archive = trio_history who t;
    has_archive = subst (λ n. HasHistory (trio_family t) n (trio_history who t)) (sym service) (has-own who t s.names);
    received =
        at ∙ ap (λ a. Some
        (record {
          thread = record { from = p.entry.thread.from; step = p.entry.thread.step; auth = a };
          archived = p.entry.archived;
        })) (sym had.3);
  }
