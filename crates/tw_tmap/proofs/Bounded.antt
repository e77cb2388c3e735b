-- The entry next to a key in a sound history's archive tells the bounds of what the history received.
use Rattle.std.proofs.Common.{◌≡◌, ◌⊎◌, ℕ, ◌-◌, ◌^◌, ◌<◌, ◌≤◌, List, [], ◌∷◌, length, refl, sym, ap, ◌∙◌, subst, arith}
use Rattle.std.proofs.Common.{inl, inr}
use Rattle.std.specs.Prelude.{Bool, true, false, Option, Some, None, ◌&&◌, nat_le, max, if◌then◌else◌}
use Rattle.std.specs.Option.{option_map}
use Rattle.std.specs.Str.{bytes_eq}
use Rattle.std.proofs.Math.Nat.{le-max_left, le-max_right, max-le}
use Rattle.std.proofs.lemmas.Bool.{and_from, and_parts, both_ways, leb-true, le-leb}
use Rattle.std.proofs.lemmas.Slice.Eq.{bytes_eq-Decides}
use Rattle.tw_base.specs.declared.history.thread.Entry.{Entry}
use Rattle.tw_base.specs.declared.kinds.limits.TheConstants.{LAST_STEP}
use Rattle.tw_base.specs.history.Asking.{IsGreatestBelow, IsLeastAbove, first_above, last_below}
use Rattle.tw_base.specs.history.Entries.{KeyBelow, key_of}
use Rattle.tw_base.specs.history.History.{History, received}
use Rattle.tw_base.specs.history.Sound.{IsSound}
use Rattle.tw_base.specs.history.Tree.{IsRising, entries, tree}
use Rattle.tw_base.specs.kinds.Lists.{Each, In}
use Rattle.tw_base.proofs.lemmas.history.Archives.{tree-has_received, tree-only_received}
use Rattle.tw_base.proofs.lemmas.history.AskedLists.{first-above, last-below, none-above, none-below}
use Rattle.tw_base.proofs.lemmas.history.Trees.{tree-rises}
use Rattle.tw_tmap.specs.Bounds.{first_from, greatest_step, high_bound}
use Rattle.tw_tmap.specs.Checking.{archived_if_of, step_if_of}
use Rattle.tw_tmap.proofs.KeyNames.{below-step, between, key, step-below}
use Rattle.tw_tmap.proofs.Risen.{Rises, received-rises}

-- ---- the greatest step of a service

module _ (from : List ℕ) where
  is_from : (e : Entry) → e.thread.from ≡ from → bytes_eq e.thread.from from ≡ true
  is_from e same = (bytes_eq-Decides e.thread.from from).1 same

  greatest-most : (es : List Entry) (most : ℕ) → ((f : Entry) → In f es → f.thread.from ≡ from → f.thread.step ≤ most)
      → greatest_step from es ≤ most
  greatest-most [] most all = omega arith
  greatest-most (e ∷ es) most all =
      let rest : greatest_step from es ≤ most = greatest-most es most (λ f there. all f (inr there)) in
      let cases : (b : Bool) → bytes_eq e.thread.from from ≡ b → (if b then max e.thread.step (greatest_step from es)
      else greatest_step from es) ≤ most =
      elim [
        | true ↦ λ same. max-le (all e (inl refl) ((bytes_eq-Decides e.thread.from from).0 same)) rest
        | false ↦ λ other. rest
      ]
      in cases (bytes_eq e.thread.from from) refl

  greatest-has : (es : List Entry) (e : Entry) → In e es → e.thread.from ≡ from → e.thread.step ≤ greatest_step from es
  greatest-has [] e there same = absurd there
  greatest-has (f ∷ es) e (inl here) same =
      subst (λ (b : Bool). e.thread.step ≤ (if b then max f.thread.step (greatest_step from es) else greatest_step from
      es))
      (sym (is_from f (ap (λ (g : Entry). g.thread.from) (sym here) ∙ same)))
      (subst (λ (g : Entry). e.thread.step ≤ max g.thread.step (greatest_step from es)) here
      (le-max_left e.thread.step (greatest_step from es)))
  greatest-has (f ∷ es) e (inr there) same =
      let rest : e.thread.step ≤ greatest_step from es = greatest-has es e there same in
      let cases : (b : Bool) → e.thread.step ≤ (if b then max f.thread.step (greatest_step from es) else greatest_step
      from es) =
      elim [
        | true ↦ (let more = le-max_right f.thread.step (greatest_step from es) in omega (arith, rest, more))
        | false ↦ rest
      ]
      in cases (bytes_eq f.thread.from from)

-- ---- the first entry of a service from a step on

module _ (from : List ℕ) (step : ℕ) where
  abbrev fits : Entry → Bool
  fits e = bytes_eq e.thread.from from && nat_le step e.thread.step

  fits-from : (e : Entry) → e.thread.from ≡ from → step ≤ e.thread.step → fits e ≡ true
  fits-from e same late = and_from (bytes_eq e.thread.from from) (nat_le step e.thread.step) (is_from from e same)
      (le-leb step e.thread.step late)

  from-fits : (e : Entry) → fits e ≡ true → (e.thread.from ≡ from) × (step ≤ e.thread.step)
  from-fits e is =
      let both = and_parts (bytes_eq e.thread.from from) (nat_le step e.thread.step) is in
      ((bytes_eq-Decides e.thread.from from).0 both.0, leb-true step e.thread.step both.1)

  -- none is found where none fits
  first-none : (es : List Entry) → ((f : Entry) → In f es → f.thread.from ≡ from → step ≤ f.thread.step → ⊥)
      → first_from from step es ≡ None
  first-none [] all = refl
  first-none (e ∷ es) all =
      let rest : first_from from step es ≡ None = first-none es (λ f there. all f (inr there)) in
      let cases : (b : Bool) → fits e ≡ b → (if b then Some e else first_from from step es) ≡ None =
      elim [
        | true ↦ λ is. (let had = from-fits e is in absurd (all e (inl refl) had.0 had.1))
        | false ↦ λ is. rest
      ]
      in cases (fits e) refl

  later : (x f : Entry) (es : List Entry) → Each (λ (f : Entry). f.thread.from ≡ x.thread.from
      → x.thread.step < f.thread.step) es → In f es
      → f.thread.from ≡ x.thread.from → x.thread.step < f.thread.step
  later x f [] each there names = absurd there
  later x f (g ∷ gs) each (inl here) names =
      subst (λ (g : Entry). x.thread.step < g.thread.step) (sym here)
      (each.0 (ap (λ (g : Entry). g.thread.from) (sym here) ∙ names))
  later x f (g ∷ gs) each (inr there) names = later x f gs each.1 there names

  -- of a list that rises the entry is found that has the least step of those that fit
  first-least : (es : List Entry) (e : Entry) → Rises es → In e es → e.thread.from ≡ from → step ≤ e.thread.step
      → ((f : Entry) → In f es → f.thread.from ≡ from → step ≤ f.thread.step
      → (f ≡ e) ⊎ (e.thread.step < f.thread.step)) → first_from from step es ≡ Some e
  first-least [] e rises there same late least = absurd there
  first-least (x ∷ es) e rises there same late least =
      let rest : In e es → first_from from step es ≡ Some e = λ behind. first-least es e rises.1 behind same late
      (λ f there. least f (inr there)) in
      -- the first that fits is the least
      let own : (x.thread.from ≡ from) × (step ≤ x.thread.step) → x ≡ e =
      λ fit. elim (least x (inl refl) fit.0 fit.1) [
        | inl is ↦ is
        | inr over ↦ elim there [
          | inl here ↦ sym here
          | inr behind ↦ (let under = later x e es rises.0 behind (same ∙ sym fit.0) in
              absurd (omega (arith, over, under)))
        ]
      ]
      in
      let behind : fits x ≡ false → In e es =
      λ never. elim there [
        | inl here ↦ absurd (both_ways (fits x) never (fits-from x (ap (λ (g : Entry). g.thread.from) (sym here) ∙ same)
            (subst (λ (g : Entry). step ≤ g.thread.step) here late)))
        | inr there ↦ there
      ]
      in
      let cases : (b : Bool) → fits x ≡ b → (if b then Some x else first_from from step es) ≡ Some e =
      elim [
        | true ↦ λ is. ap (λ (g : Entry). Some g) (own (from-fits x is))
        | false ↦ λ is. rest (behind is)
      ]
      in cases (fits x) refl

-- ---- of a history

module _ (h : History) (sound : IsSound h) (i : ℕ) (within : i ≤ length h.steps) where
  abbrev archive : List Entry
  archive = entries (tree h i)

  rising : IsRising archive
  rising = tree-rises h sound i

  -- low: the entry below all steps that the peer may have
  pub low-is : (peer : List ℕ) (found : Option Entry) → ((e : Entry) → In e (received h i) → e.thread.step ≤ LAST_STEP)
      → last_below archive (key peer (2 ^ 40)) ≡ found → step_if_of peer found ≡ greatest_step peer (received h i)
  low-is peer found small is = by found is
    where
      under : (f : Entry) → In f (received h i) → f.thread.from ≡ peer → KeyBelow (key_of f) (key peer (2 ^ 40))
      under f there same =
          let few = small f there in
          subst (λ (from : List ℕ). KeyBelow (key from f.thread.step) (key peer (2 ^ 40))) (sym same)
          (step-below peer f.thread.step (2 ^ 40) (omega (arith, few)))

      held : (f : Entry) → In f (received h i) → In f archive
      held f there = tree-has_received h sound i within f there

      none_is : ((f : Entry) → In f (received h i) → f.thread.from ≡ peer → ⊥) → 0 ≡ greatest_step peer (received h i)
      none_is all = let most = greatest-most peer (received h i) 0 (λ f there same. absurd (all f there same)) in
          omega (arith, most)

      by : (o : Option Entry) → last_below archive (key peer (2 ^ 40)) ≡ o → step_if_of peer o ≡ greatest_step peer
          (received h i)
      by None none = none_is (λ f there same. none-below (key peer (2 ^ 40)) archive rising none f (held f there)
          (under f there same))
      by (Some e) some = with_name (bytes_eq e.thread.from peer) refl
        where
          greatest : IsGreatestBelow archive (key peer (2 ^ 40)) e
          greatest = last-below (key peer (2 ^ 40)) archive rising e some

          with_name : (b : Bool) → bytes_eq e.thread.from peer ≡ b → (if b then e.thread.step else 0) ≡ greatest_step
              peer (received h i)
          with_name true test =
              let same : e.thread.from ≡ peer = (bytes_eq-Decides e.thread.from peer).0 test in
              let has = greatest-has peer (received h i) e (tree-only_received h i e greatest.has) same in
              let most : greatest_step peer (received h i) ≤ e.thread.step =
              greatest-most peer (received h i) e.thread.step
              (λ f there names. elim (greatest.greatest f (held f there) (under f there names)) [
                | inl is ↦ (let equal : f.thread.step ≡ e.thread.step = ap (λ (g : Entry). g.thread.step) is in
                    omega (arith, equal))
                | inr below ↦ (
                    let less = below-step peer f.thread.step e.thread.step
                    (subst (λ (from : List ℕ). KeyBelow (key from f.thread.step) (key peer e.thread.step)) names
                    (subst (λ (from : List ℕ). KeyBelow (key_of f) (key from e.thread.step)) same below)) in
                    omega (arith, less))
              ]) in
              omega (arith, has, most)
          with_name false test =
              none_is (λ f there names. both_ways (bytes_eq e.thread.from peer) test
              ((bytes_eq-Decides e.thread.from peer).1
              (elim (greatest.greatest f (held f there) (under f there names)) [
                | inl is ↦ ap (λ (g : Entry). g.thread.from) (sym is) ∙ names
                | inr below ↦ between peer e.thread.from f.thread.step e.thread.step (2 ^ 40)
                    (subst (λ (from : List ℕ). KeyBelow (key from f.thread.step) (key_of e)) names below) greatest.below
              ])))

  -- high: the entry above the step before
  pub high-is : (service : List ℕ) (step : ℕ) (found : Option Entry) → 0 < step
      → first_above archive (key service (step - 1)) ≡ found → archived_if_of service found ≡ high_bound h service
      step i
  high-is service step found some is = by found is
    where
      over : (f : Entry) → f.thread.from ≡ service → step ≤ f.thread.step → KeyBelow (key service (step - 1)) (key_of f)
      over f same late =
          subst (λ (from : List ℕ). KeyBelow (key service (step - 1)) (key from f.thread.step)) (sym same)
          (step-below service (step - 1) f.thread.step (omega (arith, some, late)))

      held : (f : Entry) → In f (received h i) → In f archive
      held f there = tree-has_received h sound i within f there

      none_is : ((f : Entry) → In f (received h i) → f.thread.from ≡ service → step ≤ f.thread.step → ⊥)
          → None ≡ high_bound h service step i
      none_is all = ap (option_map (λ (e : Entry). e.archived)) (sym (first-none service step (received h i) all))

      by : (o : Option Entry) → first_above archive (key service (step - 1)) ≡ o → archived_if_of service o ≡ high_bound
          h service step i
      by None none = none_is (λ f there same late. none-above (key service (step - 1)) archive none f (held f there)
          (over f same late))
      by (Some e) found_e = with_name (bytes_eq e.thread.from service) refl
        where
          least : IsLeastAbove archive (key service (step - 1)) e
          least = first-above (key service (step - 1)) archive rising e found_e

          with_name : (b : Bool) → bytes_eq e.thread.from service ≡ b → (if b then Some e.archived else None)
              ≡ high_bound h service step i
          with_name true test =
              let same : e.thread.from ≡ service = (bytes_eq-Decides e.thread.from service).0 test in
              let above = below-step service (step - 1) e.thread.step
              (subst (λ (from : List ℕ). KeyBelow (key service (step - 1)) (key from e.thread.step)) same least.above)
              in
              let first : first_from service step (received h i) ≡ Some e =
              first-least service step (received h i) e (received-rises h sound i) (tree-only_received h i e least.has)
              same (omega (arith, above, some))
              (λ f there names late. elim (least.least f (held f there) (over f names late)) [
                | inl is ↦ inl is
                | inr below ↦ inr (below-step service e.thread.step f.thread.step
                    (subst (λ (from : List ℕ). KeyBelow (key from e.thread.step) (key service f.thread.step)) same
                    (subst (λ (from : List ℕ). KeyBelow (key_of e) (key from f.thread.step)) names below)))
              ]) in
              ap (option_map (λ (e : Entry). e.archived)) (sym first)
          with_name false test =
              none_is (λ f there names late. both_ways (bytes_eq e.thread.from service) test
              ((bytes_eq-Decides e.thread.from service).1 (elim (least.least f (held f there) (over f names late)) [
                | inl is ↦ ap (λ (g : Entry). g.thread.from) (sym is) ∙ names
                | inr below ↦ between service e.thread.from (step - 1) e.thread.step f.thread.step least.above
                    (subst (λ (from : List ℕ). KeyBelow (key_of e) (key from f.thread.step)) names below)
              ])))
