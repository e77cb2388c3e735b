-- What the answer of a sound history's archive says of what the history received.
use Rattle.std.proofs.Common.{◌≡◌, ℕ, suc, zero, ◌-◌, ◌<◌, ◌≤◌, List, [], ◌∷◌, ◌++◌, length, refl, sym, ap, ◌∙◌, subst}
use Rattle.std.proofs.Common.{◌⊎◌, arith, inl, inr}
use Rattle.std.specs.Prelude.{Bool, true, false, Option, Some, None, IfSome, if◌then◌else◌}
use Rattle.std.specs.Option.{option_to_list}
use Rattle.std.specs.Str.{bytes_eq}
use Rattle.std.proofs.lemmas.Bool.{both_ways}
use Rattle.std.proofs.lemmas.Slice.Eq.{bytes_eq-Decides}
use Rattle.tw_base.specs.declared.history.thread.Entry.{Entry}
use Rattle.tw_base.specs.declared.history.tree_proof.Ancestor.{Ancestor}
use Rattle.tw_base.specs.declared.history.tree_proof.Ask.{Ask}
use Rattle.tw_base.specs.declared.history.tree_proof.Ask.TheVariants.{Present, Absent, Below, Above}
use Rattle.tw_base.specs.declared.kinds.limits.TheConstants.{LAST_STEP}
use Rattle.tw_base.specs.history.Asking.{IsGreatestBelow, IsLeastAbove, first_above, last_below}
use Rattle.tw_base.specs.history.Entries.{KeyBelow, key_of, of_peer}
use Rattle.tw_base.specs.history.History.{History, entry_at, received}
use Rattle.tw_base.specs.history.Sound.{IsSound}
use Rattle.tw_base.specs.history.Tree.{IsRising, entries, tree}
use Rattle.tw_base.specs.kinds.Lists.{In}
use Rattle.tw_base.proofs.lemmas.history.Archives.{received-has, tree-has_received}
use Rattle.tw_base.proofs.lemmas.history.AskedLists.{first-above, last-below, none-above, none-below}
use Rattle.tw_base.proofs.lemmas.history.Members.{in-with}
use Rattle.tw_base.proofs.lemmas.history.Trees.{IsArchived, entry_at-parts, tree-archived, tree-rises}
use Rattle.tw_base.proofs.lemmas.kinds.ListLemmas.{Each-in, In-right}
use Rattle.tw_base.specs.history.Ways.{is_left, nearest_left, nearest_right}
use Rattle.tw_treeproof.specs.Answers.{IsAnswer, shown_answer}
use Rattle.tw_chain.proofs.ArchiveAnswers.{lacks-received}
use Rattle.tw_tmap.specs.Checking.{nearest_in, step_if_of}
use Rattle.tw_tmap.proofs.KeyNames.{below-step, between, key, step-below}
use Rattle.tw_tmap.proofs.Risen.{Rises, received-rises}
use Rattle.tw_contradict.specs.Facts.{asked_entry, before_received, lack_of}
use Rattle.tw_contradict.specs.declared.facts.Lack.{Lack}

-- the entry was received at its archived step, which isn't above this one
abbrev pub EntryStands : History → (i : ℕ) → Option Entry → Type 0
EntryStands h i o = IfSome o (λ e. (entry_at h e.archived ≡ Some e) × (e.archived ≤ i))

-- none of the threads was received up to the step
abbrev pub Lacks : History → Lack → Type 0
Lacks h g =
    (f : Entry) → In f (received h g.upto) → f.thread.from ≡ g.peer → g.above < f.thread.step → f.thread.step ≤ g.last
    → ⊥

abbrev pub LackStands : History → Option Lack → Type 0
LackStands h o = IfSome o (Lacks h)

-- ---- in which order threads of one service are received

-- before the last of a list that rises those of its service have lower steps
rises-before : (xs : List Entry) (e f : Entry) → Rises (xs ++ e ∷ []) → In f xs → f.thread.from ≡ e.thread.from
    → f.thread.step < e.thread.step
rises-before [] e f rises there same = absurd there
rises-before (x ∷ xs) e f rises (inl here) same =
    subst (λ (g : Entry). g.thread.step < e.thread.step) (sym here)
    (Each-in (λ (g : Entry). g.thread.from ≡ x.thread.from → x.thread.step < g.thread.step) (xs ++ e ∷ []) e rises.0
    (In-right e xs (e ∷ []) (inl refl))
    (sym same ∙ ap (λ (g : Entry). g.thread.from) here))
rises-before (x ∷ xs) e f rises (inr there) same = rises-before xs e f rises.1 there same

-- of two entries of one service whose keys are in order the first has no greater step
not-above : {Same : Type 0} (from : List ℕ) (a b : Entry) → a.thread.from ≡ from → b.thread.from ≡ from
    → (Same → a.thread.step ≡ b.thread.step) → Same ⊎ KeyBelow (key_of a) (key_of b) → a.thread.step ≤ b.thread.step
not-above from a b one other same (inl is) = let equal = same is in omega (arith, equal)
not-above from a b one other same (inr below) =
    let less = below-step from a.thread.step b.thread.step
    (subst (λ (n : List ℕ). KeyBelow (key n a.thread.step) (key from b.thread.step)) one
    (subst (λ (n : List ℕ). KeyBelow (key_of a) (key n b.thread.step)) other below)) in
    omega (arith, less)

module _ (h : History) (sound : IsSound h) where
  -- before a received thread those of its service have lower steps
  pub before-lower : (n : ℕ) (e f : Entry) → entry_at h n ≡ Some e → In f (received h (n - 1))
      → f.thread.from ≡ e.thread.from → f.thread.step < e.thread.step
  unfolding received
  before-lower zero e f at there same = absurd there
  before-lower (suc j) e f at there same =
      let less : suc j - 1 ≡ j = omega arith in
      let last : Rises (received h j ++ option_to_list (entry_at h (suc j))) = received-rises h sound (suc j) in
      rises-before (received h j) e f (subst (λ (o : Option Entry). Rises (received h j ++ option_to_list o)) at last)
      (subst (λ (k : ℕ). In f (received h k)) less there) same

  module _ (i : ℕ) (within : i ≤ length h.steps) where
    abbrev archive : List Entry
    archive = entries (tree h i)

    rising : IsRising archive
    rising = tree-rises h sound i

    held : (f : Entry) → In f (received h i) → In f archive
    held f there = tree-has_received h sound i within f there

    -- an entry of the archive was received at its archived step, which isn't above this one
    in-received : (e : Entry) → In e archive → (entry_at h e.archived ≡ Some e) × (e.archived ≤ i)
    in-received e there =
        let at : IsArchived h i e = Each-in (IsArchived h i) archive e (tree-archived h i) there in
        let same : at.0 ≡ e.archived = (entry_at-parts h at.0 e at.2).0 in
        (subst (λ k. entry_at h k ≡ Some e) same at.2, subst (λ k. k ≤ i) same at.1)

    -- what was received up to an earlier step was received up to this one
    earlier-in : (j : ℕ) → j ≤ i → (f : Entry) → In f (received h j) → In f (received h i)
    earlier-in j order f there =
        let at : IsArchived h j f = Each-in (IsArchived h j) (entries (tree h j)) f (tree-archived h j)
        (tree-has_received h sound j (omega (arith, order, within)) f there) in
        received-has h i at.0 f (omega (arith, at.1, order)) at.2

    -- ---- a question below a key

    module _ (from : List ℕ) (step : ℕ) where
      abbrev below_lack : ℕ → Lack
      below_lack above = record { peer = from; above = above; last = step - 1; upto = i }

      under : (f : Entry) → f.thread.from ≡ from → f.thread.step < step → KeyBelow (key_of f) (key from step)
      under f same less = subst (λ (name : List ℕ). KeyBelow (key name f.thread.step) (key from step)) (sym same)
          (step-below from f.thread.step step less)

      below-stands : (o : Option Entry) → last_below archive (key from step) ≡ o
          → EntryStands h i (of_peer from o) × Lacks h (below_lack (step_if_of from o))
      below-stands None none = (
        tt,
        λ f there name above last. none-below (key from step) archive rising none f (held f there)
            (under f name (omega (arith, above, last))),
      )
      below-stands (Some e) some = with_name (bytes_eq e.thread.from from) refl
        where
          greatest : IsGreatestBelow archive (key from step) e
          greatest = last-below (key from step) archive rising e some

          with_name : (b : Bool) → bytes_eq e.thread.from from ≡ b
              → EntryStands h i (if b then Some e else None) × Lacks h (below_lack (if b then e.thread.step else 0))
          with_name true test =
              let same : e.thread.from ≡ from = (bytes_eq-Decides e.thread.from from).0 test in (
                in-received e greatest.has,
                λ f there name above last. (
                    let order = not-above from f e name same (λ (is : f ≡ e). ap (λ (g : Entry). g.thread.step) is)
                    (greatest.greatest f (held f there) (under f name (omega (arith, above, last)))) in
                    absurd (omega (arith, above, order))),
              )
          with_name false test = (
            tt,
            λ f there name above last. both_ways (bytes_eq e.thread.from from) test
                ((bytes_eq-Decides e.thread.from from).1
                (elim (greatest.greatest f (held f there) (under f name (omega (arith, above, last)))) [
                  | inl is ↦ ap (λ (g : Entry). g.thread.from) (sym is) ∙ name
                  | inr below ↦ between from e.thread.from f.thread.step e.thread.step step
                      (subst (λ (n : List ℕ). KeyBelow (key n f.thread.step) (key_of e)) name below) greatest.below
                ])),
          )

      -- ---- a question above a key

      abbrev above_lack : ℕ → Lack
      above_lack upto = record { peer = from; above = step; last = LAST_STEP; upto = upto }

      over : (f : Entry) → f.thread.from ≡ from → step < f.thread.step → KeyBelow (key from step) (key_of f)
      over f same late = subst (λ (name : List ℕ). KeyBelow (key from step) (key name f.thread.step)) (sym same)
          (step-below from step f.thread.step late)

      above-stands : (o : Option Entry) → first_above archive (key from step) ≡ o
          → EntryStands h i (of_peer from o) × Lacks h (above_lack (before_received i (of_peer from o)))
      above-stands None none =
          (tt, λ f there name above last. none-above (key from step) archive none f (held f there) (over f name above))
      above-stands (Some e) found = with_name (bytes_eq e.thread.from from) refl
        where
          least : IsLeastAbove archive (key from step) e
          least = first-above (key from step) archive rising e found

          with_name : (b : Bool) → bytes_eq e.thread.from from ≡ b
              → EntryStands h i (if b then Some e else None)
              × Lacks h (above_lack (before_received i (if b then Some e else None)))
          with_name true test =
              let same : e.thread.from ≡ from = (bytes_eq-Decides e.thread.from from).0 test in
              let at : IsArchived h i e = Each-in (IsArchived h i) archive e (tree-archived h i) least.has in
              let own : at.0 ≡ e.archived = (entry_at-parts h at.0 e at.2).0 in (
                in-received e least.has,
                λ f there name above last. (
                    let lower = before-lower e.archived e f (in-received e least.has).0 there (name ∙ sym same) in
                    let known = earlier-in (e.archived - 1) (omega (arith, own, at.1)) f there in
                    let order = not-above from e f same name (λ (is : f ≡ e). ap (λ (g : Entry). g.thread.step)
                    (sym is))
                    (least.least f (held f known) (over f name above)) in
                    absurd (omega (arith, lower, order))),
              )
          with_name false test = (
            tt,
            λ f there name above last. both_ways (bytes_eq e.thread.from from) test
                ((bytes_eq-Decides e.thread.from from).1
                (elim (least.least f (held f there) (over f name above)) [
                  | inl is ↦ ap (λ (g : Entry). g.thread.from) (sym is) ∙ name
                  | inr below ↦ between from e.thread.from step e.thread.step f.thread.step least.above
                      (subst (λ (n : List ℕ). KeyBelow (key_of e) (key n f.thread.step)) name below)
                ])),
          )

    -- ---- whatever is asked

    -- what a tree proof that checks says of the archive
    abbrev pub Stands : Ask → Option Entry → Type 0
    Stands asked nearest = EntryStands h i (asked_entry asked nearest) × LackStands h (lack_of i asked nearest)

    pub answer-stands : (asked : Ask) (up : List Ancestor) → IsAnswer archive asked (shown_answer asked up)
        → Stands asked (nearest_in (shown_answer asked up))
    answer-stands (Present e) up is = (in-received e (in-with archive (key_of e) e is), tt)
    answer-stands (Absent k) up is = (
      tt,
      λ f there name above last. (
          let none = Each-in _ (received h i) f (lacks-received h i sound within k is) there in
          let step : f.thread.step ≡ k.step = omega (arith, above, last) in
          none (λ j. record { from = name j; step = step j })),
    )
    answer-stands (Below k) up is = below-stands k.from k.step (nearest_right (is_left (Below k)) up) is
    answer-stands (Above k) up is = above-stands k.from k.step (nearest_left (is_left (Above k)) up) is
