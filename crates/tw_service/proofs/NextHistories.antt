-- A history with one more step.
use Rattle.std.proofs.Common.{◌≡◌, ℕ, suc, zero, ◌+◌, ◌<◌, ◌≤◌, List, [], ◌++◌, length, refl, ap, sym, ◌∙◌, subst}
use Rattle.std.proofs.Common.{arith, inl, inr, length-append}
use Rattle.std.specs.Prelude.{IfSome, Option, Some, None, option_and_then, slice_index_or}
use Rattle.std.specs.Option.{option_to_list}
use Rattle.std.proofs.lemmas.List.{append-nil, ext_get_or, length_push}
use Rattle.std.proofs.lemmas.Option.{get_or_from_slice_get, slice_get_cases}
use Rattle.tw_base.specs.declared.kinds.limits.TheConstants.{LAST_STEP}
use Rattle.tw_base.specs.declared.history.content.Content.{Content}
use Rattle.tw_base.specs.declared.history.content.Content.TheVariants.{Events, Received}
use Rattle.tw_base.specs.declared.history.thread.Entry.{Entry}
use Rattle.tw_base.specs.declared.history.thread.Thread.{Thread}
use Rattle.tw_base.specs.history.History.{History, Step, entry_at, entry_to, events_of, fresh_of, plus, received}
use Rattle.tw_base.specs.history.History.{root_of, step_at, thread_of, time_at, time_of, times}
use Rattle.tw_base.specs.history.Limits.{IsTimeWithinLimits, MayRecord}
use Rattle.tw_base.specs.kinds.Lists.{Each}
use Rattle.tw_base.specs.history.Rules.{KeepsRule, Rule}
use Rattle.tw_base.specs.history.Rules.Rule.{NodesAreKnown, TreesRise, HoldsAllThreads, IsOfAnother, StepsRise}
use Rattle.tw_base.specs.history.Rules.Rule.{EventsFit, TimesDontFall}
use Rattle.tw_base.specs.history.Sound.{IsSound}
use Rattle.tw_base.specs.history.Tree.{IsRising, Tree, entries, forest, new_trees, planted, tree}
use Rattle.tw_base.specs.history.Tree.Tree.{Empty}
use Rattle.tw_base.proofs.lemmas.history.Plus.{forest-plus, received-plus, step_at-new, times-plus}
use Rattle.tw_disk.specs.Image.{Image}
use Rattle.tw_archive.specs.Archives.{KeepsTrees}
use Rattle.tw_archive.proofs.SameNodes.{same-fresh, same-root}
use Rattle.tw_archive.proofs.SoundNext.{same-length, sound-plus}
use Rattle.tw_skiplist.specs.Appended.{appended_events, appended_thread}
use Rattle.tw_skiplist.specs.Keeping.{AreAlike, Place, archive_at}
use Rattle.tw_service.specs.EventStep.{event_step, with_events_at}
use Rattle.tw_answers.specs.Limits.{clock_refusal}
use Rattle.tw_service.specs.Stands.{greater, greatest, greatest_time, step_pages}
use Rattle.tw_service.proofs.GreatestTimes.{allowed, greatest-more}

-- no more threads are received than there are steps
pub few-received : (h : History) (i : ℕ) → length (received h i) ≤ i
unfolding received
few-received h zero = omega arith
few-received h (suc i) =
    omega (
      arith,
      few-received h i,
      length-append (received h i) (option_to_list (entry_at h (suc i))),
      at_most_one (entry_at h (suc i)),
    )
  where
    at_most_one : (o : Option Entry) → length (option_to_list o) ≤ 1
    at_most_one None = omega arith
    at_most_one (Some e) = omega arith

-- ---- two histories that the same pages keep

-- there is a step of each number up to the last
step_there : (h : History) (k : ℕ) → k < length h.steps → (s : Step) × (step_at h (suc k) ≡ Some s)
step_there h k less = elim ((slice_get_cases h.steps k).1) [
  | inl there ↦ (there.0, there.2)
  | inr past ↦ absurd (omega (arith, less, past.0))
]

-- events and thread tell a content
same_content : (c d : Content) → appended_events c ≡ appended_events d → appended_thread c ≡ appended_thread d → c ≡ d
same_content (Events a) (Events b) events threads = ap Events events
same_content (Events a) (Received t) events threads = cc
same_content (Received t) (Events a) events threads = cc
same_content (Received t) (Received u) events threads = let one : t ≡ u = cc in ap Received one

-- they are one, where they have one name
pub one_history : (dig : List ℕ → List ℕ) (ps : Image) (h g : History) (places others : List Place) → KeepsTrees dig ps
    h (step_pages places) (archive_at dig h places) → KeepsTrees dig ps g (step_pages others) (archive_at dig g others)
    → AreAlike h g places others → h.name ≡ g.name → h ≡ g
one_history dig ps h g places others kept too alike named = λ j. record { name = named j; steps = same_steps j }
  where
    none : Step
    none = event_step 0 [] None

    same_step : (k : ℕ) (s t : Step) → k < length h.steps → step_at h (suc k) ≡ Some s → step_at g (suc k) ≡ Some t
        → s ≡ t
    same_step k s t less one other =
        let fresh = same-fresh dig ps h g (step_pages places) (step_pages others) (archive_at dig h places)
        (archive_at dig g others) kept too alike.count alike.pages alike.archives (suc k) less in
        let root = same-root dig ps h g (step_pages places) (step_pages others) (archive_at dig h places)
        (archive_at dig g others) kept too alike.count alike.pages alike.archives (suc k) less in
        let content : s.content ≡ t.content = same_content s.content t.content (ap events_of (sym one) ∙ alike.events
        (suc k) less ∙ ap events_of other) (ap thread_of (sym one) ∙ alike.threads (suc k) less ∙ ap thread_of other) in
        let time : s.time ≡ t.time = ap time_of (sym one) ∙ alike.times (suc k) less ∙ ap time_of other in
        let nodes : s.fresh ≡ t.fresh = ap fresh_of (sym one) ∙ fresh ∙ ap fresh_of other in
        let top : s.root ≡ t.root = ap root_of (sym one) ∙ root ∙ ap root_of other in
        λ j. record { content = content j; time = time j; fresh = nodes j; root = top j }

    same_steps : h.steps ≡ g.steps
    same_steps = ext_get_or none h.steps g.steps alike.count (λ k less.
        let one = step_there h k less in
        let other = step_there g k (omega (arith, less, alike.count)) in
        get_or_from_slice_get h.steps k one.0 none one.1 ∙ same_step k one.0 other.0 less one.1 other.1
        ∙ sym (get_or_from_slice_get g.steps k other.0 none other.1))

-- ---- one more step

module _ (h : History) (s : Step) where
  pub longer-length : length (plus h s).steps ≡ suc (length h.steps)
  longer-length = length_push h.steps s ∙ omega arith

  -- the greatest time is that of before, or the step's
  new_times : times (plus h s) (suc (length h.steps)) ≡ times h (length h.steps) ++ option_to_list s.time
  unfolding times
  new_times =
      ap (λ (ts : List ℕ). ts ++ option_to_list (time_at (plus h s) (suc (length h.steps))))
      (times-plus h s (length h.steps) (omega arith))
      ∙ ap (λ (o : Option Step). times h (length h.steps) ++ option_to_list (time_of o)) (step_at-new h s)

  pub longer-time : greatest_time (plus h s) ≡ greater (greatest_time h) s.time
  longer-time =
      ap (λ (n : ℕ). greatest (times (plus h s) n)) longer-length ∙ ap greatest new_times ∙ greatest-more
      (times h (length h.steps)) s.time

  -- what is received is what was, and the step's thread
  abbrev made : Option Thread → List Entry
  made o = option_to_list (option_and_then (λ t. Some (record { thread = t; archived = suc (length h.steps) })) o)

  new_received : received (plus h s) (suc (length h.steps)) ≡ received h (length h.steps) ++ made (thread_of (Some s))
  unfolding received
  new_received =
      ap (λ (es : List Entry). es ++ option_to_list (entry_at (plus h s) (suc (length h.steps))))
      (received-plus h s (length h.steps) (omega arith))
      ∙ ap (λ (o : Option Step). received h (length h.steps) ++ made (thread_of o)) (step_at-new h s)

  pub one-received : (t : Thread) → thread_of (Some s) ≡ Some t → length (received (plus h s) (suc (length h.steps)))
      ≡ length (received h (length h.steps)) + 1
  one-received t is =
      ap (λ (es : List Entry). length es) new_received ∙ length-append (received h (length h.steps))
      (made (thread_of (Some s)))
      ∙ ap (λ (o : Option Thread). length (received h (length h.steps)) + length (made o)) is

  pub none-received : thread_of (Some s) ≡ None → received (plus h s) (suc (length h.steps)) ≡ received h
      (length h.steps)
  none-received is =
      new_received ∙ ap (λ (o : Option Thread). received h (length h.steps) ++ made o) is ∙ append-nil
      (received h (length h.steps))

-- ---- one more step of events

-- the root of a sound history's step is that of a node so far
root_known : (h : History) → IsSound h → (i : ℕ) → i ≤ length h.steps → root_of (step_at h i) < length (forest h i)
unfolding forest
root_known h sound zero within = omega arith
root_known h sound (suc k) within =
    let there = step_there h k within in
    subst (λ (r : ℕ). r < length (forest h (suc k))) (sym (ap root_of there.1))
    ((sound.steps k there.0 there.1).rules NodesAreKnown).1

module _ (h : History) (events : List (List ℕ)) (time : Option ℕ) where
  abbrev longer : History
  longer = with_events_at h events time

  abbrev last : Step
  last = event_step (root_of (step_at h (length h.steps))) events time

  -- the archive is as before
  no_trees : new_trees longer (length h.steps) ≡ []
  unfolding planted
  no_trees = ap (λ (o : Option Step). planted (entry_to longer (suc (length h.steps))) (forest longer (length h.steps))
      (fresh_of o)) (step_at-new h last)

  same_forest : forest longer (suc (length h.steps)) ≡ forest h (length h.steps)
  unfolding forest
  same_forest = ap (λ (ts : List Tree). forest longer (length h.steps) ++ ts) no_trees ∙ append-nil
      (forest longer (length h.steps)) ∙ forest-plus h last (length h.steps) (omega arith)

  pub same_tree : tree longer (suc (length h.steps)) ≡ tree h (length h.steps)
  unfolding tree
  same_tree =
      ap (λ (o : Option Step). slice_index_or (forest longer (suc (length h.steps))) (root_of o) Empty)
      (step_at-new h last)
      ∙ ap (λ (trees : List Tree). slice_index_or trees (root_of (step_at h (length h.steps))) Empty) same_forest

  module _ (sound : IsSound h) (limits : MayRecord events) (in_range : IsTimeWithinLimits time)
      (clock : clock_refusal (greatest_time h) time ≡ None) (short : length h.steps < LAST_STEP) where
    last_rule : (rule : Rule) → KeepsRule longer (length h.steps) last rule
    last_rule NodesAreKnown = (
      tt,
      let known = root_known h sound (length h.steps) (omega arith) in let same = ap (λ (ts : List Tree). length ts)
          same_forest in omega (arith, known, same),
    )
    last_rule TreesRise = subst (Each (λ t. IsRising (entries t))) (sym no_trees) tt
    last_rule HoldsAllThreads =
        ap (λ (t : Tree). length (entries t)) same_tree ∙ same-length h sound (length h.steps) (omega arith)
        ∙ sym (ap length (none-received h last refl))
    last_rule IsOfAnother = tt
    last_rule StepsRise = tt
    last_rule EventsFit = limits.fit
    last_rule TimesDontFall =
        subst (λ (ts : List ℕ). IfSome time (λ t. Each (λ earlier. earlier ≤ t) ts))
        (sym (times-plus h last (length h.steps) (omega arith))) (allowed (times h (length h.steps)) time clock)

    pub sound_plus : IsSound longer
    sound_plus = sound-plus h last sound short (record { rules = last_rule; limits = limits.are; time = in_range })
