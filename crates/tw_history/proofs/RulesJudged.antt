-- When a step keeps each of the rules, and what is known once it keeps them all.
use Rattle.std.proofs.Common.{◌≡◌, ◌≢◌, ◌↔◌, ℕ, suc, zero, ◌+◌, ◌<◌, ◌≤◌, List, [], ◌∷◌, ◌++◌, length, get_or, map}
use Rattle.std.proofs.Common.{refl, ap, sym, subst, ◌∙◌, arith, Option, Some, None, Result, Ok, Err, add-one, Bool}
use Rattle.std.proofs.Common.{true, false, IsTrue, inl, inr}
use Rattle.std.specs.Prelude.{◌==◌, option_and_then, option_map, IfSome, MatchOption, MatchResult, IsErrAnd}
use Rattle.std.specs.Option.{option_to_list}
use Rattle.std.proofs.lemmas.Bool.{cases_lt}
use Rattle.std.proofs.lemmas.Bool.Decides.{Decides-eqb}
use Rattle.std.proofs.lemmas.List.{get_or-map, length-append, length-map}
use Rattle.tw_base.specs.declared.kinds.limits.TheConstants.{LAST_STEP}
use Rattle.tw_base.specs.declared.history.thread.Thread.{Thread}
use Rattle.tw_base.specs.declared.history.thread.Entry.{Entry}
use Rattle.tw_base.specs.kinds.Lists.{Each, In}
use Rattle.tw_base.specs.kinds.Names.{IsName}
use Rattle.tw_base.specs.history.History.{History, Node, Step, entry_at, fresh_of, received, root_of, step_at}
use Rattle.tw_base.specs.history.History.{thread_of, time_of, times}
use Rattle.tw_base.specs.history.Rules.{NodesFit}
use Rattle.tw_base.specs.history.Sound.{IsSound, IsSoundStep}
use Rattle.tw_base.specs.history.Tree.{Tree, branch, entries, forest, new_trees, planted, tree}
use Rattle.tw_base.specs.history.Tree.Tree.{Empty}
use Rattle.tw_base.proofs.lemmas.kinds.ListLemmas.{Each-append}
use Rattle.tw_history.specs.declared.step.Step.{Step as StepOfTable}
use Rattle.tw_history.specs.declared.step.Node.{Node as NodeOfTable}
use Rattle.tw_history.specs.declared.fault.HistoryFault.{HistoryFault}
use Rattle.tw_history.specs.declared.fault.HistoryFault.TheVariants.{Malformed, NoMemory, TooLong, Unsound}
use Rattle.tw_history.specs.declared.soundness.summary.Summary.{Summary}
use Rattle.tw_history.specs.declared.soundness.Judged.{Judged}
use Rattle.tw_history.specs.JudgingSteps.{IsGreatest, IsGreatestTime, HasJudged, IsFirstRule, IsLater, TellsFirst}
use Rattle.tw_history.specs.JudgingSteps.{TellsRules, first_of, greatest_of, summary_of}
use Rattle.tw_history.specs.Tables.{IsTable, node_of, step_of, steps_of_table}
use Rattle.tw_history.specs.Refusals.{TellsRule}
use Rattle.tw_base.specs.history.Rules.{KeepsRule, Rule, rule_number}
use Rattle.tw_base.specs.history.Rules.Rule.{NodesAreKnown, TreesRise, HoldsAllThreads, IsOfAnother, StepsRise}
use Rattle.tw_base.specs.history.Rules.Rule.{EventsFit, TimesDontFall}
use Rattle.tw_history.proofs.Planting.{Rises, forest-next}
use Rattle.tw_history.proofs.TableLaws.{length-steps_of_table}
use Rattle.tw_history.proofs.Summaries.{count-summary, is_false}

-- each rule below the number, rule by rule
pub lower_rules : (h : History) (i : ℕ) (s : Step) (n : ℕ) → (1 < n → KeepsRule h i s NodesAreKnown)
    → (2 < n → KeepsRule h i s TreesRise) → (3 < n → KeepsRule h i s HoldsAllThreads)
    → (4 < n → KeepsRule h i s IsOfAnother) → (5 < n → KeepsRule h i s StepsRise) → (6 < n → KeepsRule h i s EventsFit)
    → (7 < n → KeepsRule h i s TimesDontFall) → (other : Rule) → rule_number other < n → KeepsRule h i s other
lower_rules h i s n one two three four five six seven NodesAreKnown less = one less
lower_rules h i s n one two three four five six seven TreesRise less = two less
lower_rules h i s n one two three four five six seven HoldsAllThreads less = three less
lower_rules h i s n one two three four five six seven IsOfAnother less = four less
lower_rules h i s n one two three four five six seven StepsRise less = five less
lower_rules h i s n one two three four five six seven EventsFit less = six less
lower_rules h i s n one two three four five six seven TimesDontFall less = seven less

pub number-below : (rule : Rule) → rule_number rule < 8
number-below NodesAreKnown = omega arith
number-below TreesRise = omega arith
number-below HoldsAllThreads = omega arith
number-below IsOfAnother = omega arith
number-below StepsRise = omega arith
number-below EventsFit = omega arith
number-below TimesDontFall = omega arith

-- the refusal by a rule that is broken
pub refused : (h : History) (i : ℕ) (s : Step) (P : Unit {0} → Type 0) (r : Result (Unit {0}) HistoryFault) (rule : ℕ)
    → r ≡ Err (Unsound (i + 1) rule)
    → IsFirstRule h i s rule → MatchResult r P (TellsFirst h i s)
refused h i s P r rule is first = subst (λ x. MatchResult x P (TellsFirst h i s)) (sym is) (omega arith, first)

pub refusal : (h : History) (i : ℕ) (s : Step) (P : Unit {0} → Type 0) (r : Result (Unit {0}) HistoryFault)
    (broken : Rule) → r ≡ Err (Unsound (i + 1) (rule_number broken))
    → (KeepsRule h i s broken → ⊥) → ((other : Rule) → rule_number other < rule_number broken → KeepsRule h i s other)
    → MatchResult r P (TellsFirst h i s)
refusal h i s P r broken is breaks lower = refused h i s P r (rule_number broken) is (broken, refl, breaks, lower)

-- where no rule is told each is kept
pub none-broken : (All : Type 0) (First : ℕ → Type 0) (told : Option ℕ) → ((rule : ℕ) → told ≡ Some rule → ⊥)
    → MatchOption told All First → All
none-broken All First None none is = is
none-broken All First (Some rule) none is = absurd (none rule refl)

-- a test of two numbers is one of what their being equal decides
pub decided_by : {P : Type 0} (a b : ℕ) → (a ≡ b) ↔ P → IsTrue (a == b) ↔ P
decided_by a b both = (λ is. both.0 ((Decides-eqb a b).0 is), λ holds. (Decides-eqb a b).1 (both.1 holds))

-- the tests of the rules 3 to 7 tell the first that is broken, or that each is kept
module _ (h : History) (i : ℕ) (s : Step) (one : KeepsRule h i s NodesAreKnown) (two : KeepsRule h i s TreesRise) where
  abbrev Tests : Bool → Rule → Type 0
  Tests b rule = IsTrue b ↔ KeepsRule h i s rule

  abbrev lower : (n : ℕ) → Type 0
  lower n = (other : Rule) → rule_number other < n → KeepsRule h i s other

  pub first-told : (a b c d e : Bool) → Tests a HoldsAllThreads → Tests b IsOfAnother → Tests c StepsRise
      → Tests d EventsFit → Tests e TimesDontFall
      → TellsRules h i s (first_of a b c d e)
  first-told false b c d e is3 is4 is5 is6 is7 = (
    HoldsAllThreads,
    refl,
    (λ kept. is_false false refl (is3.1 kept)),
    lower_rules h i s 3 (λ _. one) (λ _. two) (λ l. absurd (omega (arith, l))) (λ l. absurd (omega (arith, l)))
        (λ l. absurd (omega (arith, l))) (λ l. absurd (omega (arith, l))) (λ l. absurd (omega (arith, l))),
  )
  first-told true false c d e is3 is4 is5 is6 is7 = (
    IsOfAnother,
    refl,
    (λ kept. is_false false refl (is4.1 kept)),
    lower_rules h i s 4 (λ _. one) (λ _. two) (λ _. is3.0 refl) (λ l. absurd (omega (arith, l)))
        (λ l. absurd (omega (arith, l))) (λ l. absurd (omega (arith, l))) (λ l. absurd (omega (arith, l))),
  )
  first-told true true false d e is3 is4 is5 is6 is7 = (
    StepsRise,
    refl,
    (λ kept. is_false false refl (is5.1 kept)),
    lower_rules h i s 5 (λ _. one) (λ _. two) (λ _. is3.0 refl) (λ _. is4.0 refl) (λ l. absurd (omega (arith, l)))
        (λ l. absurd (omega (arith, l))) (λ l. absurd (omega (arith, l))),
  )
  first-told true true true false e is3 is4 is5 is6 is7 = (
    EventsFit,
    refl,
    (λ kept. is_false false refl (is6.1 kept)),
    lower_rules h i s 6 (λ _. one) (λ _. two) (λ _. is3.0 refl) (λ _. is4.0 refl) (λ _. is5.0 refl)
        (λ l. absurd (omega (arith, l))) (λ l. absurd (omega (arith, l))),
  )
  first-told true true true true false is3 is4 is5 is6 is7 = (
    TimesDontFall,
    refl,
    (λ kept. is_false false refl (is7.1 kept)),
    lower_rules h i s 7 (λ _. one) (λ _. two) (λ _. is3.0 refl) (λ _. is4.0 refl) (λ _. is5.0 refl) (λ _. is6.0 refl)
        (λ l. absurd (omega (arith, l))),
  )
  first-told true true true true true is3 is4 is5 is6 is7 =
      λ rule. lower_rules h i s 8 (λ _. one) (λ _. two) (λ _. is3.0 refl) (λ _. is4.0 refl) (λ _. is5.0 refl)
      (λ _. is6.0 refl) (λ _. is7.0 refl) rule (number-below rule)

length-planted : (entry : ℕ → Option Entry) (trees : List Tree) (ns : List Node) → length (planted entry trees ns)
    ≡ length ns
unfolding planted
length-planted entry trees [] = refl
length-planted entry trees (n ∷ ns) =
    ap suc (length-planted entry (trees ++ branch (entry n.entry) (get_or trees n.left Empty)
    (get_or trees n.right Empty) ∷ []) ns)

pub length-option : {X : Type 0} (o : Option X) → length (option_to_list o) ≤ 1
length-option None = omega arith
length-option (Some x) = omega arith

-- a step receives at most one thread
pub length-received : (h : History) (i : ℕ) → length (received h i) ≤ i
unfolding received
length-received h zero = omega arith
length-received h (suc i) =
    let before = length-received h i in
    let both = length-append (received h i) (option_to_list (entry_at h (suc i))) in
    let one = length-option (entry_at h (suc i)) in
    omega (arith, before, both, one)

abbrev pub entry_of : ℕ → Option Thread → Option Entry
entry_of archived t = option_map (λ u. record { thread = u; archived = archived }) t

same_entry : (archived : ℕ) (t : Option Thread)
    → option_and_then (λ u. Some (record { thread = u; archived = archived })) t ≡ entry_of archived t
same_entry archived None = refl
same_entry archived (Some t) = refl

length-entry_of : (archived : ℕ) (t : Option Thread) → length (option_to_list (entry_of archived t)) ≡ length
    (option_to_list t)
length-entry_of archived None = refl
length-entry_of archived (Some t) = refl

module _ (h : History) (i : ℕ) (s : Step) (there : step_at h (suc i) ≡ Some s) where
  pub received-next : received h (suc i) ≡ received h i ++ option_to_list (entry_of (suc i) (thread_of (Some s)))
  unfolding received
  received-next = ap (λ o. received h i ++ option_to_list o)
      (ap (λ o. option_and_then (λ t. Some (record { thread = t; archived = suc i })) (thread_of o)) there ∙ same_entry
      (suc i) (thread_of (Some s)))

  pub times-next : times h (suc i) ≡ times h i ++ option_to_list s.time
  unfolding times
  times-next = ap (λ o. times h i ++ option_to_list (time_of o)) there

  pub count-received : (threads count : ℕ) → threads ≡ length (received h i)
      → count ≡ length (option_to_list (thread_of (Some s))) → threads + count ≡ length (received h (suc i))
  count-received threads count before new =
      let whole = ap length received-next ∙ length-append (received h i)
      (option_to_list (entry_of (suc i) (thread_of (Some s)))) in
      let same = length-entry_of (suc i) (thread_of (Some s)) in
      omega (arith, whole, same, before, new)

  pub length-forest_next : length (forest h (suc i)) ≡ length (forest h i) + length s.fresh
  length-forest_next =
      ap length (forest-next h i) ∙ length-append (forest h i) (new_trees h i)
      ∙ ap (λ n. length (forest h i) + n) (length-planted _ (forest h i) _ ∙ ap (λ o. length (fresh_of o)) there)

  -- rule 1
  pub known-is : (number first count : ℕ) → number ≡ suc i → first ≡ length (forest h i) → count ≡ length s.fresh
      → (NodesFit h number first s.fresh × (s.root < first + count)) ↔ KeepsRule h i s NodesAreKnown
  known-is number first count this so_far new =
      let root : first + count ≡ length (forest h (suc i)) = omega (arith, length-forest_next, so_far, new) in (
        (λ known. (
          subst (λ n. NodesFit h (suc i) n s.fresh) so_far (subst (λ n. NodesFit h n first s.fresh) this known.0),
          subst (λ n. s.root < n) root known.1,
        )),
        (λ kept. (
          subst (λ n. NodesFit h n first s.fresh) (sym this) (subst (λ n. NodesFit h (suc i) n s.fresh) (sym so_far)
              kept.0),
          subst (λ n. s.root < n) (sym root) kept.1,
        )),
      )

  root_tree : tree h (suc i) ≡ get_or (forest h (suc i)) s.root Empty
  unfolding tree
  root_tree = ap (λ o. get_or (forest h (suc i)) (root_of o) Empty) there

  -- rule 3
  pub all-is : (summary : Summary) (threads : ℕ) → summary ≡ summary_of (get_or (forest h (suc i)) s.root Empty)
      → threads ≡ length (received h (suc i)) → threads ≤ LAST_STEP
      → (summary.count ≡ threads) ↔ KeepsRule h i s HoldsAllThreads
  all-is summary threads kept received few =
      let count = count-summary summary _ kept in
      let same = ap (λ t. length (entries t)) root_tree in
      ((λ is. omega (arith, is, count, same, received, few)), (λ is. omega (arith, is, count, same, received, few)))

-- what is kept after a step that keeps each rule
pub judged_next : (h : History) (i : ℕ) (s : Step) (before after : Judged) → step_at h (suc i) ≡ Some s
    → HasJudged h i before → KeepsRule h i s TreesRise
    → after.summaries.items ≡ map summary_of (forest h (suc i)) → after.threads ≡ length (received h (suc i))
    → IsGreatest (received h i ++ option_to_list (entry_of (suc i) (thread_of (Some s)))) (greatest_of after.greatest)
    → IsGreatestTime (times h i ++ option_to_list s.time) after.time → HasJudged h (suc i) after
judged_next h i s before after there judged rise kept counted greatest time = record {
  summaries = kept;
  rising = subst (Each Rises) (sym (forest-next h i)) (Each-append Rises (forest h i) (new_trees h i) judged.rising
      rise);
  threads = counted;
  greatest = subst (λ es. IsGreatest es (greatest_of after.greatest)) (sym (received-next h i s there)) greatest;
  time = subst (λ ts. IsGreatestTime ts after.time) (sym (times-next h i s there)) time;
}

-- what is kept before the first step
pub judged-none : (h : History) (judged : Judged) → judged.summaries.items ≡ summary_of Empty ∷ [] → judged.threads ≡ 0
    → ((name : List ℕ) → greatest_of judged.greatest name ≡ None) → judged.time ≡ 0 → HasJudged h 0 judged
unfolding forest received times
judged-none h judged kept none empty time = record {
  summaries = kept;
  rising = (tt, tt);
  threads = none;
  greatest = λ name. subst (λ o. MatchOption o (Each (λ (e : Entry). e.thread.from ≢ name) [])
      (λ step. ((e : Entry) × In e [] × (e.thread.from ≡ name) × (e.thread.step ≡ step))
      × Each (λ (e : Entry). e.thread.from ≡ name → e.thread.step ≤ step) [])) (sym (empty name)) tt;
  time = λ n. ((λ least. tt), (λ each. omega (arith, time)));
}

-- the rules as the code tests them, of a step of the table with its new nodes
module _ (h : History) (i : ℕ) (step : StepOfTable) (fresh : List NodeOfTable)
    (there : step_at h (suc i) ≡ Some (step_of step fresh)) where
  abbrev pub ThisStep : Step
  ThisStep = step_of step fresh

  -- rule 1
  pub names_by : (first : ℕ) (items : List Summary) (r : Bool) → items ≡ map summary_of (forest h i)
      → first ≡ length items
      → (IsTrue r ↔ (NodesFit h (i + 1) first (map node_of fresh) × (step.root < first + length fresh)))
      → IsTrue r ↔ KeepsRule h i ThisStep NodesAreKnown
  names_by first items r kept is exactly =
      let known = known-is h i ThisStep there (i + 1) first (length fresh) (add-one i)
      (is ∙ ap length kept ∙ length-map (forest h i) summary_of) (sym (length-map fresh node_of)) in
      ((λ yes. known.0 (exactly.0 yes)), (λ keeps. exactly.1 (known.1 keeps)))

  -- the root is the number of a summary
  pub root-within : (items : List Summary) → items ≡ map summary_of (forest h (suc i)) → KeepsRule h i ThisStep
      NodesAreKnown → step.root < length items
  root-within items kept known = subst (λ n. step.root < n)
      (sym (ap length kept ∙ length-map (forest h (suc i)) summary_of)) known.1

  -- rule 3
  pub all_by : (items : List Summary) (summary : Summary) (before count : ℕ) → items ≡ map summary_of (forest h (suc i))
      → KeepsRule h i ThisStep NodesAreKnown
      → summary ≡ get_or items step.root summary → before ≡ length (received h i)
      → count ≡ length (option_to_list (thread_of (Some ThisStep))) → suc i ≤ LAST_STEP
      → (summary.count ≡ before + count) ↔ KeepsRule h i ThisStep HoldsAllThreads
  all_by items summary before count kept known is so_far new few =
      let threads = count-received h i ThisStep there before count so_far new in
      all-is h i ThisStep there summary (before + count)
      (is ∙ ap (λ xs. get_or xs step.root summary) kept ∙ get_or-map summary_of (forest h (suc i)) step.root Empty
      summary known.1)
      threads (omega (arith, threads, length-received h (suc i), few))

  -- rule 4
  pub another_by : (own : List ℕ) (thread : Option Thread) (r : Bool) → thread ≡ thread_of (Some ThisStep)
      → own ≡ h.name
      → (IsTrue r ↔ IfSome thread (λ t. t.from ≢ own)) → IsTrue r ↔ KeepsRule h i ThisStep IsOfAnother
  another_by own thread r is same exactly =
      subst (λ o. IsTrue r ↔ IfSome o (λ t. t.from ≢ h.name)) is
      (subst (λ name. IsTrue r ↔ IfSome thread (λ t. t.from ≢ name)) same exactly)

  -- rule 5
  pub later_by : (thread : Option Thread) (r : Bool) → thread ≡ thread_of (Some ThisStep)
      → (IsTrue r ↔ IfSome thread (λ t. IsLater t (received h i))) → IsTrue r ↔ KeepsRule h i ThisStep StepsRise
  later_by thread r is exactly = subst (λ o. IsTrue r ↔ IfSome o (λ t. IsLater t (received h i))) is exactly

-- the first step that isn't sound tells the history's rule
pub tells-rule : (h : History) (k : ℕ) (s : Step) (fault : HistoryFault) → step_at h (suc k) ≡ Some s
    → TellsFirst h k s fault
    → ((i : ℕ) (t : Step) → i < k → step_at h (suc i) ≡ Some t → IsSoundStep h i t) → TellsRule h fault
tells-rule h k s (Unsound step rule) there tells sound = record {
  i = k;
  s = s;
  there = (tells.0, there);
  broken_rule = tells.1.0;
  number = tells.1.1;
  broken = tells.1.2;
  lower = tells.1.3;
  earlier = λ i t less at. (sound i t less at).rules;
}
tells-rule h k s NoMemory there tells sound = tt
tells-rule h k s (Malformed place) there tells sound = tells
tells-rule h k s (TooLong bytes) there tells sound = tells

pub err-told : (r : Result (Unit {0}) HistoryFault) (P : Unit {0} → Type 0) (Q : HistoryFault → Type 0)
    (fault : HistoryFault) → IsErrAnd r (λ e. e ≡ fault) → Q fault → MatchResult r P Q
err-told (Ok done) P Q fault is holds = absurd is
err-told (Err e) P Q fault is holds = subst Q (sym is) holds

-- one more sound step
pub one_more : (h : History) (k : ℕ) (this : Step) (i : ℕ) (s : Step) → step_at h (suc k) ≡ Some this
    → IsSoundStep h k this
    → ((j : ℕ) (t : Step) → j < k → step_at h (suc j) ≡ Some t → IsSoundStep h j t) → i < k + 1
    → step_at h (suc i) ≡ Some s → IsSoundStep h i s
one_more h k this i s there sound before less at =
    elim (cases_lt i k) [
      | inl lower ↦ before i s lower at
      | inr last ↦ (let same : i ≡ k = omega (arith, last, less) in
          let found : step_at h (suc k) ≡ Some s = subst (λ n. step_at h (suc n) ≡ Some s) same at in
          let this_one : this ≡ s = cc in
          subst (λ n. IsSoundStep h n s) (sym same) (subst (IsSoundStep h k) this_one sound))
    ]

pub ok-told : (r : Result (Unit {0}) HistoryFault) (P Q : Type 0) (R : HistoryFault → Type 0) → (P → Q)
    → MatchResult r (λ _. P) R → MatchResult r (λ _. Q) R
ok-told (Ok done) P Q R more told = more told
ok-told (Err e) P Q R more told = told

-- a history whose steps are sound
pub sound_history : (h : History) (name : List ℕ) (steps : List StepOfTable) (nodes : List NodeOfTable)
    → record { name = name; steps = steps_of_table steps nodes } ≡ h → IsTable steps nodes → IsName name
    → ((i : ℕ) (s : Step) → step_at h (suc i) ≡ Some s → IsSoundStep h i s) → IsSound h
sound_history h name steps nodes is table named sound = record {
  name = subst (λ (x : History). IsName x.name) is named;
  length = subst (λ n. n ≤ LAST_STEP) (sym (length-steps_of_table steps nodes) ∙ ap (λ (x : History). length x.steps)
      is) table.few;
  steps = sound;
}
