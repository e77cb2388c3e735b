-- A sound history breaks none of the rules that two files of it can show to be broken.
use Rattle.std.proofs.Common.{◌≡◌, ◌≢◌, ℕ, suc, zero, ◌-◌, ◌<◌, ◌≤◌, List, [], ◌∷◌, length, refl, sym, ap, ◌∙◌, subst}
use Rattle.std.proofs.Common.{arith, inl, inr}
use Rattle.std.specs.Prelude.{Bool, true, false, Option, Some, None, IfSome, ◌==◌, ◌&&◌, not, nat_le, nat_lt, if◌then◌else◌}
use Rattle.std.specs.Option.{option_map_or}
use Rattle.std.specs.Str.{bytes_eq}
use Rattle.std.proofs.lemmas.Bool.{and_from, and_parts, both_ways, cases_lt, eq-eqb, eqb-false, eqb-true, leb-true, ltb-true, not-true}
use Rattle.std.proofs.lemmas.Slice.Eq.{bytes_eq-Decides}
use Rattle.tw_base.specs.declared.history.content.Content.{Content}
use Rattle.tw_base.specs.declared.history.content.Content.TheVariants.{Events, Received}
use Rattle.tw_base.specs.declared.history.thread.Entry.{Entry}
use Rattle.tw_base.specs.declared.history.thread.Thread.{Thread}
use Rattle.tw_base.specs.events.EventTree.{event_root, event_texts, left_half, right_half, tree_hash}
use Rattle.tw_base.specs.history.Auth.{auth, auths}
use Rattle.tw_base.specs.history.History.{History, Node, Step, entry_at, events_at, events_of, step_at, thread_of, time_at}
use Rattle.tw_base.specs.history.Rules.Rule.{IsOfAnother}
use Rattle.tw_base.specs.history.Sound.{IsSound}
use Rattle.tw_base.specs.history.HistoryTexts.{history_texts}
use Rattle.tw_base.specs.kinds.Bytes.{AreBytes}
use Rattle.tw_base.specs.kinds.Clash.{Among, OrClash, Within}
use Rattle.tw_base.specs.kinds.Texts.{event_leaf_text, event_node_text, genesis_text, no_events_text}
use Rattle.tw_base.proofs.lemmas.events.EventTrees.{event_root-more, event_root-one, event_texts-leaf, event_texts-top}
use Rattle.tw_base.proofs.lemmas.events.EventTrees.{top_text}
use Rattle.tw_base.proofs.lemmas.history.Archives.{received-has}
use Rattle.tw_base.proofs.lemmas.history.Auths.{has-event_text}
use Rattle.tw_base.proofs.lemmas.history.TextBytes.{history_texts-bytes}
use Rattle.tw_base.proofs.lemmas.history.Times.{times-order}
use Rattle.tw_base.proofs.lemmas.history.Trees.{entry_at-parts}
use Rattle.tw_base.proofs.lemmas.kinds.Clashes.{Among-bytes}
use Rattle.tw_contradict.specs.Rules.{are_at_one_step, are_two, breaks, by_entries, by_entry, differ_at, do_fall, goes_back}
use Rattle.tw_contradict.specs.Rules.{has_other_empty_root, has_other_genesis, is_same_key, lacks_entry, rule_texts, times_fall}
use Rattle.tw_contradict.specs.declared.facts.Facts.{Facts}
use Rattle.tw_contradict.specs.declared.facts.Lack.{Lack}
use Rattle.tw_contradict.specs.declared.facts.Rule.{Rule}
use Rattle.tw_contradict.specs.declared.facts.Rule.TheVariants as rule
use Rattle.tw_contradict.proofs.BoundFiles.{Stands}
use Rattle.tw_contradict.proofs.Shown.{LackStands, Lacks, before-lower}

-- ---- tests

-- a test of an entry that none passes
no-entry : (P : Entry → Type 0) (is : Entry → Bool) (o : Option Entry) → IfSome o P
    → ((e : Entry) → P e → is e ≡ true → ⊥) → option_map_or is o false ≡ true → ⊥
no-entry P is None stands never passes = cc
no-entry P is (Some e) stands never passes = never e stands passes

-- two texts that are one don't differ
not-other : (one other : List ℕ) → one ≡ other → not (bytes_eq one other) ≡ true → ⊥
not-other one other same differ =
    both_ways (bytes_eq one other) (not-true (bytes_eq one other) differ) ((bytes_eq-Decides one other).1 same)

-- two authenticators of one step that are one don't differ
not-differ : (step : ℕ) (one : List ℕ) (at : ℕ) (other : List ℕ) → (step ≡ at → one ≡ other)
    → differ_at step one at other ≡ true → ⊥
not-differ step one at other same is =
    let parts = and_parts (step == at) (not (bytes_eq one other)) is in
    not-other one other (same (eqb-true step at parts.0)) parts.1

-- ---- a step that received a thread has no events

received-none : (content : Content) (time : Option ℕ) (fresh : List Node) (root : ℕ) (t : Thread)
    → thread_of (Some (record { content = content; time = time; fresh = fresh; root = root })) ≡ Some t
    → events_of (Some (record { content = content; time = time; fresh = fresh; root = root })) ≡ []
received-none (Events events) time fresh root t at = absurd (cc)
received-none (Received u) time fresh root t at = refl

step-none : (o : Option Step) (t : Thread) → thread_of o ≡ Some t → events_of o ≡ []
step-none None t at = refl
step-none (Some s) t at = received-none s.content s.time s.fresh s.root t at

-- ---- the texts of events

leaf-some : (event : List ℕ) → event_leaf_text event ≢ no_events_text
unfolding event_leaf_text no_events_text
leaf-some event same = cc

node-some : (left right : List ℕ) → event_node_text left right ≢ no_events_text
unfolding event_node_text no_events_text
node-some left right same = cc

events-known : (dig : List ℕ → List ℕ) (h : History) (step : ℕ) → 0 < step → step ≤ length h.steps
    → Within (event_texts dig (events_at h step)) (history_texts dig h)
events-known dig h zero some within = absurd (omega (arith, some))
events-known dig h (suc i) some within = λ t a. has-event_text dig h t i (omega (arith, within)) a

module _ (h : History) where
  -- an entry that was received isn't lacked
  entry-lacked : (e : Entry) (lack : Lack) → entry_at h e.archived ≡ Some e → Lacks h lack
      → lacks_entry lack e ≡ true → ⊥
  entry-lacked e lack at none is =
      let name = and_parts (bytes_eq e.thread.from lack.peer) _ is in
      let above = and_parts (nat_lt lack.above e.thread.step) _ name.1 in
      let last = and_parts (nat_le e.thread.step lack.last) (nat_le e.archived lack.upto) above.1 in
      none e (received-has h lack.upto e.archived e (leb-true e.archived lack.upto last.1) at)
      ((bytes_eq-Decides e.thread.from lack.peer).0 name.0) (ltb-true lack.above e.thread.step above.0)
      (leb-true e.thread.step lack.last last.0)

  -- one step received one thread
  same-step : (e f : Entry) → entry_at h e.archived ≡ Some e → entry_at h f.archived ≡ Some f
      → e.archived ≡ f.archived → e ≡ f
  same-step e f at also same =
      let both : Some e ≡ Some f = sym at ∙ subst (λ k. entry_at h k ≡ Some f) (sym same) also in cc

  -- and has no events
  no-events : (e : Entry) → entry_at h e.archived ≡ Some e → events_at h e.archived ≡ []
  no-events e at = step-none (step_at h e.archived) e.thread (entry_at-parts h e.archived e at).1

  module _ (sound : IsSound h) where
    -- a received thread is of another service
    of-another : (k : ℕ) (t : Thread) → thread_of (step_at h k) ≡ Some t → t.from ≢ h.name
    of-another zero t at = absurd (cc)
    of-another (suc i) t at = by (step_at h (suc i)) refl at
      where
        by : (o : Option Step) → step_at h (suc i) ≡ o → thread_of o ≡ Some t → t.from ≢ h.name
        by None is got = absurd (cc)
        by (Some s) is got =
            subst (λ (o : Option Thread). IfSome o (λ u. u.from ≢ h.name)) got ((sound.steps i s is).rules IsOfAnother)

    -- of one service the thread that was received earlier is of the lower step
    lower-first : (e f : Entry) → entry_at h e.archived ≡ Some e → entry_at h f.archived ≡ Some f
        → f.archived < e.archived → f.thread.from ≡ e.thread.from → f.thread.step < e.thread.step
    lower-first e f at also less name =
        before-lower h sound e.archived e f at
        (received-has h (e.archived - 1) f.archived f (omega (arith, less)) also) name

-- ---- two files

module _ (dig : List ℕ → List ℕ) (h : History) (sound : IsSound h) (one other : Facts) (name : h.name ≡ one.service)
    (says : Stands dig h one) (also : Stands dig h other) where
  abbrev Has : ℕ → Entry → Type 0
  Has i e = (entry_at h e.archived ≡ Some e) × (e.archived ≤ i)

  -- a test of two entries that none pass
  no-entries : (are : Entry → Entry → Bool) → ((e f : Entry) → entry_at h e.archived ≡ Some e
      → entry_at h f.archived ≡ Some f → are e f ≡ true → ⊥) → by_entries are one other ≡ true → ⊥
  no-entries are never is =
      no-entry (Has one.step) (λ e. by_entry (are e) other) one.entry says.has_entry
      (λ e has. no-entry (Has other.step) (are e) other.entry also.has_entry (λ f had. never e f has.0 had.0)) is

  never-denied : (lack : Option Lack) → LackStands h lack → (e : Entry) → entry_at h e.archived ≡ Some e
      → option_map_or (λ l. lacks_entry l e) lack false ≡ true → ⊥
  never-denied None stands e at is = cc
  never-denied (Some lack) stands e at is = entry-lacked h e lack at stands is

  never-two : (e f : Entry) → entry_at h e.archived ≡ Some e → entry_at h f.archived ≡ Some f → are_two e f ≡ true → ⊥
  never-two e f at had is =
      let parts = and_parts (is_same_key e f) _ is in
      let key = and_parts (bytes_eq e.thread.from f.thread.from) (e.thread.step == f.thread.step) parts.0 in
      let from : e.thread.from ≡ f.thread.from = (bytes_eq-Decides e.thread.from f.thread.from).0 key.0 in
      let step : e.thread.step ≡ f.thread.step = eqb-true e.thread.step f.thread.step key.1 in
      let same : Bool = bytes_eq e.thread.auth f.thread.auth && e.archived == f.archived in
      let equal : e.archived ≡ f.archived → ⊥ = λ archived. (
      let whole : e ≡ f = same-step h e f at had archived in
      both_ways same (not-true same parts.1) (and_from (bytes_eq e.thread.auth f.thread.auth)
      (e.archived == f.archived)
      ((bytes_eq-Decides e.thread.auth f.thread.auth).1 (ap (λ (x : Entry). x.thread.auth) whole))
      (eq-eqb e.archived f.archived archived))) in
      let above : f.archived < e.archived → ⊥ = λ less. (
      let low = lower-first h sound e f at had less (sym from) in omega (arith, low, step)) in
      let below : e.archived < f.archived → ⊥ = λ less. (
      let low = lower-first h sound f e had at less from in omega (arith, low, step)) in
      elim (cases_lt e.archived f.archived) [
        | inl less ↦ below less
        | inr least ↦ elim (cases_lt f.archived e.archived) [
          | inl less ↦ above less
          | inr most ↦ equal (omega (arith, least, most))
        ]
      ]

  never-at_one_step : (e f : Entry) → entry_at h e.archived ≡ Some e → entry_at h f.archived ≡ Some f
      → are_at_one_step e f ≡ true → ⊥
  never-at_one_step e f at had is =
      let parts = and_parts (e.archived == f.archived) (not (is_same_key e f)) is in
      let whole : e ≡ f = same-step h e f at had (eqb-true e.archived f.archived parts.0) in
      both_ways (is_same_key e f) (not-true (is_same_key e f) parts.1)
      (and_from (bytes_eq e.thread.from f.thread.from) (e.thread.step == f.thread.step)
      ((bytes_eq-Decides e.thread.from f.thread.from).1 (ap (λ (x : Entry). x.thread.from) whole))
      (eq-eqb e.thread.step f.thread.step (ap (λ (x : Entry). x.thread.step) whole)))

  never-fall : (e f : Entry) → entry_at h e.archived ≡ Some e → entry_at h f.archived ≡ Some f → do_fall e f ≡ true → ⊥
  never-fall e f at had is =
      let from = and_parts (bytes_eq e.thread.from f.thread.from) _ is in
      let order = and_parts (nat_lt e.thread.step f.thread.step) (nat_lt f.archived e.archived) from.1 in
      let lower = ltb-true e.thread.step f.thread.step order.0 in
      let low = lower-first h sound e f at had (ltb-true f.archived e.archived order.1)
      (sym ((bytes_eq-Decides e.thread.from f.thread.from).0 from.0)) in
      omega (arith, lower, low)

  never-events : (e : Entry) → entry_at h e.archived ≡ Some e → (e.archived == other.step && nat_lt 0 other.count) ≡ true
      → ⊥
  never-events e at is =
      let parts = and_parts (e.archived == other.step) (nat_lt 0 other.count) is in
      let same = eqb-true e.archived other.step parts.0 in
      let some = ltb-true 0 other.count parts.1 in
      let none : length (events_at h other.step) ≡ 0 =
      subst (λ k. length (events_at h k) ≡ 0) same (ap (λ (xs : List (List ℕ)). length xs) (no-events h e at)) in
      let count = also.has_count in
      omega (arith, none, count, some)

  never-back : goes_back one other ≡ true → ⊥
  never-back is =
      let parts = and_parts (nat_lt one.step other.step) (times_fall one.time other.time) is in
      by (ltb-true one.step other.step parts.0) one.time other.time says.has_time also.has_time parts.1
    where
      by : one.step < other.step → (earlier later : Option ℕ) → time_at h one.step ≡ earlier
          → time_at h other.step ≡ later → times_fall earlier later ≡ true → ⊥
      by less None later first second fall = cc
      by less (Some time) None first second fall = cc
      by less (Some time) (Some next) first second fall =
          let falls = ltb-true next time fall in
          let order = times-order h sound one.step other.step time next (omega (arith, less)) first second in
          omega (arith, falls, order)

  never-genesis : has_other_genesis dig one ≡ true → ⊥
  unfolding auth auths
  never-genesis is = not-differ (one.step - 1) one.before 0 (dig (genesis_text one.service)) (λ first.
      sym says.has_before ∙ ap (auth dig h) first ∙ ap (λ (n : List ℕ). dig (genesis_text n)) name) is

  no-root : (events : List (List ℕ)) → length events ≡ 0 → event_root dig events ≡ dig no_events_text
  unfolding event_root tree_hash
  no-root [] none = refl
  no-root (event ∷ events) none = absurd (omega (arith, none))

  never-empty : one.count ≡ 0 → not (bytes_eq one.event_root (dig no_events_text)) ≡ true → ⊥
  never-empty none =
      not-other one.event_root (dig no_events_text)
      (sym says.has_root ∙ no-root (events_at h one.step) (says.has_count ∙ none))

  -- ---- the root of events that are there

  module _ (size : (text : List ℕ) → length (dig text) ≡ 32) (are : (text : List ℕ) → AreBytes (dig text))
      (texts : List (List ℕ)) (within : Within (history_texts dig h) texts) where
    root-clashes : (text : List ℕ) → Among text (event_texts dig (events_at h one.step)) → text ≢ no_events_text
        → event_root dig (events_at h one.step) ≡ dig text → Among no_events_text texts
        → one.event_root ≡ dig no_events_text → OrClash dig texts ⊥
    unfolding no_events_text
    root-clashes text there differ root none same =
        let known : Among text (history_texts dig h) = events-known dig h one.step says.has_step.0 says.has_step.1 text
        there in
        inr (record {
          one = text;
          other = no_events_text;
          has_one = within text known;
          has_other = none;
          one_bytes = Among-bytes (history_texts dig h) text (history_texts-bytes dig size are h sound) known;
          other_bytes = tt;
          differ = differ;
          one_digest = sym root ∙ says.has_root ∙ same;
        })

    never-root : (0 < one.count) → Among no_events_text texts → one.event_root ≡ dig no_events_text
        → OrClash dig texts ⊥
    never-root some none same =
        by (events_at h one.step) refl
      where
        by : (events : List (List ℕ)) → events_at h one.step ≡ events → OrClash dig texts ⊥
        by [] is = (let count = says.has_count in let empty = ap (λ (xs : List (List ℕ)). length xs) is in
            absurd (omega (arith, some, count, empty)))
        by (event ∷ []) is =
            root-clashes (event_leaf_text event)
            (subst (λ (xs : List (List ℕ)). Among (event_leaf_text event) (event_texts dig xs)) (sym is)
            (event_texts-leaf dig event)) (leaf-some event)
            (subst (λ (xs : List (List ℕ)). event_root dig xs ≡ dig (event_leaf_text event)) (sym is)
            (event_root-one dig event)) none same
        by (event ∷ next ∷ events) is =
            let all : List (List ℕ) = event ∷ next ∷ events in
            let two : 1 < length all = omega arith in
            root-clashes (top_text dig all)
            (subst (λ (xs : List (List ℕ)). Among (top_text dig all) (event_texts dig xs)) (sym is)
            (event_texts-top dig all two)) (node-some (event_root dig (left_half all)) (event_root dig (right_half all)))
            (subst (λ (xs : List (List ℕ)). event_root dig xs ≡ dig (top_text dig all)) (sym is)
            (event_root-more dig all two)) none same

    never-empty_root : Among no_events_text texts → has_other_empty_root dig one ≡ true → OrClash dig texts ⊥
    never-empty_root none is = by (one.count == 0) refl is
      where
        by : (b : Bool) → (one.count == 0) ≡ b
            → (if b then not (bytes_eq one.event_root (dig no_events_text))
            else bytes_eq one.event_root (dig no_events_text)) ≡ true → OrClash dig texts ⊥
        by true test is = absurd (never-empty (eqb-true one.count 0 test) is)
        by false test is =
            let other = eqb-false one.count 0 test in
            let some : 0 < one.count = omega (arith, other) in
            never-root some none ((bytes_eq-Decides one.event_root (dig no_events_text)).0 is)

    -- both files, in this order, don't break the rule, or texts clash
    pub never-breaks : (r : Rule) → Within (rule_texts r) texts → breaks dig r one other ≡ true → OrClash dig texts ⊥
    unfolding breaks
    never-breaks rule.Denied has is = absurd (no-entry (Has one.step) (λ e. option_map_or (λ lack. lacks_entry lack e) other.lack false) one.entry says.has_entry (λ e has. never-denied other.lack also.has_lack e has.0) is)
    never-breaks rule.OwnThread has is = absurd (no-entry (Has one.step) (λ e. bytes_eq e.thread.from one.service) one.entry says.has_entry (λ e has own. of-another h sound e.archived e.thread (entry_at-parts h e.archived e has.0).1 ((bytes_eq-Decides e.thread.from one.service).0 own ∙ sym name)) is)
    never-breaks rule.ReceivedLater has is = absurd (no-entry (Has one.step) (λ e. nat_lt one.step e.archived) one.entry says.has_entry (λ e has later. (let less = ltb-true one.step e.archived later in let most = has.1 in omega (arith, less, most))) is)
    never-breaks rule.TwoEntries has is = absurd (no-entries are_two never-two is)
    never-breaks rule.TwoAtOneStep has is = absurd (no-entries are_at_one_step never-at_one_step is)
    never-breaks rule.StepsFall has is = absurd (no-entries do_fall never-fall is)
    never-breaks rule.EventsToo has is = absurd (no-entry (Has one.step) (λ e. e.archived == other.step && nat_lt 0 other.count) one.entry says.has_entry (λ e has. never-events e has.0) is)
    never-breaks rule.ClockBack has is = absurd (never-back is)
    never-breaks rule.TwoAuthenticators has is = absurd (not-differ one.step one.auth other.step other.auth (λ same. sym says.has_auth ∙ ap (auth dig h) same ∙ also.has_auth) is)
    never-breaks rule.OtherThanLine has is = absurd (not-differ one.line.step one.line.auth other.step other.auth (λ same. sym says.has_line ∙ ap (auth dig h) same ∙ also.has_auth) is)
    never-breaks rule.TwoLines has is = absurd (not-differ one.line.step one.line.auth other.line.step other.line.auth (λ same. sym says.has_line ∙ ap (auth dig h) same ∙ also.has_line) is)
    never-breaks rule.OtherBefore has is = absurd (not-differ (one.step - 1) one.before other.step other.auth (λ same. sym says.has_before ∙ ap (auth dig h) same ∙ also.has_auth) is)
    never-breaks rule.OtherBeforeLine has is = absurd (not-differ (one.step - 1) one.before other.line.step other.line.auth (λ same. sym says.has_before ∙ ap (auth dig h) same ∙ also.has_line) is)
    never-breaks rule.OtherGenesis has is = absurd (never-genesis is)
    never-breaks rule.OtherEmptyRoot has is = never-empty_root (has no_events_text (inl refl)) is
