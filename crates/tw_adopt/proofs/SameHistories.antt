-- Two sound histories with one authenticator at a step are the same up to there, or two of their texts clash.
use Rattle.std.proofs.Common.{◌≡◌, ℕ, suc, zero, ◌-◌, ◌<◌, ◌≤◌, ◌^◌, List, [], ◌++◌, length, get_or, drop, refl, ap}
use Rattle.std.proofs.Common.{sym, ◌∙◌, subst, arith, inl, inr}
use Rattle.std.specs.Prelude.{Option, Some, None, map, option_and_then}
use Rattle.std.specs.Option.{option_map}
use Rattle.std.proofs.lemmas.Bool.{cases_lt}
use Rattle.std.proofs.lemmas.Option.{none-some, same_Some, slice_get_cases}
use Rattle.tw_base.specs.declared.history.content.Content.{Content}
use Rattle.tw_base.specs.declared.history.content.Content.TheVariants.{Events, Received}
use Rattle.tw_base.specs.declared.history.thread.Entry.{Entry}
use Rattle.tw_base.specs.declared.history.thread.Thread.{Thread}
use Rattle.tw_base.specs.events.EventTree.{event_root}
use Rattle.tw_base.specs.history.Auth.{auth, auth_text, auths, datum_text_at, link_texts_at, tree_label}
use Rattle.tw_base.specs.history.History.{History, Step, entry_at, events_at, events_of, step_at, thread_of, time_at}
use Rattle.tw_base.specs.history.HistoryTexts.{history_texts, texts_to}
use Rattle.tw_base.specs.history.Sound.{IsSound}
use Rattle.tw_base.specs.history.Tree.{entries, tree}
use Rattle.tw_base.specs.kinds.Bytes.{AreBytes}
use Rattle.tw_base.specs.kinds.Clash.{Among, OrClash, Within}
use Rattle.tw_base.specs.kinds.Levels.{top_level}
use Rattle.tw_base.specs.kinds.Lists.{Each, In}
use Rattle.tw_base.specs.kinds.Texts.{genesis_text}
use Rattle.tw_base.proofs.lemmas.events.EventTrees.{length-event_root}
use Rattle.tw_base.proofs.lemmas.history.Archives.{tree-has}
use Rattle.tw_base.proofs.lemmas.history.ArchiveTexts.{tree_texts-within}
use Rattle.tw_base.proofs.lemmas.history.Auths.{auth-suc, auths-at, has-auth_text, has-datum_text, has-event_text}
use Rattle.tw_base.proofs.lemmas.history.Auths.{has-link_text, label-at, link_texts-has, text_at}
use Rattle.tw_base.proofs.lemmas.history.Plus.{tree-first}
use Rattle.tw_base.proofs.lemmas.history.SoundEvents.{sound-may_record}
use Rattle.tw_base.proofs.lemmas.history.TextBytes.{history_texts-bytes}
use Rattle.tw_base.proofs.lemmas.history.Trees.{IsArchived, entry_at-parts, tree-archived, tree-rising}
use Rattle.tw_base.proofs.lemmas.kinds.Clashes.{Among-left, Among-right, and_then, same_text}
use Rattle.tw_base.proofs.lemmas.kinds.DigestBytes.{map-digests}
use Rattle.tw_base.proofs.lemmas.kinds.ListLemmas.{Each-append, Each-in}
use Rattle.tw_base.proofs.lemmas.kinds.Sizes.{tree_label-size}
use Rattle.tw_base.proofs.lemmas.kinds.TextFields.{SameDatum, authenticator-fields, datum-fields, link-fields}
use Rattle.tw_skipproof.proofs.OpeningBinding.{small_time}
use Rattle.tw_adopt.specs.HistoryFronts.{Same, content_at}
use Rattle.tw_adopt.proofs.SameTexts.{events-same, trees-same}

-- ---- what a step records

abbrev with_content : Step → Content → Step
with_content s c = record { content = c; time = s.time; fresh = s.fresh; root = s.root }

-- two steps with one list of events and one thread, or none, record the same
same_content : (s t : Step) → events_of (Some s) ≡ events_of (Some t) → thread_of (Some s) ≡ thread_of (Some t)
    → s.content ≡ t.content
same_content s t = by s.content t.content
  where
    by : (c d : Content) → events_of (Some (with_content s c)) ≡ events_of (Some (with_content t d))
        → thread_of (Some (with_content s c)) ≡ thread_of (Some (with_content t d)) → c ≡ d
    by (Events xs) (Events ys) events threads = ap (λ (es : List (List ℕ)). Events es) events
    by (Events xs) (Received v) events threads = absurd (none-some v threads)
    by (Received u) (Events ys) events threads = absurd (none-some u (sym threads))
    by (Received u) (Received v) events threads = ap (λ (w : Thread). Received w) (same_Some u v threads)

-- the thread of an entry that a step archived
thread-back : (k : ℕ) (o : Option Thread) → option_map (λ (e : Entry). e.thread)
    (option_and_then (λ (t : Thread). Some (record { thread = t; archived = k })) o) ≡ o
thread-back k None = refl
thread-back k (Some t) = refl

threads-same : (g h : History) (k : ℕ) → entry_at g k ≡ entry_at h k → thread_of (step_at g k) ≡ thread_of (step_at h k)
threads-same g h k same =
    sym (thread-back k (thread_of (step_at g k))) ∙ ap (option_map (λ (e : Entry). e.thread)) same ∙ thread-back k
    (thread_of (step_at h k))

-- the step behind i others, which both have
contents-same : (g h : History) (i : ℕ) → i < length g.steps → i < length h.steps → events_at g (suc i) ≡ events_at h
    (suc i)
    → thread_of (step_at g (suc i)) ≡ thread_of (step_at h (suc i)) → content_at g (suc i) ≡ content_at h (suc i)
contents-same g h i in_g in_h events threads =
    elim ((slice_get_cases g.steps i).1) [
      | inr past ↦ absurd (omega (arith, past.0, in_g))
      | inl s ↦ elim ((slice_get_cases h.steps i).1) [
        | inr past ↦ absurd (omega (arith, past.0, in_h))
        | inl t ↦ (
            let here : step_at g (suc i) ≡ Some s.0 = s.2 in
            let there : step_at h (suc i) ≡ Some t.0 = t.2 in
            let recorded = same_content s.0 t.0 (sym (ap events_of here) ∙ events ∙ ap events_of there)
            (sym (ap thread_of here) ∙ threads ∙ ap thread_of there) in
            ap (option_map (λ (r : Step). r.content)) here ∙ ap (λ (c : Content). Some c) recorded
            ∙ sym (ap (option_map (λ (r : Step). r.content)) there))
      ]
    ]

-- what one history's step received is in its archive, so in the other's, and was received there by the same step
received-there : (g h : History) (k : ℕ) → IsSound g → k ≤ length g.steps → tree g k ≡ tree h k → (e : Entry)
    → entry_at g k ≡ Some e → entry_at h k ≡ Some e
received-there g h k sound within same e at =
    let mine : In e (entries (tree g k)) = tree-has g sound k k e within (omega arith) at in
    let theirs : IsArchived h k e = Each-in (IsArchived h k) (entries (tree h k)) e (tree-archived h k)
    (subst (λ t. In e (entries t)) same mine) in
    let own = entry_at-parts g k e at in
    let its = entry_at-parts h theirs.0 e theirs.2 in
    subst (λ n. entry_at h n ≡ Some e) (its.0 ∙ sym own.0) theirs.2

entries-same : (g h : History) (k : ℕ) → IsSound g → IsSound h → k ≤ length g.steps → k ≤ length h.steps
    → tree g k ≡ tree h k → entry_at g k ≡ entry_at h k
entries-same g h k sound_g sound_h in_g in_h same = by (entry_at g k) (entry_at h k) refl refl
  where
    by : (o p : Option Entry) → entry_at g k ≡ o → entry_at h k ≡ p → o ≡ p
    by None None e f = refl
    by None (Some y) e f = sym e ∙ received-there h g k sound_h in_h (sym same) y f
    by (Some x) p e f = sym (received-there g h k sound_g in_g same x e) ∙ f

-- ---- step by step

upto_more : (P : ℕ → Type 0) (i : ℕ) → ((j : ℕ) → j ≤ i → P j) → P (suc i) → (j : ℕ) → j ≤ suc i → P j
upto_more P i before last j within =
    elim (cases_lt i j) [
      | inl more ↦ (let at : suc i ≡ j = omega (arith, more, within) in subst P at last)
      | inr less ↦ before j less
    ]

-- before the first step
same_first : (g h : History) → g.name ≡ h.name → Same g h 0
same_first g h name = record {
  name = name;
  has = omega arith;
  other_has = omega arith;
  contents = λ j within. none j within;
  times = λ j within. untimed j within;
  trees = λ j within. bare j within;
}
  where
    none : (j : ℕ) → j ≤ 0 → content_at g j ≡ content_at h j
    none zero within = refl
    none (suc j) within = absurd (omega (arith, within))

    untimed : (j : ℕ) → j ≤ 0 → time_at g j ≡ time_at h j
    untimed zero within = refl
    untimed (suc j) within = absurd (omega (arith, within))

    bare : (j : ℕ) → j ≤ 0 → tree g j ≡ tree h j
    bare zero within = tree-first g ∙ sym (tree-first h)
    bare (suc j) within = absurd (omega (arith, within))

same_more : (g h : History) (i : ℕ) → i < length g.steps → i < length h.steps → Same g h i
    → content_at g (suc i) ≡ content_at h (suc i) → time_at g (suc i) ≡ time_at h (suc i) → tree g (suc i) ≡ tree h
    (suc i) → Same g h (suc i)
same_more g h i in_g in_h before content time archive = record {
  name = before.name;
  has = omega (arith, in_g);
  other_has = omega (arith, in_h);
  contents = upto_more (λ j. content_at g j ≡ content_at h j) i before.contents content;
  times = upto_more (λ j. time_at g j ≡ time_at h j) i before.times time;
  trees = upto_more (λ j. tree g j ≡ tree h j) i before.trees archive;
}

few_events : (f : History) (i : ℕ) → IsSound f → length (events_at f (suc i)) < 2 ^ 32
few_events f i sound = let few = (sound-may_record f (suc i) sound).are.count in omega (arith, few)

genesis-name : (name other : List ℕ) → genesis_text name ≡ genesis_text other → name ≡ other
unfolding genesis_text
genesis-name name other e = ap (drop 1) e

module _ (dig : List ℕ → List ℕ) where
  auth-first : (f : History) → auth dig f 0 ≡ dig (genesis_text f.name)
  unfolding auth auths
  auth-first f = refl

  texts_to-has_name : (f : History) (n : ℕ) → Among (genesis_text f.name) (texts_to dig f n)
  unfolding texts_to
  texts_to-has_name f zero = inl refl
  texts_to-has_name f (suc n) = Among-left (genesis_text f.name) (texts_to dig f n) _ (texts_to-has_name f n)

  has-name_text : (f : History) → Among (genesis_text f.name) (history_texts dig f)
  unfolding history_texts
  has-name_text f = texts_to-has_name f (length f.steps)

  -- the text of the link to the step before, and its label
  abbrev first_text : History → ℕ → List ℕ
  first_text f i = text_at dig (dig (datum_text_at dig f (suc i))) (auths dig f i) (suc i) 0

  first-label : (f : History) (i : ℕ) → get_or (map dig (link_texts_at dig f (auths dig f i) (suc i))) 0 [] ≡ dig
      (first_text f i)
  first-label f i = label-at dig _ _ (suc i) 0 (suc (top_level (suc i))) (omega arith)

  first-among : (f : History) (i : ℕ) → Among (first_text f i) (link_texts_at dig f (auths dig f i) (suc i))
  first-among f i = link_texts-has dig _ _ (suc i) 0 (suc (top_level (suc i))) (omega arith)

  before-is : (f : History) (i : ℕ) → get_or (auths dig f i) (suc i - 1) [] ≡ auth dig f i
  before-is f i =
      let back : suc i - 1 ≡ i = omega arith in
      ap (λ n. get_or (auths dig f i) n []) back ∙ auths-at dig f i i (omega arith)

  module _ (size : (text : List ℕ) → length (dig text) ≡ 32) (are : (text : List ℕ) → AreBytes (dig text))
      (g h : History) (sound_g : IsSound g) (sound_h : IsSound h) where
    abbrev texts : List (List ℕ)
    texts = history_texts dig g ++ history_texts dig h

    texts-are : Each AreBytes texts
    texts-are = Each-append AreBytes (history_texts dig g) (history_texts dig h)
        (history_texts-bytes dig size are g sound_g) (history_texts-bytes dig size are h sound_h)

    of_g : Within (history_texts dig g) texts
    of_g text a = Among-left text (history_texts dig g) (history_texts dig h) a

    of_h : Within (history_texts dig h) texts
    of_h text a = Among-right text (history_texts dig g) (history_texts dig h) a

    -- the datum of both at step i + 1, and their authenticators at step i
    record StepBinds (i : ℕ) : Type 0 where
      datum :
          SameDatum (event_root dig (events_at g (suc i))) (tree_label dig (tree g (suc i)))
          (length (events_at g (suc i))) (time_at g (suc i))
          (event_root dig (events_at h (suc i))) (tree_label dig (tree h (suc i))) (length (events_at h (suc i)))
          (time_at h (suc i))
      before : auth dig g i ≡ auth dig h i

    same_datum : (i : ℕ) → datum_text_at dig g (suc i) ≡ datum_text_at dig h (suc i)
        → SameDatum (event_root dig (events_at g (suc i))) (tree_label dig (tree g (suc i)))
        (length (events_at g (suc i))) (time_at g (suc i))
        (event_root dig (events_at h (suc i))) (tree_label dig (tree h (suc i))) (length (events_at h (suc i)))
        (time_at h (suc i))
    unfolding datum_text_at
    same_datum i e =
        datum-fields _ _ _ _ _ _ (length-event_root dig size _ ∙ sym (length-event_root dig size _))
        (tree_label-size dig size _ ∙ sym (tree_label-size dig size _))
        (few_events g i sound_g) (few_events h i sound_h) (time_at g (suc i)) (time_at h (suc i))
        (small_time g i sound_g) (small_time h i sound_h) e

    step-binds : (i : ℕ) → i < length g.steps → i < length h.steps → auth dig g (suc i) ≡ auth dig h (suc i)
        → OrClash dig texts (StepBinds i)
    step-binds i in_g in_h e =
        let own : List (List ℕ) = map dig (link_texts_at dig g (auths dig g i) (suc i)) in
        let its : List (List ℕ) = map dig (link_texts_at dig h (auths dig h i) (suc i)) in
        and_then dig texts _ _
        (same_text dig texts texts-are (auth_text dig g (auths dig g i) (suc i))
        (auth_text dig h (auths dig h i) (suc i))
        (of_g _ (has-auth_text dig g i in_g)) (of_h _ (has-auth_text dig h i in_h))
        (sym (auth-suc dig g i) ∙ e ∙ auth-suc dig h i))
        (λ same_auth.
        let labels : own ≡ its = authenticator-fields (suc i) own its (map-digests dig size are _)
        (map-digests dig size are _) same_auth in
        and_then dig texts _ _
        (same_text dig texts texts-are (first_text g i) (first_text h i)
        (of_g _ (has-link_text dig g _ i in_g (first-among g i)))
        (of_h _ (has-link_text dig h _ i in_h (first-among h i)))
        (sym (first-label g i) ∙ ap (λ ls. get_or ls 0 []) labels ∙ first-label h i))
        (λ same_link.
        let link = link-fields (suc i) 0 _ _ _ _ (size _ ∙ sym (size _)) same_link in
        and_then dig texts _ _
        (same_text dig texts texts-are (datum_text_at dig g (suc i)) (datum_text_at dig h (suc i))
        (of_g _ (has-datum_text dig g i in_g)) (of_h _ (has-datum_text dig h i in_h)) link.0)
        (λ same. inl (record { datum = same_datum i same; before = sym (before-is g i) ∙ link.1 ∙ before-is h i }))))

    -- step i + 1, where both are the same up to step i
    step-same : (i : ℕ) → i < length g.steps → i < length h.steps → StepBinds i → Same g h i
        → OrClash dig texts (Same g h (suc i))
    step-same i in_g in_h binds before =
        and_then dig texts _ _
        (events-same dig size texts texts-are (events_at g (suc i)) (events_at h (suc i)) binds.datum.count
        binds.datum.event_root
        (λ text a. of_g text (has-event_text dig g text i in_g a))
        (λ text a. of_h text (has-event_text dig h text i in_h a)))
        (λ events. and_then dig texts _ _
        (trees-same dig size texts texts-are (tree g (suc i)) (tree h (suc i)) (tree-rising g sound_g (suc i)).fits
        (tree-rising h sound_h (suc i)).fits
        (λ text a. of_g text (tree_texts-within dig g (suc i) (omega (arith, in_g)) text a))
        (λ text a. of_h text (tree_texts-within dig h (suc i) (omega (arith, in_h)) text a))
        binds.datum.archive_root)
        (λ archive.
        let entry = entries-same g h (suc i) sound_g sound_h (omega (arith, in_g)) (omega (arith, in_h)) archive in
        inl (same_more g h i in_g in_h before (contents-same g h i in_g in_h events (threads-same g h (suc i) entry))
        binds.datum.time archive)))

    same-to : (i : ℕ) → i ≤ length g.steps → i ≤ length h.steps → auth dig g i ≡ auth dig h i
        → OrClash dig texts (Same g h i)
    same-to zero in_g in_h e =
        and_then dig texts _ _
        (same_text dig texts texts-are (genesis_text g.name) (genesis_text h.name) (of_g _ (has-name_text g))
        (of_h _ (has-name_text h))
        (sym (auth-first g) ∙ e ∙ auth-first h))
        (λ same. inl (same_first g h (genesis-name g.name h.name same)))
    same-to (suc i) in_g in_h e =
        and_then dig texts _ _ (step-binds i (omega (arith, in_g)) (omega (arith, in_h)) e)
        (λ binds. and_then dig texts _ _ (same-to i (omega (arith, in_g)) (omega (arith, in_h)) binds.before)
        (λ before. step-same i (omega (arith, in_g)) (omega (arith, in_h)) binds before))

  -- one authenticator stands for one history up to its step
  pub histories-same : (size : (text : List ℕ) → length (dig text) ≡ 32) (are : (text : List ℕ) → AreBytes (dig text))
      (g h : History) (step : ℕ) → IsSound g → IsSound h
      → step ≤ length g.steps → step ≤ length h.steps → auth dig g step ≡ auth dig h step
      → OrClash dig (history_texts dig g ++ history_texts dig h) (Same g h step)
  histories-same size are g h step sound_g sound_h in_g in_h e = same-to size are g h sound_g sound_h step in_g in_h e
