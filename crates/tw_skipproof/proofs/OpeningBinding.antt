-- From a step's authenticator to what it was made of.
use Rattle.std.proofs.Common.{◌≡◌, ℕ, suc, zero, ◌-◌, ◌<◌, ◌≤◌, ◌^◌, List, [], ◌∷◌, ◌++◌, length, get_or, refl, ap, sym}
use Rattle.std.proofs.Common.{◌∙◌, arith, inl, inr}
use Rattle.std.specs.Prelude.{Option, Some, None, MatchOption, IfSome, map}
use Rattle.tw_base.specs.history.History.{History, events_at, time_at}
use Rattle.tw_base.specs.history.Tree.{tree}
use Rattle.tw_base.specs.events.EventTree.{event_root}
use Rattle.tw_base.specs.kinds.Levels.{top_level}
use Rattle.tw_base.specs.history.Auth.{auth, auths, auth_text, datum_text_at, link_texts_at, tree_label}
use Rattle.tw_base.specs.history.HistoryTexts.{history_texts}
use Rattle.tw_base.specs.history.Limits.{IsTimeWithinLimits}
use Rattle.tw_base.specs.history.Sound.{IsSound}
use Rattle.tw_base.specs.kinds.Bytes.{AreBytes, HasBytes}
use Rattle.tw_base.specs.kinds.Clash.{Among, OrClash}
use Rattle.tw_base.specs.kinds.Lists.{Each}
use Rattle.tw_base.proofs.lemmas.kinds.Clashes.{and_then, same_text, Among-left, Among-right}
use Rattle.tw_base.proofs.lemmas.kinds.TextFields.{authenticator-fields, link-fields, datum-fields, SameDatum}
use Rattle.tw_base.proofs.lemmas.events.EventTrees.{length-event_root}
use Rattle.tw_base.proofs.lemmas.history.SoundEvents.{sound-may_record, sound-time}
use Rattle.tw_base.proofs.lemmas.kinds.DigestBytes.{map-digests}
use Rattle.tw_base.proofs.lemmas.kinds.ListLemmas.{Each-append, Each-map}
use Rattle.tw_base.proofs.lemmas.kinds.Levels.{top_level-below}
use Rattle.tw_base.proofs.lemmas.kinds.Sizes.{tree_label-size}
use Rattle.tw_base.proofs.lemmas.history.TextBytes.{authenticator_text-bytes, history_texts-bytes, link_text-bytes}
use Rattle.tw_base.proofs.lemmas.history.TextBytes.{step_datum_text-bytes}
use Rattle.tw_base.proofs.lemmas.history.Auths.{auth-suc, auths-at, has-auth_text, has-datum_text, has-link_text}
use Rattle.tw_base.proofs.lemmas.history.Auths.{label-at, link_texts-has, text_at}
use Rattle.tw_skipproof.specs.declared.opening.Opening.{Opening}
use Rattle.tw_skipproof.specs.Openings.{Binds, HasOpeningSizes, IsOpeningAt, opening_auth, opening_auth_text}
use Rattle.tw_skipproof.specs.Openings.{opening_datum_text, opening_link_text, opening_texts}

few_events : (h : History) (i : ℕ) → IsSound h → length (events_at h (suc i)) < 2 ^ 32
few_events h i sound = let few = (sound-may_record h (suc i) sound).are.count in omega arith

pub small_time : (h : History) (i : ℕ) → IsSound h → IfSome (time_at h (suc i)) (λ t. t < 2 ^ 64)
small_time h i sound = within (time_at h (suc i)) (sound-time h (suc i) sound)
  where
    within : (time : Option ℕ) → IsTimeWithinLimits time → IfSome time (λ t. t < 2 ^ 64)
    within None is = tt
    within (Some t) is = omega (arith, is)

module _ (dig : List ℕ → List ℕ) (size : (text : List ℕ) → length (dig text) ≡ 32) (are : (text : List ℕ)
    → AreBytes (dig text)) where
  -- what an opening hashes is bytes
  pub opening_texts-bytes : (step : ℕ) (o : Opening) → HasOpeningSizes o → length o.others < 255
      → Each AreBytes (opening_texts dig step o)
  unfolding opening_texts
  opening_texts-bytes step o sizes few =
      let datum = step_datum_text-bytes o.event_root o.archive_root o.count o.time sizes.event_root.1
      sizes.archive_root.1 in
      let link = link_text-bytes step 0 (dig (opening_datum_text dig step o)) o.prev (omega arith) (are _)
      sizes.prev.1 in
      let labels = Each-map (HasBytes 32) AreBytes o.others (λ label has. has.1) sizes.others in (
        datum,
        (
          link,
          (
            authenticator_text-bytes step (dig (opening_link_text dig step o) ∷ o.others) (omega (arith, few))
                (are _, labels),
            tt,
          ),
        ),
      )

  -- the text of the link to the step before, at level 0, and its label
  abbrev first_text : History → ℕ → List ℕ
  first_text h i = text_at dig (dig (datum_text_at dig h (suc i))) (auths dig h i) (suc i) 0

  first_label : (h : History) (i : ℕ) (x : List ℕ) (xs : List (List ℕ))
      → map dig (link_texts_at dig h (auths dig h i) (suc i)) ≡ x ∷ xs → dig (first_text h i) ≡ x
  first_label h i x xs e =
      sym (label-at dig _ _ (suc i) 0 (suc (top_level (suc i))) (omega arith)) ∙ ap (λ ls. get_or ls 0 []) e

  first_among : (h : History) (i : ℕ) → Among (first_text h i) (link_texts_at dig h (auths dig h i) (suc i))
  first_among h i = link_texts-has dig _ _ (suc i) 0 (suc (top_level (suc i))) (omega arith)

  before_is : (h : History) (i : ℕ) (b : List ℕ) → get_or (auths dig h i) (suc i - 1) [] ≡ b → auth dig h (suc i - 1)
      ≡ b
  before_is h i b e = sym (auths-at dig h i (suc i - 1) (omega arith)) ∙ e

  same_fields : (h : History) (i : ℕ) (o : Opening) → HasOpeningSizes o → length (events_at h (suc i)) < 2 ^ 32
      → IfSome (time_at h (suc i)) (λ t. t < 2 ^ 64)
      → datum_text_at dig h (suc i) ≡ opening_datum_text dig (suc i) o
      → SameDatum (event_root dig (events_at h (suc i))) (tree_label dig (tree h (suc i)))
      (length (events_at h (suc i))) (time_at h (suc i)) o.event_root o.archive_root o.count o.time
  unfolding datum_text_at
  same_fields h i o sizes few small e =
      datum-fields _ _ _ _ _ _ (length-event_root dig size _ ∙ sym sizes.event_root.0) (tree_label-size dig size _
      ∙ sym sizes.archive_root.0) few sizes.count (time_at h (suc i)) o.time small sizes.time e

  opening-binds : (h : History) (i : ℕ) (o : Opening) → Each AreBytes (history_texts dig h ++ opening_texts dig (suc i)
      o) → HasOpeningSizes o → i < length h.steps → length (events_at h (suc i)) < 2 ^ 32 → IfSome (time_at h (suc i))
      (λ t. t < 2 ^ 64)
      → opening_auth dig (suc i) o ≡ auth dig h (suc i)
      → OrClash dig (history_texts dig h ++ opening_texts dig (suc i) o) (Binds dig h (suc i) o)
  unfolding opening_auth opening_texts
  opening-binds h i o texts-are sizes within few small e =
      let texts : List (List ℕ) = history_texts dig h ++ opening_texts dig (suc i) o in
      let labels : List (List ℕ) = map dig (link_texts_at dig h (auths dig h i) (suc i)) in
      and_then dig texts _ _
      (same_text dig texts texts-are (auth_text dig h (auths dig h i) (suc i)) (opening_auth_text dig (suc i) o)
      (Among-left _ (history_texts dig h) _ (has-auth_text dig h i within))
      (Among-right _ (history_texts dig h) _ (inr (inr (inl refl))))
      (sym (auth-suc dig h i) ∙ sym e))
      (λ same_auth.
      let same_labels = authenticator-fields (suc i) labels (dig (opening_link_text dig (suc i) o) ∷ o.others)
      (map-digests dig size are _) ((size _, are _), sizes.others) same_auth in
      let first : dig (first_text h i) ≡ dig (opening_link_text dig (suc i) o) = first_label h i _ _ same_labels in
      and_then dig texts _ _
      (same_text dig texts texts-are (first_text h i) (opening_link_text dig (suc i) o)
      (Among-left _ (history_texts dig h) _ (has-link_text dig h _ i within (first_among h i)))
      (Among-right _ (history_texts dig h) _ (inr (inl refl)))
      first)
      (λ same_link.
      let link = link-fields (suc i) 0 _ _ _ _ (size _ ∙ sym (size _)) same_link in
      and_then dig texts _ _
      (same_text dig texts texts-are (datum_text_at dig h (suc i)) (opening_datum_text dig (suc i) o)
      (Among-left _ (history_texts dig h) _ (has-datum_text dig h i within))
      (Among-right _ (history_texts dig h) _ (inl refl))
      link.0)
      (λ same_datum.
      let datum = same_fields h i o sizes few small same_datum in
      inl (record {
        event_root = datum.event_root;
        archive_root = datum.archive_root;
        count = datum.count;
        time = datum.time;
        prev = before_is h i _ link.1;
      }))))

  -- the same at a step that has an opening, of a sound history
  pub opening-binds_sound : (h : History) (step : ℕ) (o : Opening) → HasOpeningSizes o → IsOpeningAt step o → IsSound h
      → step ≤ length h.steps
      → opening_auth dig step o ≡ auth dig h step
      → OrClash dig (history_texts dig h ++ opening_texts dig step o) (Binds dig h step o)
  opening-binds_sound h zero o sizes of sound within e = absurd (omega (arith, of.0))
  opening-binds_sound h (suc i) o sizes of sound within e =
      let small : top_level (suc i) < 40 = (let most = sound.length in top_level-below (suc i) (omega arith)) in
      opening-binds h i o (Each-append AreBytes (history_texts dig h) _ (history_texts-bytes dig size are h sound)
      (opening_texts-bytes (suc i) o sizes (omega (arith, small, of.1)))) sizes within (few_events h i sound)
      (small_time h i sound) e

  pub binds_from : (step : ℕ) (o : Opening) (r : Option (List ℕ)) → MatchOption r (IsOpeningAt step o → ⊥)
      (λ d. IsOpeningAt step o × (d ≡ opening_auth dig step o))
      → IfSome r (λ _. HasOpeningSizes o)
      → IfSome r (λ d. (h : History) → IsSound h → step ≤ length h.steps → d ≡ auth dig h step →
      OrClash dig (history_texts dig h ++ opening_texts dig step o) (Binds dig h step o))
  binds_from step o None answer sizes = tt
  binds_from step o (Some d) answer sizes = λ h sound within e. opening-binds_sound h step o sizes answer.0 sound within
      (sym answer.1 ∙ e)
