-- The authenticators of a history, and where its texts stand.
use Rattle.std.proofs.Common.{◌≡◌, ℕ, suc, zero, ◌-◌, ◌<◌, ◌≤◌, ◌^◌, List, [], ◌∷◌, length, get_or, refl, ap, ◌∙◌}
use Rattle.std.proofs.Common.{arith, inl, inr, subst}
use Rattle.std.specs.Prelude.{map}
use Rattle.std.proofs.lemmas.Bool.{cases_lt}
use Rattle.std.proofs.lemmas.List.{length_push, get_or_push, get_or_append_left, map_push}
use Rattle.tw_base.specs.kinds.Texts.{link_text, empty_tree_text}
use Rattle.tw_base.specs.kinds.Clash.{Among}
use Rattle.tw_base.specs.events.EventTree.{event_texts}
use Rattle.tw_base.specs.history.History.{History, events_at}
use Rattle.tw_base.specs.history.Tree.{new_trees}
use Rattle.tw_base.specs.history.Auth.{auth, auths, auth_text, datum_text_at, link_texts, link_texts_at}
use Rattle.tw_base.specs.history.HistoryTexts.{history_texts, node_texts, step_texts, texts_to}
use Rattle.tw_base.proofs.lemmas.kinds.Clashes.{Among-left, Among-right}

-- the link texts of a step, level by level
module _ (dig : List ℕ → List ℕ) (datum : List ℕ) (earlier : List (List ℕ)) (i : ℕ) where
  -- the text of the link at this level
  abbrev pub text_at : ℕ → List ℕ
  text_at level = link_text i level datum (get_or earlier (i - 2 ^ level) [])

  pub length-link_texts : (count : ℕ) → length (link_texts dig datum earlier i count) ≡ count
  unfolding link_texts
  length-link_texts zero = refl
  length-link_texts (suc level) = length_push (link_texts dig datum earlier i level) (text_at level)
      ∙ omega (arith, length-link_texts level)

  pub link_texts-has : (level count : ℕ) → level < count → Among (text_at level) (link_texts dig datum earlier i count)
  unfolding link_texts
  link_texts-has level zero l = absurd (omega arith)
  link_texts-has level (suc last) l =
      elim (cases_lt level last) [
        | inl less ↦ Among-left (text_at level) (link_texts dig datum earlier i last) _ (link_texts-has level last less)
        | inr more ↦ (
            let e : level ≡ last = omega arith in
            Among-right (text_at level) (link_texts dig datum earlier i last) _ (inl (ap text_at e)))
      ]

  -- the label of that link
  pub label-at : (level count : ℕ) → level < count → get_or (map dig (link_texts dig datum earlier i count)) level []
      ≡ dig (text_at level)
  unfolding link_texts
  label-at level zero l = absurd (omega arith)
  label-at level (suc last) l =
      ap (λ labels. get_or labels level []) (map_push dig (link_texts dig datum earlier i last) (text_at last))
      ∙ elim (cases_lt level last) [
        | inl less ↦ get_or_append_left (map dig (link_texts dig datum earlier i last)) _ [] level
            (omega (arith, sized last)) ∙ label-at level last less
        | inr more ↦ (
            let e : level ≡ last = omega arith in
            get_or_push (map dig (link_texts dig datum earlier i last)) (dig (text_at last)) [] level
            (sized last ∙ (let r : last ≡ level = omega arith in r))
            ∙ ap (λ k. dig (text_at k)) (let r : last ≡ level = omega arith in r))
      ]
    where
      mapped : (xs : List (List ℕ)) → length (map dig xs) ≡ length xs
      mapped [] = refl
      mapped (x ∷ xs) = let rest = mapped xs in omega (arith, rest)

      sized : (count : ℕ) → length (map dig (link_texts dig datum earlier i count)) ≡ count
      sized count = mapped (link_texts dig datum earlier i count) ∙ length-link_texts count

module _ (dig : List ℕ → List ℕ) (h : History) where
  pub length-auths : (n : ℕ) → length (auths dig h n) ≡ suc n
  unfolding auths
  length-auths zero = refl
  length-auths (suc n) = length_push (auths dig h n) (dig (auth_text dig h (auths dig h n) (suc n)))
      ∙ omega (arith, length-auths n)

  -- a step's authenticator is the digest of its text over the earlier ones
  pub auth-suc : (n : ℕ) → auth dig h (suc n) ≡ dig (auth_text dig h (auths dig h n) (suc n))
  unfolding auth auths
  auth-suc n = get_or_push (auths dig h n) _ [] (suc n) (length-auths n)

  -- the table up to n has each authenticator
  pub auths-at : (n i : ℕ) → i ≤ n → get_or (auths dig h n) i [] ≡ auth dig h i
  unfolding auths auth
  auths-at zero i l = let e : i ≡ zero = omega arith in rw e
  auths-at (suc n) i l =
      elim (cases_lt n i) [
        | inl more ↦ (let e : i ≡ suc n = omega arith in rw e)
        | inr less ↦ get_or_append_left (auths dig h n) _ [] i (omega (arith, length-auths n)) ∙ auths-at n i less
      ]

  -- ---- where texts stand

  pub texts_to-has : (text : List ℕ) (i n : ℕ) → i < n → Among text (step_texts dig h i) → Among text (texts_to dig h n)
  unfolding texts_to
  texts_to-has text i zero l p = absurd (omega arith)
  texts_to-has text i (suc n) l p =
      elim (cases_lt i n) [
        | inl less ↦ Among-left text (texts_to dig h n) (step_texts dig h n) (texts_to-has text i n less p)
        | inr more ↦ (
            let e : i ≡ n = omega arith in
            let there = subst (λ k. Among text (step_texts dig h k)) e p in
            Among-right text (texts_to dig h n) (step_texts dig h n) there)
      ]

  -- the texts of step i + 1 are texts of the history
  pub has-step_text : (text : List ℕ) (i : ℕ) → i < length h.steps → Among text (step_texts dig h i)
      → Among text (history_texts dig h)
  unfolding history_texts
  has-step_text text i l p = texts_to-has text i (length h.steps) l p

  pub has-event_text : (text : List ℕ) (i : ℕ) → i < length h.steps → Among text (event_texts dig (events_at h (suc i)))
      → Among text (history_texts dig h)
  unfolding step_texts
  has-event_text text i l p = has-step_text text i l (Among-left text (event_texts dig (events_at h (suc i))) _ p)

  pub has-node_text : (text : List ℕ) (i : ℕ) → i < length h.steps → Among text (node_texts dig (new_trees h i))
      → Among text (history_texts dig h)
  unfolding step_texts
  has-node_text text i l p = has-step_text text i l (
      Among-right text (event_texts dig (events_at h (suc i))) _ (
      Among-left text (node_texts dig (new_trees h i)) _ p))

  pub has-datum_text : (i : ℕ) → i < length h.steps → Among (datum_text_at dig h (suc i)) (history_texts dig h)
  unfolding step_texts
  has-datum_text i l = has-step_text _ i l (
      Among-right _ (event_texts dig (events_at h (suc i))) _ (
      Among-right _ (node_texts dig (new_trees h i)) _ (inl refl)))

  pub has-link_text : (text : List ℕ) (i : ℕ) → i < length h.steps
      → Among text (link_texts_at dig h (auths dig h i) (suc i)) → Among text (history_texts dig h)
  unfolding step_texts
  has-link_text text i l p = has-step_text text i l (
      Among-right text (event_texts dig (events_at h (suc i))) _ (
      Among-right text (node_texts dig (new_trees h i)) _ (
      inr (Among-left text (link_texts_at dig h (auths dig h i) (suc i)) _ p))))

  pub has-auth_text : (i : ℕ) → i < length h.steps → Among (auth_text dig h (auths dig h i) (suc i))
      (history_texts dig h)
  unfolding step_texts
  has-auth_text i l = has-step_text _ i l (
      Among-right _ (event_texts dig (events_at h (suc i))) _ (
      Among-right _ (node_texts dig (new_trees h i)) _ (
      inr (Among-right _ (link_texts_at dig h (auths dig h i) (suc i)) _ (inl refl)))))

  texts_to-has_empty : (n : ℕ) → Among empty_tree_text (texts_to dig h n)
  unfolding texts_to
  texts_to-has_empty zero = inr (inl refl)
  texts_to-has_empty (suc n) = Among-left empty_tree_text (texts_to dig h n) _ (texts_to-has_empty n)

  pub has-empty_text : Among empty_tree_text (history_texts dig h)
  unfolding history_texts
  has-empty_text = texts_to-has_empty (length h.steps)
