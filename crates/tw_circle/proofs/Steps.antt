-- Of a history, the text behind a step's authenticator leads to that of each earlier step, and to that of the step whose thread it
-- received.
use Rattle.std.proofs.Common.{◌≡◌, ℕ, suc, zero, ◌-◌, ◌<◌, ◌≤◌, ◌^◌, List, [], ◌∷◌, ◌++◌, length, get_or, ap, refl, sym, ◌∙◌}
use Rattle.std.proofs.Common.{arith, inl, inr, subst}
use Rattle.std.specs.Prelude.{Option, Some, None, map}
use Rattle.std.specs.Int.{w32, w64, to_be_bytes}
use Rattle.std.proofs.lemmas.Bool.{cases_lt}
use Rattle.std.proofs.lemmas.List.{length-map}
use Rattle.tw_base.specs.declared.history.thread.Entry.{Entry}
use Rattle.tw_base.specs.kinds.Clash.{Among, Within}
use Rattle.tw_base.specs.kinds.Lists.{In}
use Rattle.tw_base.specs.kinds.Levels.{top_level}
use Rattle.tw_base.specs.kinds.Texts.{authenticator_text, datum_text, genesis_text, joined, link_text, step_datum_text, timed_datum_text}
use Rattle.tw_base.specs.kinds.Texts.{tree_node_text}
use Rattle.tw_base.specs.events.EventTree.{event_root}
use Rattle.tw_base.specs.history.Auth.{auth, auth_text, auths, datum_text_at, link_texts_at, tree_label}
use Rattle.tw_base.specs.history.Entries.{entry_text}
use Rattle.tw_base.specs.history.History.{History, entry_at, events_at, time_at}
use Rattle.tw_base.specs.history.HistoryTexts.{history_texts, tree_texts}
use Rattle.tw_base.specs.history.Sound.{IsSound}
use Rattle.tw_base.specs.history.Tree.{Tree, entries, tree}
use Rattle.tw_base.specs.history.Tree.Tree.{Empty, Branch}
use Rattle.tw_base.proofs.lemmas.history.Archives.{tree-has}
use Rattle.tw_base.proofs.lemmas.history.ArchiveTexts.{tree_texts-within}
use Rattle.tw_base.proofs.lemmas.history.Auths.{auth-suc, auths-at, has-auth_text, has-datum_text, has-link_text, label-at}
use Rattle.tw_base.proofs.lemmas.history.Auths.{length-link_texts, link_texts-has, text_at}
use Rattle.tw_base.proofs.lemmas.kinds.Clashes.{Among-left, Among-right}
use Rattle.tw_base.proofs.lemmas.kinds.ListLemmas.{In-cases_append}
use Rattle.tw_circle.specs.Rings.{Holds}
use Rattle.tw_circle.proofs.Descending.{IsOrDescends, Descends, StandsOver, held-behind, held-front, held-self, descends-next}
use Rattle.tw_circle.proofs.Descending.{descends-over, descends-then, stands-over}

-- ---- what the hashed texts hold

-- the joined labels hold the first
first-held : (labels : List (List ℕ)) → 0 < length labels → Holds (joined labels) (get_or labels 0 [])
first-held [] some = absurd (omega (arith, some))
first-held (label ∷ labels) some = held-front label (joined labels) label (held-self label)

auth-holds : (step : ℕ) (labels : List (List ℕ)) → 0 < length labels
    → Holds (authenticator_text step labels) (get_or labels 0 [])
unfolding authenticator_text
auth-holds step labels some = held-behind (0x12 ∷ to_be_bytes w64 step) (length labels ∷ joined labels) _
    (held-behind (length labels ∷ []) (joined labels) _ (first-held labels some))

link-holds_below : (step level : ℕ) (datum below : List ℕ) → Holds (link_text step level datum below) below
unfolding link_text
link-holds_below step level datum below = held-behind (0x11 ∷ to_be_bytes w64 step) (level ∷ (datum ++ below)) below
    (held-behind (level ∷ datum) below below (held-self below))

link-holds_datum : (step level : ℕ) (datum below : List ℕ) → Holds (link_text step level datum below) datum
unfolding link_text
link-holds_datum step level datum below = held-behind (0x11 ∷ to_be_bytes w64 step) (level ∷ (datum ++ below)) datum
    (held-behind (level ∷ []) (datum ++ below) datum (held-front datum below datum (held-self datum)))

datum-holds : (root archive : List ℕ) (count : ℕ) (time : Option ℕ) → Holds (step_datum_text root archive count time) archive
unfolding datum_text timed_datum_text
datum-holds root archive count None = held-behind (0x13 ∷ root) (archive ++ to_be_bytes w32 count) archive
    (held-front archive (to_be_bytes w32 count) archive (held-self archive))
datum-holds root archive count (Some time) =
    held-behind (0x16 ∷ root) (archive ++ (to_be_bytes w32 count ++ to_be_bytes w64 time)) archive
    (held-front archive (to_be_bytes w32 count ++ to_be_bytes w64 time) archive (held-self archive))

module _ (left : List ℕ) (e : Entry) (right : List ℕ) where
  node-holds_left : Holds (entry_text left e right) left
  unfolding tree_node_text
  node-holds_left = held-behind (0x15 ∷ []) _ left (held-front left _ left (held-self left))

  node-holds_auth : Holds (entry_text left e right) e.thread.auth
  unfolding tree_node_text
  node-holds_auth = held-behind (0x15 ∷ left) _ _ (held-behind e.thread.from _ _ (held-behind
      (to_be_bytes w64 e.thread.step) _ _ (held-front e.thread.auth _ _ (held-self e.thread.auth))))

  node-holds_right : Holds (entry_text left e right) right
  unfolding tree_node_text
  node-holds_right = held-behind (0x15 ∷ left) _ _ (held-behind e.thread.from _ _ (held-behind
      (to_be_bytes w64 e.thread.step) _ _ (held-behind e.thread.auth _ _ (held-behind (to_be_bytes w64 e.archived) _ _
      (held-self right)))))

-- ---- how texts lead to one another

module _ (dig : List ℕ → List ℕ) (texts : List (List ℕ)) (goal : List ℕ) where
  -- the label of a tree that has an entry stands over the text whose digest the entry has
  tree-over : (t : Tree) (e : Entry) → In e (entries t) → e.thread.auth ≡ dig goal → Within (tree_texts dig t) texts
      → StandsOver dig texts (tree_label dig t) goal
  unfolding tree_label tree_texts
  tree-over Empty e has is own = absurd has
  tree-over (Branch left f right) e has is own =
      let text : List ℕ = entry_text (tree_label dig left) f (tree_label dig right) in
      let here : Among text texts =
      own text (Among-right text (tree_texts dig left) _ (Among-right text (tree_texts dig right) _ (inl refl))) in
      elim (In-cases_append e (entries left) (f ∷ entries right) has) [
        | inl lower ↦ stands-over dig texts text (tree_label dig left) goal here
            (node-holds_left (tree_label dig left) f (tree_label dig right))
            (tree-over left e lower is (λ at a. own at (Among-left at (tree_texts dig left) _ a)))
        | inr (inl same) ↦ record {
          top = text;
          is = refl;
          leads = descends-next dig texts text goal here (subst (Holds text) (ap (λ (x : Entry). x.thread.auth) (sym same)
              ∙ is) (node-holds_auth (tree_label dig left) f (tree_label dig right)));
        }
        | inr (inr upper) ↦ stands-over dig texts text (tree_label dig right) goal here
            (node-holds_right (tree_label dig left) f (tree_label dig right))
            (tree-over right e upper is (λ at a. own at (Among-right at (tree_texts dig left) _
            (Among-left at (tree_texts dig right) _ a))))
      ]

module _ (dig : List ℕ → List ℕ) (h : History) where
  -- the text behind a step's authenticator
  unfoldable pub text_of : ℕ → List ℕ
  text_of zero = genesis_text h.name
  text_of (suc i) = auth_text dig h (auths dig h i) (suc i)

  pub auth-of : (i : ℕ) → auth dig h i ≡ dig (text_of i)
  unfolding auth auths text_of
  auth-of zero = refl
  auth-of (suc i) = auth-suc dig h i

  module _ (texts : List (List ℕ)) (own : Within (history_texts dig h) texts) (i : ℕ) (within : i < length h.steps) where
    abbrev datum : List ℕ
    datum = datum_text_at dig h (suc i)

    abbrev count : ℕ
    count = suc (top_level (suc i))

    -- the text of the link of level 0
    abbrev link : List ℕ
    link = text_at dig (dig datum) (auths dig h i) (suc i) 0

    link-own : Among link texts
    link-own = own link (has-link_text dig h link i within
        (link_texts-has dig (dig datum) (auths dig h i) (suc i) 0 count (omega arith)))

    -- a step's text leads to all to which that of its lowest link leads
    over-link : (goal : List ℕ) → Descends dig texts link goal → Descends dig texts (text_of (suc i)) goal
    unfolding text_of
    over-link goal leads = descends-over dig texts text (dig link) goal (own text (has-auth_text dig h i within))
        (subst (Holds text) (label-at dig (dig datum) (auths dig h i) (suc i) 0 count (omega arith))
        (auth-holds (suc i) (map dig (link_texts_at dig h (auths dig h i) (suc i))) sized))
        (record { top = link; is = refl; leads = leads })
      where
        text : List ℕ
        text = auth_text dig h (auths dig h i) (suc i)

        sized : 0 < length (map dig (link_texts_at dig h (auths dig h i) (suc i)))
        sized = omega (
          arith,
          length-map (link_texts_at dig h (auths dig h i) (suc i)) dig,
          length-link_texts dig (dig datum) (auths dig h i) (suc i) count,
        )

    -- it leads to the text of the step before
    pub step-down : Descends dig texts (text_of (suc i)) (text_of i)
    step-down = over-link (text_of i) (descends-next dig texts link (text_of i) link-own
        (subst (Holds link) below (link-holds_below (suc i) 0 (dig datum) (get_or (auths dig h i) (suc i - 2 ^ 0) []))))
      where
        before : suc i - 2 ^ 0 ≡ i
        before = omega arith

        below : get_or (auths dig h i) (suc i - 2 ^ 0) [] ≡ dig (text_of i)
        below = ap (λ k. get_or (auths dig h i) k []) before ∙ auths-at dig h i i (omega arith) ∙ auth-of i

    -- and to the text behind the authenticator that its received thread has
    pub received-down : IsSound h → (e : Entry) (goal : List ℕ) → entry_at h (suc i) ≡ Some e → e.thread.auth ≡ dig goal
        → Descends dig texts (text_of (suc i)) goal
    unfolding datum_text_at
    received-down sound e goal at is =
        over-link goal (descends-over dig texts link (dig datum) goal link-own
        (link-holds_datum (suc i) 0 (dig datum) (get_or (auths dig h i) (suc i - 2 ^ 0) []))
        (stands-over dig texts datum (tree_label dig (tree h (suc i))) goal (own datum (has-datum_text dig h i within))
        (datum-holds (event_root dig (events_at h (suc i))) (tree_label dig (tree h (suc i))) (length (events_at h (suc i)))
        (time_at h (suc i)))
        (tree-over dig texts goal (tree h (suc i)) e (tree-has h sound (suc i) (suc i) e (omega arith) (omega arith) at) is
        (λ text a. own text (tree_texts-within dig h (suc i) (omega arith) text a)))))

  -- a step's text is that of a step that isn't above it, or leads to it
  pub steps-down : (texts : List (List ℕ)) → Within (history_texts dig h) texts → (lower upper : ℕ) → lower ≤ upper
      → upper ≤ length h.steps → IsOrDescends dig texts (text_of upper) (text_of lower)
  steps-down texts own lower zero order within = inl (ap text_of (let e : zero ≡ lower = omega arith in e))
  steps-down texts own lower (suc i) order within =
      elim (cases_lt i lower) [
        | inl more ↦ inl (ap text_of (let e : suc i ≡ lower = omega arith in e))
        | inr less ↦ inr (descends-then dig texts (text_of (suc i)) (text_of i) (text_of lower)
            (step-down texts own i (omega arith)) (steps-down texts own lower i less (omega arith)))
      ]
