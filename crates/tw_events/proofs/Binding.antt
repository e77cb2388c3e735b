-- A right root means the right event.
use Rattle.std.proofs.Common.{◌≡◌, ℕ, suc, zero, ◌+◌, ◌-◌, ◌<◌, ◌≤◌, List, [], ◌∷◌, ◌++◌, length, get_or, refl, ap, sym}
use Rattle.std.proofs.Common.{◌∙◌, subst, arith, inl, inr}
use Rattle.std.specs.Prelude.{Some, slice_get}
use Rattle.std.proofs.lemmas.Bool.{cases_lt}
use Rattle.std.proofs.lemmas.Option.{slice_get-get_or}
use Rattle.std.proofs.lemmas.List.{get_or-take, get_or-drop}
use Rattle.tw_base.specs.declared.events.side.Side.{Side}
use Rattle.tw_base.specs.declared.events.side.Side.TheVariants.{Left, Right}
use Rattle.tw_base.specs.kinds.Texts.{event_leaf_text, event_node_text}
use Rattle.tw_base.specs.kinds.Bytes.{AreBytes, HasBytes}
use Rattle.tw_base.specs.kinds.Digests.{AllDigests}
use Rattle.tw_base.specs.kinds.Lists.{Each}
use Rattle.tw_base.specs.kinds.Clash.{Among, OrClash, Within}
use Rattle.tw_base.specs.events.AuditPath.{ChecksEvent, audit_texts, node_text_beside, node_texts_above, path_length}
use Rattle.tw_base.specs.events.AuditPath.{path_sides, root_above}
use Rattle.tw_base.specs.events.EventTree.{event_root, event_texts, largest_power_below, left_half, right_half}
use Rattle.tw_base.proofs.lemmas.kinds.Clashes.{Among-left, Among-right, and_then, same_text}
use Rattle.tw_base.proofs.lemmas.kinds.ListLemmas.{Each-append, Each-map}
use Rattle.tw_base.proofs.lemmas.kinds.TextFields.{leaf-fields, node-fields}
use Rattle.tw_base.proofs.lemmas.history.TextBytes.{audit_texts-bytes, event_texts-bytes}
use Rattle.tw_base.proofs.lemmas.events.EventTrees.{by_halves, event_root-more, event_root-one, event_texts-leaf}
use Rattle.tw_base.proofs.lemmas.events.EventTrees.{event_texts-left, event_texts-right, event_texts-top}
use Rattle.tw_base.proofs.lemmas.events.EventTrees.{largest_power_below-less, length-event_root, length-left_half}
use Rattle.tw_base.proofs.lemmas.events.EventTrees.{length-right_half}
use Rattle.tw_base.proofs.lemmas.events.AuditPaths.{path_length-left, path_length-right, path_sides-few}
use Rattle.tw_base.proofs.lemmas.events.AuditPaths.{path_sides-left, path_sides-right}
use Rattle.tw_base.proofs.lemmas.events.Upwards.{AllDigests-front, HasLast, has_last, length-root_above}
use Rattle.tw_base.proofs.lemmas.events.Upwards.{node_texts_above-last, root_above-last, root_above-none}

first_of_one : (e : List ℕ) (index : ℕ) → index < 1 → get_or (e ∷ []) index [] ≡ e
first_of_one e zero h = refl
first_of_one e (suc index) h = absurd (omega arith)

-- the length of the sides, where the path has the length of its count and index
length-sides : (count index : ℕ) (front : List (List ℕ)) (n : ℕ) → length front ≡ n → path_length count index ≡ n
    → length (path_sides count index) ≡ length front
unfolding path_length
length-sides count index front n e f = f ∙ sym e

module _ (dig : List ℕ → List ℕ) (size : (text : List ℕ) → length (dig text) ≡ 32) (texts : List (List ℕ))
    (are : Each AreBytes texts) (event : List ℕ) (has_leaf : Among (event_leaf_text event) texts) where
  Binds : ℕ → Type 0
  Binds n = (events : List (List ℕ)) (index : ℕ) (path : List (List ℕ)) → length events ≡ n → index < n
      → AllDigests path → length path ≡ path_length n index
      → root_above dig (path_sides n index) path (dig (event_leaf_text event)) ≡ event_root dig events
      → Within (event_texts dig events) texts
      → Within (node_texts_above dig (path_sides n index) path (dig (event_leaf_text event))) texts
      → OrClash dig texts (get_or events index [] ≡ event)

  one : (events : List (List ℕ)) (index : ℕ) → length events ≡ 1 → index < 1 → dig (event_leaf_text event) ≡ event_root
      dig events
      → Within (event_texts dig events) texts → OrClash dig texts (get_or events index [] ≡ event)
  one [] index n inside e theirs = absurd (omega arith)
  one (d ∷ f ∷ ds) index n inside e theirs = absurd (omega arith)
  one (d ∷ []) index n inside e theirs =
      and_then dig texts _ _
      (same_text dig texts are (event_leaf_text d) (event_leaf_text event) (theirs _ (event_texts-leaf dig d)) has_leaf
      (sym (e ∙ event_root-one dig d)))
      (λ same. inl (first_of_one d index inside ∙ leaf-fields _ _ same))

  few : (n : ℕ) → n ≤ 1 → Binds n
  unfolding Binds
  few n h events index path e inside sizes shape reaches theirs ours =
      one events index (omega arith) (omega arith)
      (sym (ap (λ s. root_above dig s path (dig (event_leaf_text event))) (path_sides-few n index h) ∙ root_above-none
      dig path (dig (event_leaf_text event))) ∙ reaches)
      theirs

  -- at a node, the path's top label and what lies below it give one text, and the list's halves the other
  module _ (events : List (List ℕ)) (more : 1 < length events) (front : List (List ℕ)) (last : List ℕ)
      (sides : List Side) (fits : length sides ≡ length front) where
    below : List ℕ
    below = root_above dig sides front (dig (event_leaf_text event))

    abbrev Top : Side → Type 0
    Top side = node_text_beside side last below ≡ event_node_text (event_root dig (left_half events))
        (event_root dig (right_half events))

    top : (side : Side) → root_above dig (sides ++ side ∷ []) (front ++ last ∷ []) (dig (event_leaf_text event))
        ≡ event_root dig events
        → Within (event_texts dig events) texts
        → Within (node_texts_above dig (sides ++ side ∷ []) (front ++ last ∷ []) (dig (event_leaf_text event))) texts
        → OrClash dig texts (Top side)
    unfolding below
    top side reaches theirs ours =
        same_text dig texts are (node_text_beside side last below) (event_node_text (event_root dig (left_half events))
        (event_root dig (right_half events)))
        (ours _ (subst (Among (node_text_beside side last below))
        (sym (node_texts_above-last dig sides side front last (dig (event_leaf_text event)) fits))
        (Among-right _ (node_texts_above dig sides front (dig (event_leaf_text event))) _ (inl refl))))
        (theirs _ (event_texts-top dig events more))
        (sym (root_above-last dig sides side front last (dig (event_leaf_text event)) fits) ∙ reaches ∙ event_root-more
        dig events more)

    lower : (side : Side) → Within (node_texts_above dig (sides ++ side ∷ []) (front ++ last ∷ [])
        (dig (event_leaf_text event))) texts
        → Within (node_texts_above dig sides front (dig (event_leaf_text event))) texts
    lower side ours text a =
        ours text
        (subst (Among text) (sym (node_texts_above-last dig sides side front last (dig (event_leaf_text event)) fits))
        (Among-left text (node_texts_above dig sides front (dig (event_leaf_text event))) _ a))

    length-below : length below ≡ 32
    unfolding below
    length-below = length-root_above dig size sides front (dig (event_leaf_text event)) (size _)

  many : (n : ℕ) → 1 < n → Binds (largest_power_below n) → Binds (n - largest_power_below n) → Binds n
  unfolding Binds below
  many n more left right events index path e inside sizes shape reaches theirs ours =
      let more' : 1 < length events = omega arith in
      let leaf : List ℕ = dig (event_leaf_text event) in
      let k_less = largest_power_below-less n more in
      let same : largest_power_below (length events) ≡ largest_power_below n = ap largest_power_below e in
      let rest : length (right_half events) ≡ n - largest_power_below n =
      length-right_half events ∙ ap (λ x. x - largest_power_below (length events)) e ∙ ap (λ x. n - x) same in
      elim (cases_lt index (largest_power_below n)) [
        | inl less ↦ (
            let long : length path ≡ suc (path_length (largest_power_below n) index) = shape ∙ path_length-left n index
            more less in
            let parts : HasLast path (path_length (largest_power_below n) index) = has_last path _ long in
            let sides : List Side = path_sides (largest_power_below n) index in
            let fits : length sides ≡ length parts.front = length-sides (largest_power_below n) index parts.front _
            parts.size refl in
            let way : path_sides n index ≡ sides ++ Right ∷ [] = path_sides-left n index more less in
            let small = AllDigests-front parts.front parts.last (subst AllDigests parts.whole sizes) in
            let mine : Within (node_texts_above dig (sides ++ Right ∷ []) (parts.front ++ parts.last ∷ []) leaf) texts =
            subst (λ p. Within (node_texts_above dig (sides ++ Right ∷ []) p leaf) texts) parts.whole
            (subst (λ s. Within (node_texts_above dig s path leaf) texts) way ours) in
            and_then dig texts _ _
            (top events more' parts.front parts.last sides fits Right
            (sym (ap (λ s. root_above dig s path leaf) way ∙ ap (λ p. root_above dig (sides ++ Right ∷ []) p leaf)
            parts.whole) ∙ reaches) theirs mine)
            (λ one_text.
            let halves = node-fields _ _ _ _ (length-below events more' parts.front parts.last sides fits
            ∙ sym (length-event_root dig size (left_half events))) one_text in
            and_then dig texts _ _
            (left (left_half events) index parts.front (length-left_half events more' ∙ same) less small.0 parts.size
            halves.0
            (λ text a. theirs text (event_texts-left dig events more' text a))
            (lower events more' parts.front parts.last sides fits Right mine))
            (λ stands. inl (sym (get_or-take (largest_power_below (length events)) events index [] (omega arith))
            ∙ stands))))
        | inr past ↦ (
            let long : length path ≡ suc (path_length (n - largest_power_below n) (index - largest_power_below n)) =
            shape ∙ path_length-right n index more past in
            let parts : HasLast path (path_length (n - largest_power_below n) (index - largest_power_below n)) =
            has_last path _ long in
            let sides : List Side = path_sides (n - largest_power_below n) (index - largest_power_below n) in
            let fits : length sides ≡ length parts.front = length-sides (n - largest_power_below n)
            (index - largest_power_below n) parts.front _ parts.size refl in
            let way : path_sides n index ≡ sides ++ Left ∷ [] = path_sides-right n index more past in
            let small = AllDigests-front parts.front parts.last (subst AllDigests parts.whole sizes) in
            let mine : Within (node_texts_above dig (sides ++ Left ∷ []) (parts.front ++ parts.last ∷ []) leaf) texts =
            subst (λ p. Within (node_texts_above dig (sides ++ Left ∷ []) p leaf) texts) parts.whole
            (subst (λ s. Within (node_texts_above dig s path leaf) texts) way ours) in
            let at : largest_power_below (length events) + (index - largest_power_below n) ≡ index = omega arith in
            and_then dig texts _ _
            (top events more' parts.front parts.last sides fits Left
            (sym (ap (λ s. root_above dig s path leaf) way ∙ ap (λ p. root_above dig (sides ++ Left ∷ []) p leaf)
            parts.whole) ∙ reaches) theirs mine)
            (λ one_text.
            let halves = node-fields _ _ _ _ (small.1.0 ∙ sym (length-event_root dig size (left_half events)))
            one_text in
            and_then dig texts _ _
            (right (right_half events) (index - largest_power_below n) parts.front rest (omega arith) small.0 parts.size
            halves.1
            (λ text a. theirs text (event_texts-right dig events more' text a))
            (lower events more' parts.front parts.last sides fits Left mine))
            (λ stands. inl (ap (λ i. get_or events i []) (sym at)
            ∙ sym (get_or-drop (largest_power_below (length events)) events (index - largest_power_below n) [])
            ∙ stands))))
      ]

  pub path-binds : (n : ℕ) (events : List (List ℕ)) (index : ℕ) (path : List (List ℕ)) → length events ≡ n → index < n
      → AllDigests path
      → length path ≡ path_length n index
      → root_above dig (path_sides n index) path (dig (event_leaf_text event)) ≡ event_root dig events
      → Within (event_texts dig events) texts
      → Within (node_texts_above dig (path_sides n index) path (dig (event_leaf_text event))) texts
      → OrClash dig texts (get_or events index [] ≡ event)
  unfolding Binds
  path-binds n = by_halves Binds few many n

-- where a path shows the event, each list of so many events with that root has it at the index, or the texts clash
pub ChecksEvent-binds : (dig : List ℕ → List ℕ) (size : (text : List ℕ) → length (dig text) ≡ 32) (are : (text : List ℕ)
    → AreBytes (dig text))
    (root : List ℕ) (count index : ℕ) (event : List ℕ) (path : List (List ℕ)) → AreBytes event → AllDigests path
    → ChecksEvent dig root count index event path
    → (events : List (List ℕ)) → Each AreBytes events → length events ≡ count → event_root dig events ≡ root
    → OrClash dig (event_texts dig events ++ audit_texts dig count index event path)
    (slice_get events index ≡ Some event)
unfolding audit_texts
ChecksEvent-binds dig size are root count index event path is sizes checks events all n e =
    let inside : index < count = checks.inside in
    let texts-are : Each AreBytes (event_texts dig events ++ audit_texts dig count index event path) =
    Each-append AreBytes (event_texts dig events) (audit_texts dig count index event path)
    (event_texts-bytes dig size are events all)
    (audit_texts-bytes dig size are count index event path is (Each-map (HasBytes 32) AreBytes path (λ label has. has.1)
    sizes)) in
    and_then dig (event_texts dig events ++ audit_texts dig count index event path) _ _
    (path-binds dig size (event_texts dig events ++ audit_texts dig count index event path) texts-are event
    (Among-right _ (event_texts dig events) _ (inl refl))
    count events index path n inside sizes checks.size (checks.reaches ∙ sym e)
    (λ text a. Among-left text (event_texts dig events) _ a)
    (λ text a. Among-right text (event_texts dig events) _ (inr a)))
    (λ stands. inl (slice_get-get_or events index [] (omega arith) ∙ ap Some stands))
