-- The texts of a list of events, by its halves and by its leaves.
use Rattle.std.proofs.Common.{◌≡◌, ℕ, suc, zero, ◌+◌, ◌<◌, List, [], ◌∷◌, ◌++◌, length, get_or, take, drop, refl, ap}
use Rattle.std.proofs.Common.{sym, ◌∙◌, append_assoc, arith}
use Rattle.std.specs.Prelude.{map}
use Rattle.std.proofs.lemmas.List.{drop-map, length-map, map_push, take-map, take_more}
use Rattle.tw_base.specs.events.EventTree.{event_leaf_texts, event_node_texts, event_root, event_texts}
use Rattle.tw_base.specs.events.EventTree.{largest_power_below, left_half, right_half}
use Rattle.tw_base.specs.kinds.Texts.{event_leaf_text, event_node_text, no_events_text}
use Rattle.tw_base.proofs.lemmas.events.EventTrees.{event_node_texts-few, event_node_texts-more, event_root-more}
use Rattle.tw_base.proofs.lemmas.events.EventTrees.{event_root-none, event_root-one}
use Rattle.tw_events.specs.EventLeaves.{leaf_labels}

pub leaf_texts-push : (events : List (List ℕ)) (event : List ℕ) → event_leaf_texts (events ++ event ∷ [])
    ≡ event_leaf_texts events ++ event_leaf_text event ∷ []
leaf_texts-push [] event = refl
leaf_texts-push (e ∷ es) event = ap (λ ts. event_leaf_text e ∷ ts) (leaf_texts-push es event)

pub leaf_texts-more : (events : List (List ℕ)) (i : ℕ) (d : List ℕ) → i < length events
    → event_leaf_texts (take (i + 1) events) ≡ event_leaf_texts (take i events) ++ event_leaf_text (get_or events i d)
    ∷ []
leaf_texts-more events i d inside = ap event_leaf_texts (take_more events i d inside) ∙ leaf_texts-push (take i events)
    (get_or events i d)

length-leaf_texts : (events : List (List ℕ)) → length (event_leaf_texts events) ≡ length events
length-leaf_texts [] = refl
length-leaf_texts (e ∷ es) = ap suc (length-leaf_texts es)

take-leaf_texts : (n : ℕ) (events : List (List ℕ)) → take n (event_leaf_texts events) ≡ event_leaf_texts (take n events)
take-leaf_texts zero events = refl
take-leaf_texts (suc n) [] = refl
take-leaf_texts (suc n) (e ∷ es) = ap (λ ts. event_leaf_text e ∷ ts) (take-leaf_texts n es)

drop-leaf_texts : (n : ℕ) (events : List (List ℕ)) → drop n (event_leaf_texts events) ≡ event_leaf_texts (drop n events)
drop-leaf_texts zero events = refl
drop-leaf_texts (suc n) [] = refl
drop-leaf_texts (suc n) (e ∷ es) = drop-leaf_texts n es

module _ (dig : List ℕ → List ℕ) where
  -- the leaves of each half are the halves of the leaves
  pub labels-halved : (events leaves front back : List (List ℕ)) (half : ℕ) → leaves ≡ leaf_labels dig events
      → half ≡ largest_power_below (length leaves)
      → front ≡ take half leaves → back ≡ drop half leaves → (front ≡ leaf_labels dig (left_half events))
      × (back ≡ leaf_labels dig (right_half events))
  labels-halved events leaves front back half is h l r =
      let k : half ≡ largest_power_below (length events) = h ∙ ap largest_power_below (length-labels events leaves is)
      in (
        l ∙ (λ i. take (k i) (is i)) ∙ take-map dig (largest_power_below (length events)) (event_leaf_texts events)
            ∙ ap (map dig) (take-leaf_texts (largest_power_below (length events)) events),
        r ∙ (λ i. drop (k i) (is i)) ∙ drop-map dig (largest_power_below (length events)) (event_leaf_texts events)
            ∙ ap (map dig) (drop-leaf_texts (largest_power_below (length events)) events),
      )
    where
      length-labels : (events leaves : List (List ℕ)) → leaves ≡ leaf_labels dig events → length leaves ≡ length events
      length-labels events leaves is = ap length is ∙ length-map (event_leaf_texts events) dig ∙ length-leaf_texts
          events

  -- the labels of the leaves of the first events, and one more
  pub labels-step : (events labels new : List (List ℕ)) (i : ℕ) (d event label : List ℕ) → i < length events
      → event ≡ get_or events i d → label ≡ dig (event_leaf_text event)
      → labels ≡ leaf_labels dig (take i events) → new ≡ labels ++ label ∷ [] → new ≡ leaf_labels dig
      (take (i + 1) events)
  labels-step events labels new i d event label inside is label_is so_far pushed =
      pushed ∙ (λ k. so_far k ++ (label_is ∙ ap (λ e. dig (event_leaf_text e)) is) k ∷ [])
      ∙ sym (map_push dig (event_leaf_texts (take i events)) (event_leaf_text (get_or events i d))) ∙ ap (map dig)
      (sym (leaf_texts-more events i d inside))

  pub length-labels : (events leaves : List (List ℕ)) → leaves ≡ leaf_labels dig events → length leaves ≡ length events
  length-labels events leaves is = ap length is ∙ length-map (event_leaf_texts events) dig ∙ length-leaf_texts events

  -- a single leaf
  pub root-leaf : (events leaves : List (List ℕ)) (leaf : List ℕ) → length leaves ≡ 1 → leaves ≡ leaf_labels dig events
      → leaf ≡ get_or leaves 0 leaf → leaf ≡ event_root dig events
  root-leaf [] leaves leaf one is same = absurd (let none : length leaves ≡ 0 = ap length is in
      omega (arith, one, none))
  root-leaf (e ∷ []) leaves leaf one is same = same ∙ ap (λ ls. get_or ls 0 leaf) is ∙ sym (event_root-one dig e)
  root-leaf (e ∷ f ∷ es) leaves leaf one is same = absurd (let n = length-labels (e ∷ f ∷ es) leaves is in
      omega (arith, one, n))

  pub no_nodes : (events leaves : List (List ℕ)) → length leaves ≡ 1 → leaves ≡ leaf_labels dig events
      → event_node_texts dig events ≡ []
  no_nodes events leaves one is = event_node_texts-few dig events (let n = length-labels events leaves is in
      omega (arith, one, n))

  -- more leaves
  pub root-labels : (events leaves : List (List ℕ)) (a b root : List ℕ) → 1 < length leaves → leaves ≡ leaf_labels dig
      events
      → a ≡ event_root dig (left_half events) → b ≡ event_root dig (right_half events)
      → root ≡ dig (event_node_text a b) → root ≡ event_root dig events
  root-labels events leaves a b root more is p q e =
      e ∙ (λ k. dig (event_node_text (p k) (q k)))
      ∙ sym (event_root-more dig events (let n = length-labels events leaves is in omega (arith, more, n)))

  -- the texts of the nodes of the halves, and the root's
  pub nodes-joined : (events leaves : List (List ℕ)) (a b : List ℕ) → 1 < length leaves → leaves ≡ leaf_labels dig
      events
      → a ≡ event_root dig (left_half events) → b ≡ event_root dig (right_half events)
      → (event_node_texts dig (left_half events) ++ event_node_texts dig (right_half events)) ++ event_node_text a b
      ∷ [] ≡ event_node_texts dig events
  nodes-joined events leaves a b more is p q =
      append_assoc (event_node_texts dig (left_half events)) (event_node_texts dig (right_half events))
      (event_node_text a b ∷ [])
      ∙ ap (λ t. event_node_texts dig (left_half events) ++ (event_node_texts dig (right_half events) ++ t ∷ []))
      (λ k. event_node_text (p k) (q k))
      ∙ sym (event_node_texts-more dig events (let n = length-labels events leaves is in omega (arith, more, n)))

  -- no event, and one
  pub texts-none : (events : List (List ℕ)) → length events < 1 → no_events_text ∷ [] ≡ event_texts dig events
  unfolding event_texts
  texts-none [] none = refl
  texts-none (e ∷ es) none = absurd (omega arith)

  pub no_event_texts : no_events_text ∷ [] ≡ event_texts dig []
  unfolding event_texts
  no_event_texts = refl

  pub texts-one : (events : List (List ℕ)) (event : List ℕ) → length events ≡ 1 → event ≡ get_or events 0 event
      → event_leaf_text event ∷ [] ≡ event_texts dig events
  unfolding event_texts
  texts-one [] event one same = absurd (omega arith)
  texts-one (e ∷ []) event one same =
      ap (λ x. event_leaf_text x ∷ []) same ∙ ap (λ ts. event_leaf_text e ∷ ts)
      (sym (event_node_texts-few dig (e ∷ []) (omega arith)))
  texts-one (e ∷ f ∷ es) event one same = absurd (omega arith)

-- what stands at a place of the list is the same whatever the default
pub same_default : (events : List (List ℕ)) (d e : List ℕ) → 0 < length events → get_or events 0 d ≡ get_or events 0 e
same_default [] d e some = absurd (omega arith)
same_default (x ∷ xs) d e some = refl
