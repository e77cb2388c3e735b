-- The Merkle tree of a list of events, in the words of RFC 6962: the tree hash (MTH) of section 2.1 and the audit path
-- (PATH) of section 2.1.1. A recursion takes the number of splits that it may still do, of which a list needs fewer
-- than it has events; the equations of the standard itself are the laws of `src/events/event_tree.rt`.
use Rattle.std.specs.Prelude.{ℕ, suc, zero, ◌-◌, ◌^◌, List, [], ◌∷◌, ◌++◌, length, take, drop, nat_lt, if◌then◌else◌}
use Rattle.tw_base.specs.kinds.Texts.{event_leaf_text, event_node_text, no_events_text}

-- the largest power of two smaller than n, of those up to 2 ^ level
unfoldable pub power_below : (level n : ℕ) → ℕ
power_below zero n = 1
power_below (suc level) n = if nat_lt (2 ^ suc level) n then 2 ^ suc level else power_below level n

-- the standard's k: the largest power of two smaller than n, where n is above 1
unfoldable pub largest_power_below : (n : ℕ) → ℕ
largest_power_below n = power_below n n

-- of n > 1 events the first k, and the others
abbrev pub left_half : List (List ℕ) → List (List ℕ)
left_half events = take (largest_power_below (length events)) events

abbrev pub right_half : List (List ℕ) → List (List ℕ)
right_half events = drop (largest_power_below (length events)) events

module _ (dig : List ℕ → List ℕ) where
  unfoldable pub tree_hash : (splits : ℕ) → List (List ℕ) → List ℕ
  tree_hash splits [] = dig no_events_text
  tree_hash splits (event ∷ []) = dig (event_leaf_text event)
  tree_hash zero (first ∷ second ∷ rest) = []
  tree_hash (suc splits) (first ∷ second ∷ rest) =
      let events : List (List ℕ) = first ∷ second ∷ rest in
      dig (event_node_text (tree_hash splits (left_half events)) (tree_hash splits (right_half events)))

  -- MTH(D[n])
  unfoldable pub event_root : List (List ℕ) → List ℕ
  event_root events = tree_hash (length events) events

  unfoldable pub path_within : (splits : ℕ) → List (List ℕ) → (index : ℕ) → List (List ℕ)
  path_within splits [] index = []
  path_within splits (event ∷ []) index = []
  path_within zero (first ∷ second ∷ rest) index = []
  path_within (suc splits) (first ∷ second ∷ rest) index =
      let events : List (List ℕ) = first ∷ second ∷ rest in
      let k : ℕ = largest_power_below (length events) in
      if nat_lt index k then path_within splits (left_half events) index ++ event_root (right_half events) ∷ []
      else path_within splits (right_half events) (index - k) ++ event_root (left_half events) ∷ []

  -- PATH(m, D[n]): the roots of the other halves, from the leaf upwards
  unfoldable pub audit_path : List (List ℕ) → (index : ℕ) → List (List ℕ)
  audit_path events index = path_within (length events) events index

  unfoldable pub node_texts_within : (splits : ℕ) → List (List ℕ) → List (List ℕ)
  node_texts_within splits [] = []
  node_texts_within splits (event ∷ []) = []
  node_texts_within zero (first ∷ second ∷ rest) = []
  node_texts_within (suc splits) (first ∷ second ∷ rest) =
      let events : List (List ℕ) = first ∷ second ∷ rest in
      node_texts_within splits (left_half events)
      ++ (node_texts_within splits (right_half events) ++ event_node_text (event_root (left_half events)) (event_root (right_half events)) ∷ [])

  -- the texts of the event nodes, in postorder
  unfoldable pub event_node_texts : List (List ℕ) → List (List ℕ)
  event_node_texts events = node_texts_within (length events) events

-- the texts of the leaves, by index
abbrev pub event_leaf_texts : List (List ℕ) → List (List ℕ)
event_leaf_texts [] = []
event_leaf_texts (event ∷ events) = event_leaf_text event ∷ event_leaf_texts events

-- the texts that the root of a list of events hashes
unfoldable pub event_texts : (dig : List ℕ → List ℕ) → List (List ℕ) → List (List ℕ)
event_texts dig [] = no_events_text ∷ []
event_texts dig (event ∷ events) = event_leaf_texts (event ∷ events) ++ event_node_texts dig (event ∷ events)
