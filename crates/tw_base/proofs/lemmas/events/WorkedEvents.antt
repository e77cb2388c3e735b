-- Event trees computed from the definitions: the example of seven events of RFC 6962, section 2.1.3, and values under
-- the weak digest.
use Rattle.std.proofs.Common.{◌≡◌, ℕ, List, [], ◌∷◌, refl}
use Rattle.std.specs.Prelude.{replicate}
use Rattle.tw_base.specs.events.EventTree.{audit_path, event_node_texts, event_root, event_texts, largest_power_below}
use Rattle.tw_base.specs.events.EventTree.{node_texts_within, path_within, power_below, tree_hash}
use Rattle.tw_base.specs.kinds.Texts.{event_leaf_text, event_node_text, no_events_text}
use Rattle.tw_base.specs.events.AuditPath.{path_sides, sides_within}
use Rattle.tw_base.specs.declared.events.side.Side.TheVariants.{Left, Right}
use Rattle.tw_base.specs.kinds.Weak.{weak}

module _ (dig : List ℕ → List ℕ) where
  abbrev pub leaf : List ℕ → List ℕ
  leaf event = dig (event_leaf_text event)

  abbrev pub node : List ℕ → List ℕ → List ℕ
  node left right = dig (event_node_text left right)

  pub root_of_three : (d0 d1 d2 : List ℕ) → event_root dig (d0 ∷ d1 ∷ d2 ∷ []) ≡ node (node (leaf d0) (leaf d1))
      (leaf d2)
  unfolding event_root tree_hash largest_power_below power_below
  root_of_three d0 d1 d2 = refl

  -- the events d0 to d6 with the leaves a, b, c, d, e, f and j
  abbrev pub seven : List ℕ → List ℕ → List ℕ → List ℕ → List ℕ → List ℕ → List ℕ → List (List ℕ)
  seven d0 d1 d2 d3 d4 d5 d6 = d0 ∷ d1 ∷ d2 ∷ d3 ∷ d4 ∷ d5 ∷ d6 ∷ []

  module _ (d0 d1 d2 d3 d4 d5 d6 : List ℕ) where
    abbrev pub g : List ℕ
    g = node (leaf d0) (leaf d1)

    abbrev pub h : List ℕ
    h = node (leaf d2) (leaf d3)

    abbrev pub i : List ℕ
    i = node (leaf d4) (leaf d5)

    abbrev pub k : List ℕ
    k = node g h

    abbrev pub l : List ℕ
    l = node i (leaf d6)

    pub root_of_seven : event_root dig (seven d0 d1 d2 d3 d4 d5 d6) ≡ node k l
    unfolding event_root tree_hash largest_power_below power_below
    root_of_seven = refl

    pub path_of_d0 : audit_path dig (seven d0 d1 d2 d3 d4 d5 d6) 0 ≡ leaf d1 ∷ h ∷ l ∷ []
    unfolding audit_path path_within event_root tree_hash largest_power_below power_below
    path_of_d0 = refl

    pub path_of_d3 : audit_path dig (seven d0 d1 d2 d3 d4 d5 d6) 3 ≡ leaf d2 ∷ g ∷ l ∷ []
    unfolding audit_path path_within event_root tree_hash largest_power_below power_below
    path_of_d3 = refl

    pub path_of_d4 : audit_path dig (seven d0 d1 d2 d3 d4 d5 d6) 4 ≡ leaf d5 ∷ leaf d6 ∷ k ∷ []
    unfolding audit_path path_within event_root tree_hash largest_power_below power_below
    path_of_d4 = refl

    pub path_of_d6 : audit_path dig (seven d0 d1 d2 d3 d4 d5 d6) 6 ≡ i ∷ k ∷ []
    unfolding audit_path path_within event_root tree_hash largest_power_below power_below
    path_of_d6 = refl

-- the weak digest of that first byte
abbrev pub weak_value : ℕ → List ℕ
weak_value byte = byte ∷ replicate 31 0

-- the events "hi", "", "a", "bc" and "xyz"
abbrev pub three : List (List ℕ)
three = (0x68 ∷ 0x69 ∷ []) ∷ [] ∷ (0x61 ∷ []) ∷ []

abbrev pub five : List (List ℕ)
five = (0x68 ∷ 0x69 ∷ []) ∷ [] ∷ (0x61 ∷ []) ∷ (0x62 ∷ 0x63 ∷ []) ∷ (0x78 ∷ 0x79 ∷ 0x7a ∷ []) ∷ []

pub weak_root_of_three : event_root weak three ≡ weak_value 0x34
unfolding event_root tree_hash largest_power_below power_below event_leaf_text event_node_text
weak_root_of_three = refl

pub weak_root_of_five : event_root weak five ≡ weak_value 0x66
unfolding event_root tree_hash largest_power_below power_below event_leaf_text event_node_text
weak_root_of_five = refl

pub weak_path_of_five : audit_path weak five 2 ≡ weak_value 0xc5 ∷ weak_value 0xd2 ∷ weak_value 0x6b ∷ []
unfolding audit_path path_within event_root tree_hash largest_power_below power_below event_leaf_text event_node_text
weak_path_of_five = refl

pub weak_path_of_last : audit_path weak five 4 ≡ weak_value 0xfa ∷ []
unfolding audit_path path_within event_root tree_hash largest_power_below power_below event_leaf_text event_node_text
weak_path_of_last = refl

pub sides_of_five : path_sides 5 2 ≡ Right ∷ Left ∷ Right ∷ []
unfolding path_sides sides_within largest_power_below power_below
sides_of_five = refl

-- leaves by index, then nodes in postorder
pub texts_of_three : (dig : List ℕ → List ℕ) (d0 d1 d2 : List ℕ) → event_texts dig (d0 ∷ d1 ∷ d2 ∷ [])
    ≡ event_leaf_text d0 ∷ event_leaf_text d1 ∷ event_leaf_text d2
    ∷ event_node_text (leaf dig d0) (leaf dig d1)
    ∷ event_node_text (node dig (leaf dig d0) (leaf dig d1)) (leaf dig d2)
    ∷ []
unfolding event_texts event_node_texts node_texts_within event_root tree_hash largest_power_below power_below
texts_of_three dig d0 d1 d2 = refl

pub texts_of_none : (dig : List ℕ → List ℕ) → event_texts dig [] ≡ no_events_text ∷ []
unfolding event_texts
texts_of_none dig = refl
