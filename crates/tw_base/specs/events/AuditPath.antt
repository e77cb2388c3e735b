-- Checking an audit path (RFC 6962, section 2.1.1): the count of events and the index fix how many labels it has and
-- on which side each stands; a leaf and these labels give a root.
use Rattle.std.specs.Prelude.{◌≡◌, ℕ, suc, zero, ◌-◌, ◌<◌, List, [], ◌∷◌, ◌++◌, length, nat_le, nat_lt, if◌then◌else◌}
use Rattle.tw_base.specs.kinds.Texts.{event_leaf_text, event_node_text}
use Rattle.tw_base.specs.events.EventTree.{largest_power_below}
use Rattle.tw_base.specs.declared.events.side.Side.{Side}
use Rattle.tw_base.specs.declared.events.side.Side.TheVariants.{Left, Right}

unfoldable pub sides_within : (splits count index : ℕ) → List Side
sides_within zero count index = []
sides_within (suc splits) count index =
    let k : ℕ = largest_power_below count in
    if nat_le count 1 then []
    else if nat_lt index k then sides_within splits k index ++ Right ∷ []
    else sides_within splits (count - k) (index - k) ++ Left ∷ []

-- on which side each label of the path of that index stands, from the leaf upwards
unfoldable pub path_sides : (count index : ℕ) → List Side
path_sides count index = sides_within count count index

-- how many labels that path has
unfoldable pub path_length : (count index : ℕ) → ℕ
path_length count index = length (path_sides count index)

-- the text of the event node over a label of the path, which stands on that side, and the label reached so far
abbrev pub node_text_beside : Side → (label reached : List ℕ) → List ℕ
node_text_beside Left label reached = event_node_text label reached
node_text_beside Right label reached = event_node_text reached label

module _ (dig : List ℕ → List ℕ) where
  -- the root that the labels of a path lead to, upwards from the label reached so far
  unfoldable pub root_above : List Side → (path : List (List ℕ)) → (reached : List ℕ) → List ℕ
  root_above [] path reached = reached
  root_above (side ∷ sides) [] reached = reached
  root_above (side ∷ sides) (label ∷ path) reached = root_above sides path (dig (node_text_beside side label reached))

  -- the texts hashed on that way, in the same order
  unfoldable pub node_texts_above : List Side → (path : List (List ℕ)) → (reached : List ℕ) → List (List ℕ)
  node_texts_above [] path reached = []
  node_texts_above (side ∷ sides) [] reached = []
  node_texts_above (side ∷ sides) (label ∷ path) reached =
      node_text_beside side label reached ∷ node_texts_above sides path (dig (node_text_beside side label reached))

  -- the path shows that the event stands at the index of so many events with that root
  pub record ChecksEvent (root : List ℕ) (count index : ℕ) (event : List ℕ) (path : List (List ℕ)) : Type 0 where
    pub inside : index < count
    pub size : length path ≡ path_length count index
    pub reaches : root_above (path_sides count index) path (dig (event_leaf_text event)) ≡ root

  -- the texts that checking it hashes: the leaf, then the nodes upwards
  unfoldable pub audit_texts : (count index : ℕ) (event : List ℕ) (path : List (List ℕ)) → List (List ℕ)
  audit_texts count index event path =
      event_leaf_text event ∷ node_texts_above (path_sides count index) path (dig (event_leaf_text event))
