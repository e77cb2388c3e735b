-- The texts that are hashed, one definition each. Numbers are big-endian; a digest stands for its 32 bytes, a name for
-- its 16. The texts of events are those of RFC 6962, section 2.1.
use Rattle.std.specs.Prelude.{ℕ, List, [], ◌∷◌, ◌++◌, length, Option, Some, None, flat_map}
use Rattle.std.specs.Int.{w32, w64, to_be_bytes}

abbrev pub joined : List (List ℕ) → List ℕ
joined = flat_map (λ part. part)

-- behind the authenticator of step 0
unfoldable pub genesis_text : (name : List ℕ) → List ℕ
genesis_text name = 0x10 ∷ name

-- behind the label of a step's link at a level; below is the authenticator of the step that it leads to
unfoldable pub link_text : (step level : ℕ) (datum below : List ℕ) → List ℕ
link_text step level datum below = 0x11 ∷ (to_be_bytes w64 step ++ level ∷ (datum ++ below))

-- behind the authenticator of a step, over the labels of its links from level 0 on
unfoldable pub authenticator_text : (step : ℕ) (labels : List (List ℕ)) → List ℕ
authenticator_text step labels = 0x12 ∷ (to_be_bytes w64 step ++ length labels ∷ joined labels)

-- behind the datum of a step without a time: all that the step itself holds
unfoldable pub datum_text : (event_root archive_root : List ℕ) (count : ℕ) → List ℕ
datum_text event_root archive_root count = 0x13 ∷ (event_root ++ (archive_root ++ to_be_bytes w32 count))

-- behind the datum of a step with a time, in seconds, that its maker claims
unfoldable pub timed_datum_text : (event_root archive_root : List ℕ) (count time : ℕ) → List ℕ
timed_datum_text event_root archive_root count time =
    0x16 ∷ (event_root ++ (archive_root ++ (to_be_bytes w32 count ++ to_be_bytes w64 time)))

-- behind the datum of a step, which has a time or none
abbrev pub step_datum_text : (event_root archive_root : List ℕ) (count : ℕ) (time : Option ℕ) → List ℕ
step_datum_text event_root archive_root count None = datum_text event_root archive_root count
step_datum_text event_root archive_root count (Some time) = timed_datum_text event_root archive_root count time

unfoldable pub empty_tree_text : List ℕ
empty_tree_text = 0x14 ∷ []

-- behind the label of a tree that is not empty: the labels of its sides and its entry
unfoldable pub tree_node_text : (left name : List ℕ) (step : ℕ) (auth : List ℕ) (archived : ℕ) (right : List ℕ) → List ℕ
tree_node_text left name step auth archived right =
    0x15 ∷ (left ++ (name ++ (to_be_bytes w64 step ++ (auth ++ (to_be_bytes w64 archived ++ right)))))

unfoldable pub event_leaf_text : (event : List ℕ) → List ℕ
event_leaf_text event = 0x00 ∷ event

unfoldable pub event_node_text : (left right : List ℕ) → List ℕ
event_node_text left right = 0x01 ∷ (left ++ right)

unfoldable pub no_events_text : List ℕ
no_events_text = []
