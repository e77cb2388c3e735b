-- The way down to an asked place, and the label of the tree computed upwards along it. Ancestors stand nearest first.
use Rattle.std.specs.Prelude.{◌≡◌, Bool, false, not, ℕ, List, [], ◌∷◌, Option, Some, None, if◌then◌else◌}
use Rattle.std.specs.Ordering.{is_eq, is_lt}
use Rattle.tw_base.specs.declared.history.thread.Entry.{Entry}
use Rattle.tw_base.specs.declared.history.tree_proof.Ancestor.{Ancestor}
use Rattle.tw_base.specs.declared.history.tree_proof.Ask.{Ask}
use Rattle.tw_base.specs.declared.history.tree_proof.Ask.TheVariants.{Present, Absent, Below, Above}
use Rattle.tw_base.specs.history.Entries.{entry_text, key_cmp, key_of}

-- the way down goes left at this entry
abbrev pub is_left : Ask → Entry → Bool
is_left (Present asked) e = is_lt (key_cmp (key_of asked) (key_of e))
is_left (Absent key) e = is_lt (key_cmp key (key_of e))
is_left (Below key) e = not (is_lt (key_cmp (key_of e) key))
is_left (Above key) e = is_lt (key_cmp key (key_of e))

-- the entry has the asked key, in a question for one key
abbrev pub has_asked_key : Ask → Entry → Bool
has_asked_key (Present asked) e = is_eq (key_cmp (key_of asked) (key_of e))
has_asked_key (Absent key) e = is_eq (key_cmp key (key_of e))
has_asked_key (Below key) e = false
has_asked_key (Above key) e = false

abbrev pub IsNotAsked : Ask → Ancestor → Type 0
IsNotAsked ask a = has_asked_key ask a.entry ≡ false

module _ (left : Entry → Bool) where
  -- the text of the ancestor's node, over the label of the side that the way takes
  abbrev pub over_text : Ancestor → (below : List ℕ) → List ℕ
  over_text a below = if left a.entry then entry_text below a.entry a.other else entry_text a.other a.entry below

  -- the entry of the nearest ancestor at which the way goes right, and left
  abbrev pub nearest_right : List Ancestor → Option Entry
  nearest_right [] = None
  nearest_right (a ∷ up) = if left a.entry then nearest_right up else Some a.entry

  abbrev pub nearest_left : List Ancestor → Option Entry
  nearest_left [] = None
  nearest_left (a ∷ up) = if left a.entry then Some a.entry else nearest_left up

module _ (dig : List ℕ → List ℕ) (left : Entry → Bool) where
  -- the label of the whole tree, over that of the part below the ancestors
  unfoldable pub climbed_tree : List Ancestor → (below : List ℕ) → List ℕ
  climbed_tree [] below = below
  climbed_tree (a ∷ up) below = climbed_tree up (dig (over_text left a below))

  -- the texts of the ancestors, upwards
  unfoldable pub climb_texts : List Ancestor → (below : List ℕ) → List (List ℕ)
  climb_texts [] below = []
  climb_texts (a ∷ up) below = over_text left a below ∷ climb_texts up (dig (over_text left a below))
