-- The nodes of a tree proof above its place, and the proof that a tree itself has of the answer to a question.
use Rattle.std.specs.Prelude.{◌≡◌, ℕ, List, [], ◌∷◌, ◌++◌, Some, None, if◌then◌else◌}
use Rattle.tw_base.specs.declared.history.thread.Entry.{Entry}
use Rattle.tw_base.specs.declared.history.tree_proof.Ancestor.{Ancestor}
use Rattle.tw_base.specs.declared.history.tree_proof.Ask.{Ask}
use Rattle.tw_base.specs.declared.history.tree_proof.Ask.TheVariants.{Present, Absent, Below, Above}
use Rattle.tw_base.specs.declared.history.tree_proof.TreeProof.{TreeProof}
use Rattle.tw_base.specs.declared.history.tree_proof.TreeProof.TheVariants.{Present as OfEntry, Gap}
use Rattle.tw_base.specs.history.Asking.{entry_with}
use Rattle.tw_base.specs.history.Auth.{tree_label}
use Rattle.tw_base.specs.history.Entries.{key_of}
use Rattle.tw_base.specs.history.Tree.{Tree}
use Rattle.tw_base.specs.history.Tree.Tree.{Empty, Branch}
use Rattle.tw_base.specs.history.Ways.{has_asked_key, is_left}

abbrev pub ancestors_of : TreeProof → List Ancestor
ancestors_of (OfEntry left right up) = up
ancestors_of (Gap up) = up

-- the part of the tree at the asked place: the way down ends at the asked key, in a question for one key, and else at an
-- empty place
unfoldable pub place_of_ask : Ask → Tree → Tree
place_of_ask ask Empty = Empty
place_of_ask ask (Branch left e right) =
    if has_asked_key ask e then Branch left e right else (if is_left ask e then place_of_ask ask left else place_of_ask ask right)

module _ (dig : List ℕ → List ℕ) where
  abbrev pub ancestor : Entry → (other : Tree) → Ancestor
  ancestor e other = record { entry = e; other = tree_label dig other }

  -- the nodes above that place, nearest first
  unfoldable pub way_up : Ask → Tree → List Ancestor
  way_up ask Empty = []
  way_up ask (Branch left e right) =
      if has_asked_key ask e then []
      else (if is_left ask e then way_up ask left ++ ancestor e right ∷ [] else way_up ask right ++ ancestor e left ∷ [])

  -- the proof of a place below these nodes
  abbrev pub proof_at : (place : Tree) → List Ancestor → TreeProof
  proof_at Empty up = Gap up
  proof_at (Branch left e right) up = OfEntry (tree_label dig left) (tree_label dig right) up

  -- the proof that the tree has, where what is asked is so
  abbrev pub proof_of : Tree → Ask → TreeProof
  proof_of t ask = proof_at (place_of_ask ask t) (way_up ask t)

-- what is asked is so of the entries; that there is an entry next to a key, or none, always is
abbrev pub IsSo : List Entry → Ask → Type 0
IsSo es (Present e) = entry_with es (key_of e) ≡ Some e
IsSo es (Absent key) = entry_with es key ≡ None
IsSo es (Below key) = Unit {0}
IsSo es (Above key) = Unit {0}
