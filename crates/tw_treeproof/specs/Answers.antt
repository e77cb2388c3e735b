-- When a tree proof checks under a label, what it then shows, and when that is so of a tree's entries.
use Rattle.std.specs.Prelude.{◌≡◌, Bool, true, false, ℕ, List, ◌∷◌, Some, None}
use Rattle.tw_base.specs.declared.history.thread.Entry.{Entry}
use Rattle.tw_base.specs.declared.history.tree_proof.Ancestor.{Ancestor}
use Rattle.tw_base.specs.declared.history.tree_proof.Ask.{Ask}
use Rattle.tw_base.specs.declared.history.tree_proof.Ask.TheVariants.{Present, Absent, Below, Above}
use Rattle.tw_base.specs.declared.history.tree_proof.TreeProof.{TreeProof}
use Rattle.tw_base.specs.declared.history.tree_proof.TreeProof.TheVariants.{Present as OfEntry, Gap}
use Rattle.tw_base.specs.history.Asking.{entry_with, first_above, last_below}
use Rattle.tw_base.specs.history.Entries.{entry_text, key_of}
use Rattle.tw_base.specs.kinds.Lists.{Each}
use Rattle.tw_base.specs.kinds.Texts.{empty_tree_text}
use Rattle.tw_base.specs.history.TreeProofs.{ancestors_of}
use Rattle.tw_base.specs.history.Ways.{IsNotAsked, climbed_tree, climb_texts, is_left, nearest_left, nearest_right}
use Rattle.tw_treeproof.specs.declared.shown.Shown.{Shown}
use Rattle.tw_treeproof.specs.declared.shown.Shown.TheVariants.{Present as IsThere, Absent as IsNotThere, Nearest, Wrong}

-- the question is about an entry, and the proof is of one
abbrev pub asks_entry : Ask → Bool
asks_entry (Present e) = true
asks_entry (Absent key) = false
asks_entry (Below key) = false
asks_entry (Above key) = false

abbrev pub is_of_entry : TreeProof → Bool
is_of_entry (OfEntry left right up) = true
is_of_entry (Gap up) = false

-- the text at the asked place: of the asked entry's node, or of the empty tree
abbrev pub place_text : Ask → TreeProof → List ℕ
place_text (Present e) (OfEntry left right up) = entry_text left e right
place_text (Present e) (Gap up) = empty_tree_text
place_text (Absent key) proof = empty_tree_text
place_text (Below key) proof = empty_tree_text
place_text (Above key) proof = empty_tree_text

module _ (dig : List ℕ → List ℕ) where
  -- the texts of a proof, that at the asked place and those of the ancestors upwards; checking hashes these where it
  -- doesn't show Wrong
  unfoldable pub tree_proof_texts : Ask → TreeProof → List (List ℕ)
  tree_proof_texts ask proof = place_text ask proof ∷ climb_texts dig (is_left ask) (ancestors_of proof) (dig (place_text ask proof))

  -- the proof is of the kind that the question asks for, no ancestor has the asked key, and the labels lead up to the root
  pub record Checks (root : List ℕ) (ask : Ask) (proof : TreeProof) : Type 0 where
    pub kind : is_of_entry proof ≡ asks_entry ask
    pub free : Each (IsNotAsked ask) (ancestors_of proof)
    pub label : climbed_tree dig (is_left ask) (ancestors_of proof) (dig (place_text ask proof)) ≡ root

-- what a proof that checks shows, over its ancestors
abbrev pub shown_answer : Ask → List Ancestor → Shown
shown_answer (Present e) up = IsThere
shown_answer (Absent key) up = IsNotThere
shown_answer (Below key) up = Nearest (nearest_right (is_left (Below key)) up)
shown_answer (Above key) up = Nearest (nearest_left (is_left (Above key)) up)

-- what checking shows: the proof's answer where it checks, and else Wrong
abbrev pub Shows : (dig : List ℕ → List ℕ) (root : List ℕ) → Ask → TreeProof → Shown → Type 0
Shows dig root ask proof Wrong = Checks dig root ask proof → ⊥
Shows dig root ask proof shown = Checks dig root ask proof × (shown ≡ shown_answer ask (ancestors_of proof))

-- what is shown is so of the entries, which rise by key; Wrong says nothing
abbrev pub IsAnswer : List Entry → Ask → Shown → Type 0
IsAnswer es ask Wrong = Unit {0}
IsAnswer es (Present e) IsThere = entry_with es (key_of e) ≡ Some e
IsAnswer es (Absent key) IsNotThere = entry_with es key ≡ None
IsAnswer es (Below key) (Nearest o) = last_below es key ≡ o
IsAnswer es (Above key) (Nearest o) = first_above es key ≡ o
IsAnswer es ask shown = ⊥
