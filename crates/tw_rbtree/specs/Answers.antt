-- What the calls answer, and when which fault.
use Rattle.std.specs.Prelude.{◌≡◌, ℕ, ◌==◌, ◌&&◌, not, List, [], ◌∷◌, Bool, false, Option, Some, None, Result, Ok, Err}
use Rattle.tw_base.specs.declared.history.root.Root.{Root}
use Rattle.tw_base.specs.declared.history.thread.Entry.{Entry}
use Rattle.tw_base.specs.declared.history.thread.Key.{Key}
use Rattle.tw_base.specs.declared.history.tree_proof.Ask.{Ask}
use Rattle.tw_base.specs.declared.history.tree_proof.Ask.TheVariants.{Present as HasEntry, Absent as HasNone}
use Rattle.tw_base.specs.declared.history.tree_proof.TreeProof.{TreeProof}
use Rattle.tw_disk.specs.Answers.{SaysOf}
use Rattle.tw_disk.specs.Found.{Found, when, ◌>>=◌}
use Rattle.tw_disk.specs.Found.Found.{Is}
use Rattle.tw_disk.specs.Image.{Image}
use Rattle.tw_rbnode.specs.declared.limits.TheConstants.{TOP_LEVEL}
use Rattle.tw_rbtree.specs.declared.fault.TreeFault.{TreeFault}
use Rattle.tw_rbtree.specs.declared.fault.TreeFault.TheVariants.{Present, Untrue}
use Rattle.tw_rbtree.specs.declared.proving.Shown.{Shown}
use Rattle.tw_rbtree.specs.FaultWords.{tree_faults}
use Rattle.tw_rbtree.specs.Growing.{all_full}
use Rattle.tw_rbtree.specs.Ways.{Stop, end_of_way, nowhere, way}

module _ {T : Type 0} where
  -- these two faults are not answered
  abbrev pub NeverPresent : Result T TreeFault → Type 0
  NeverPresent (Err Present) = ⊥
  NeverPresent _ = Unit {0}

  abbrev pub NeverUntrue : Result T TreeFault → Type 0
  NeverUntrue (Err Untrue) = ⊥
  NeverUntrue _ = Unit {0}

-- what is asked is so of the end of the way; that there is an entry next to a key, or none, always is
abbrev pub IsSoAt : Ask → (met : Option Entry) → Type 0
IsSoAt (HasEntry e) met = met ≡ Some e
IsSoAt (HasNone key) met = met ≡ None
IsSoAt _ met = Unit {0}

-- `path`: what is asked is so of the entry at the end of the way, and the proof is that of the way; or it isn't so
abbrev pub AnswersPath : Ask → Result TreeProof TreeFault → Found Shown → Type 0
AnswersPath ask (Ok proof) found = (met : Option Entry) × (found ≡ Is (record { met = met; proof = proof })) × IsSoAt ask met
AnswersPath ask (Err Untrue) found = (shown : Shown) × (found ≡ Is shown) × (IsSoAt ask shown.met → ⊥)
AnswersPath ask (Err fault) found = SaysOf tree_faults (tree_faults fault) found

-- the root's page has the greatest level, and all pages on the way are full
abbrev pub overflows : List Stop → Bool
overflows [] = false
overflows (s ∷ stops) = all_full (s ∷ stops) && (s.page.level == TOP_LEVEL)

-- `insert`: the key is there; or the way ends at an empty place, and there is a new root, but where the pages overflow: then the
-- root's page is told
abbrev pub insert_at : Root → (met : Option Entry) → (over : Bool) → Found (Result (Unit {0}) TreeFault)
insert_at root (Some e) over = Is (Err Present)
insert_at root None over = when (not over) root.page (Ok tt)

unfoldable pub found_insert : (dig : List ℕ → List ℕ) → Image → Root → Key → Found (Result (Unit {0}) TreeFault)
found_insert dig pages root key = way dig pages (HasNone key) root >>= (λ stops. insert_at root (end_of_way nowhere stops).met (overflows stops))

-- the root's page, of this level, becomes one page or two: two have no room above them at the greatest level, and the page is told
abbrev pub top_at : (page level : ℕ) → (two : Bool) → Found (Result (Unit {0}) TreeFault)
top_at page level two = when (not (two && (level == TOP_LEVEL))) page (Ok tt)
