-- Which entries stand beside a way and at its end, whatever the pages keep.
use Rattle.std.specs.Prelude.{◌≡◌, true, false, Option, IfSome}
use Rattle.tw_base.specs.declared.history.thread.Entry.{Entry}
use Rattle.tw_base.specs.declared.history.tree_proof.Ask.{Ask}
use Rattle.tw_base.specs.history.Limits.{IsEntryInRange}
use Rattle.tw_base.specs.history.Ways.{has_asked_key, is_left}
use Rattle.tw_rbtree.specs.declared.seeking.Sought.{Sought}

-- an entry on the left of the way, at which it goes right
abbrev pub IsLow : Ask → Entry → Type 0
IsLow ask e = (is_left ask e ≡ false) × IsEntryInRange e

-- an entry on the right of the way, at which it goes left
abbrev pub IsHigh : Ask → Entry → Type 0
IsHigh ask e = (is_left ask e ≡ true) × IsEntryInRange e

-- the entry of the asked key
abbrev pub IsMet : Ask → Entry → Type 0
IsMet ask e = (has_asked_key ask e ≡ true) × IsEntryInRange e

abbrev pub AreBeside : Ask → (low high : Option Entry) → Type 0
AreBeside ask low high = IfSome low (IsLow ask) × IfSome high (IsHigh ask)

abbrev pub IsSoughtBy : Ask → Sought → Type 0
IsSoughtBy ask s = IfSome s.met (IsMet ask) × AreBeside ask s.low s.high
