-- What is asked of an archive, and what its entries answer. The entries rise by key.
use Rattle.std.specs.Prelude.{◌≡◌, ◌⊎◌, List, [], ◌∷◌, Option, Some, None, find, if◌then◌else◌}
use Rattle.std.specs.Option.{option_or}
use Rattle.std.specs.Ordering.{is_eq, is_lt}
use Rattle.tw_base.specs.declared.history.thread.Entry.{Entry}
use Rattle.tw_base.specs.declared.history.thread.Key.{Key}
use Rattle.tw_base.specs.history.Entries.{KeyBelow, key_cmp, key_of}
use Rattle.tw_base.specs.kinds.Lists.{In}

-- the entry of this key
abbrev pub entry_with : List Entry → Key → Option Entry
entry_with es key = find (λ e. is_eq (key_cmp key (key_of e))) es

-- the last entry below this key, which has the greatest of the keys below it
abbrev pub last_below : List Entry → Key → Option Entry
last_below [] key = None
last_below (e ∷ es) key = if is_lt (key_cmp (key_of e) key) then option_or (last_below es key) (Some e) else None

-- the first entry above this key, which has the least of the keys above it
abbrev pub first_above : List Entry → Key → Option Entry
first_above es key = find (λ e. is_lt (key_cmp key (key_of e))) es

-- the entries with one more, in its place
abbrev pub with_entry : List Entry → Entry → List Entry
with_entry [] e = e ∷ []
with_entry (f ∷ es) e = if is_lt (key_cmp (key_of e) (key_of f)) then e ∷ f ∷ es else f ∷ with_entry es e

-- ---- what such answers say of the list

-- the entry is in the list, its key is below this one, and each other entry below this key is below the entry
pub record IsGreatestBelow (es : List Entry) (key : Key) (e : Entry) : Type 0 where
  pub has : In e es
  pub below : KeyBelow (key_of e) key
  pub greatest : (f : Entry) → In f es → KeyBelow (key_of f) key → (f ≡ e) ⊎ KeyBelow (key_of f) (key_of e)

-- the entry is in the list, its key is above this one, and each other entry above this key is above the entry
pub record IsLeastAbove (es : List Entry) (key : Key) (e : Entry) : Type 0 where
  pub has : In e es
  pub above : KeyBelow key (key_of e)
  pub least : (f : Entry) → In f es → KeyBelow key (key_of f) → (f ≡ e) ⊎ KeyBelow (key_of e) (key_of f)
