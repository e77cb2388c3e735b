-- What a tree is with one more entry.
use Rattle.std.specs.Prelude.{◌≡◌, None, if◌then◌else◌}
use Rattle.std.specs.Ordering.{is_lt}
use Rattle.tw_base.specs.declared.history.thread.Entry.{Entry}
use Rattle.tw_base.specs.history.Asking.{entry_with, with_entry}
use Rattle.tw_base.specs.history.Entries.{key_cmp, key_of}
use Rattle.tw_base.specs.history.Tree.{Tree, IsRising, entries}
use Rattle.tw_base.specs.history.Tree.Tree.{Empty, Branch}

-- the tree with the entry at the empty place to which its key leads
unfoldable pub with_leaf : Tree → Entry → Tree
with_leaf Empty e = Branch Empty e Empty
with_leaf (Branch left f right) e =
    if is_lt (key_cmp (key_of e) (key_of f)) then Branch (with_leaf left e) f right else Branch left f (with_leaf right e)

-- the new tree has the entry at its empty place
pub record HasLeaf (t : Tree) (e : Entry) (new : Tree) : Type 0 where
  pub absent : entry_with (entries t) (key_of e) ≡ None
  pub tree : new ≡ with_leaf t e
  pub list : entries new ≡ with_entry (entries t) e
  pub rising : IsRising (entries new)
