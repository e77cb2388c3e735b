-- What putting an entry into a tree of the code gives.
use Rattle.std.specs.Prelude.{◌≡◌, Some, Result, Ok, Err}
use Rattle.tw_base.specs.declared.history.thread.Entry.{Entry}
use Rattle.tw_base.specs.history.Asking.{entry_with}
use Rattle.tw_base.specs.history.Entries.{key_of}
use Rattle.tw_base.specs.history.Tree.{Tree as TreeOfEntries, entries}
use Rattle.tw_base.specs.history.WithLeaf.{HasLeaf}
use Rattle.tw_tree.specs.declared.inserting.InsertFault.{InsertFault}
use Rattle.tw_tree.specs.declared.inserting.InsertFault.TheVariants.{Present, NoMemory}
use Rattle.tw_tree.specs.declared.tree.Tree.{Tree}
use Rattle.tw_tree.specs.TreeMeaning.{meant_tree}

-- the entry was put into the tree, or its key is there. Want of memory is free
abbrev pub Inserts : TreeOfEntries → Entry → Result Tree InsertFault → Type 0
Inserts t e (Ok new) = HasLeaf t e (meant_tree new)
Inserts t e (Err Present) = (f : Entry) × (entry_with (entries t) (key_of e) ≡ Some f)
Inserts t e (Err NoMemory) = Unit {0}
