-- A step that archives a thread, as its pages are staged.
use Rattle.std.specs.Prelude.{◌≡◌, ℕ, ◌+◌, ◌≤◌, List, ◌++◌, length, IfOk, Option, Some, Result, Err}
use Rattle.tw_base.specs.declared.history.content.Content.TheVariants.{Received}
use Rattle.tw_base.specs.declared.history.root.Root.{Root}
use Rattle.tw_base.specs.declared.history.thread.Entry.{Entry}
use Rattle.tw_base.specs.declared.history.thread.Thread.{Thread}
use Rattle.tw_base.specs.history.Asking.{with_entry}
use Rattle.tw_base.specs.history.Tree.{Tree, entries}
use Rattle.tw_disk.specs.declared.limits.TheConstants.{FIRST_PAGE}
use Rattle.tw_disk.specs.Found.{Found}
use Rattle.tw_disk.specs.Found.Found.{Is, Bad}
use Rattle.tw_disk.specs.Image.{Image}
use Rattle.tw_msg.specs.declared.message.Message.{Message}
use Rattle.tw_msg.specs.declared.receipt.Receipt.{Receipt}
use Rattle.tw_rbtree.specs.declared.limits.TheConstants.{MOST_STAGED}
use Rattle.tw_rbtree.specs.Putting.{PutsIn}
use Rattle.tw_rbtree.specs.Standing.{HasNamed, Named, StandsWith}
use Rattle.tw_skiplist.specs.declared.head.Head.{Head}
use Rattle.tw_skiplist.specs.Appended.{appended}
use Rattle.tw_base.specs.declared.history.refusal.Refusal.{Refusal}
use Rattle.tw_answers.specs.declared.root.RootRecord.{RootRecord}
use Rattle.tw_answers.specs.Finds.{IsFoundAnswer}
use Rattle.tw_service.specs.declared.receiving.Reception.{Reception}
use Rattle.tw_service.specs.declared.receiving.Reception.TheVariants.{Refuse, Known, Archive}
use Rattle.tw_service.specs.Finds.{found_archived, found_receipt, found_room}
use Rattle.tw_answers.specs.Refusals.{OfBadPage}

-- the thread, as the step after so many receives it
abbrev pub archived_entry : (steps : ℕ) → Thread → Entry
archived_entry steps t = record { thread = t; archived = steps + 1 }

module _ (dig : List ℕ → List ℕ) (ps : Image) (root : RootRecord) (t : Thread) where
  -- behind these pages stand those of a tree under this root: where the first stand for the archive's tree, of which pages below a number
  -- are named trees, all of them stand, with the same names, for one that lists the thread too
  abbrev pub HasTreeBehind : (tree_pages : Image) → (archive : Root) → Type 0
  HasTreeBehind tree_pages archive =
      (named : Named) → named.below ≤ FIRST_PAGE + length ps → (old : Tree) → StandsWith dig (HasNamed named) ps root.archive old
      → (new : Tree) × StandsWith dig (HasNamed named) (ps ++ tree_pages) archive new × (entries new ≡ with_entry (entries old) (archived_entry root.head.step t))

  -- these pages put the thread into the archive's tree, as the next step receives it, and no other page is among them: those of the way
  -- to its place, as it is found in the pages, whatever else they keep, each with what stands below it now
  abbrev pub PutsThreadIn : (tree_pages : Image) → (archive : Root) → Type 0
  PutsThreadIn tree_pages archive = PutsIn dig ps root.archive (archived_entry root.head.step t) tree_pages archive

  -- the pages told now are those, the tree's, and then the step's, which is found behind the others
  pub record IsStagedBehind (time : Option ℕ) (now : Option Image) (head : Head) (archive : Root) : Type 0 where
    pub tree_pages : Image
    pub few : length tree_pages ≤ MOST_STAGED
    pub put : PutsThreadIn tree_pages archive
    pub tree : HasTreeBehind tree_pages archive
    pub room : found_room dig ps root.archive t ≡ Is tt
    pub pages : Image
    pub told : now ≡ Some pages
    pub is : appended dig (ps ++ tree_pages) root.head (Received t) archive time ≡ Is (record { pages = pages; value = head })

  -- where a page is bad, it is the first that is found, be it behind pages of some tree
  abbrev pub ArchivesAs : (time : Option ℕ) → Refusal → Type 0
  ArchivesAs time refusal =
      OfBadPage refusal (λ page. (tree_pages : Image) × (archive : Root) × (found_archived dig ps root.name root.head root.archive t time tree_pages archive ≡ Bad page))

  -- What is answered where the next step is to archive the thread: the receipt that is found behind the pages that put it into the tree, or
  -- the first page that is bad behind pages of some tree, with a disk fault and want of memory excepted; and a receipt is by the step of this
  -- new head, which is found with the tree's new root, that of this archive.
  pub record AnswersArchived (time : Option ℕ) (head : Head) (archive : Root) (result : Result Receipt Refusal) : Type 0 where
    pub tree_pages : Image
    pub grown : Root
    pub answer : IsFoundAnswer result (found_archived dig ps root.name root.head root.archive t time tree_pages grown)
    pub few : IfOk result (λ receipt. length tree_pages ≤ MOST_STAGED)
    pub put : IfOk result (λ receipt. PutsThreadIn tree_pages archive)
    pub tree : IfOk result (λ receipt. (grown ≡ archive) × HasTreeBehind tree_pages archive)
    pub step : IfOk result (λ receipt. (pages : Image) × (appended dig (ps ++ tree_pages) root.head (Received t) archive time ≡ Is (record { pages = pages; value = head })))

-- A message that becomes this is answered so: by the refusal; by the receipt of the step that received its thread; or by that of the next
-- step, of which these are the head and the archive.
abbrev pub ReceivesAs : (dig : List ℕ → List ℕ) → Image → RootRecord → Message → (time : Option ℕ) → (head : Head) → (archive : Root) → Result Receipt Refusal → Found Reception → Type 0
ReceivesAs dig ps root m time head archive result (Bad page) = IsFoundAnswer result (Bad page)
ReceivesAs dig ps root m time head archive result (Is (Refuse refusal)) = IsFoundAnswer result (Is (Err refusal))
ReceivesAs dig ps root m time head archive result (Is (Known archived)) = IsFoundAnswer result (found_receipt dig ps root.name root.head archived m.thread)
ReceivesAs dig ps root m time head archive result (Is Archive) = AnswersArchived dig ps root m.thread time head archive result
