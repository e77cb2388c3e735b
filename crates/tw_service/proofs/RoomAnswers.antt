-- What a service answers where staging a step that archives a thread was refused.
use Rattle.std.proofs.Common.{◌≡◌, ℕ, List, [], ◌++◌, ap, ◌∙◌, subst, sym}
use Rattle.std.specs.Prelude.{Option, Result, Ok, Err, IfErr, IsErrAnd}
use Rattle.tw_base.specs.declared.history.content.Content.TheVariants.{Received}
use Rattle.tw_base.specs.declared.history.thread.Thread.{Thread}
use Rattle.tw_disk.specs.Found.Found.{Is, Bad}
use Rattle.tw_disk.specs.Image.{Image}
use Rattle.tw_disk.proofs.FoundLaws.{bad_ends, is_on}
use Rattle.tw_skiplist.specs.declared.fault.ListFault.{ListFault}
use Rattle.tw_skiplist.specs.declared.fault.ListFault.TheVariants as list
use Rattle.tw_skiplist.specs.Appended.{appended}
use Rattle.tw_skiplist.specs.ListFaults.{list_faults, list_refusal}
use Rattle.tw_base.specs.declared.history.refusal.Refusal.{Refusal}
use Rattle.tw_base.specs.declared.history.refusal.Refusal.TheVariants as refused
use Rattle.tw_answers.specs.declared.root.RootRecord.{RootRecord}
use Rattle.tw_service.specs.Archiving.{ArchivesAs}
use Rattle.tw_base.specs.declared.history.root.Root.{Root}
use Rattle.tw_disk.specs.Answers.{RefusesAs, SaysOf}
use Rattle.tw_disk.specs.Found.{Found, ◌>>=◌}
use Rattle.tw_rbtree.specs.FaultWords.{tree_faults}
use Rattle.tw_rbtree.specs.declared.fault.TreeFault.{TreeFault}
use Rattle.tw_rbtree.specs.declared.fault.TreeFault.TheVariants.{Present, Untrue, BadPage, DiskFault, NoMemory}
use Rattle.tw_service.specs.Finds.{found_archived, found_room, receipt_at, room_in}
use Rattle.tw_answers.specs.Refusals.{refusal_of_tree, service_refusals}

module _ (root : Root) where
  -- a refused insert says of the pages what it found in them
  pub room-says : (fault : TreeFault) (found : Found (Result (Unit {0}) TreeFault)) → RefusesAs tree_faults
      (tree_faults fault) fault found
      → SaysOf service_refusals (service_refusals (refusal_of_tree root fault)) (found >>= room_in root)
  room-says Present found is = ap (λ (f : Found (Result (Unit {0}) TreeFault)). f >>= room_in root) is
  room-says Untrue found is = ap (λ (f : Found (Result (Unit {0}) TreeFault)). f >>= room_in root) is
  room-says (BadPage page) found is = ap (λ (f : Found (Result (Unit {0}) TreeFault)). f >>= room_in root) is
  room-says DiskFault found is = tt
  room-says NoMemory found is = tt

module _ {T : Type 0} where
  -- what holds of a refusal that was handed on
  pub if_err : (P : Refusal → Type 0) (result : Result T Refusal) (r : Refusal) → IsErrAnd result (λ q. q ≡ r) → P r
      → IfErr result P
  if_err P (Ok x) r is holds = tt
  if_err P (Err q) r is holds = subst P (sym is) holds

module _ (dig : List ℕ → List ℕ) (ps : Image) (root : RootRecord) (t : Thread) (time : Option ℕ) where
  -- there was no room in the archive's tree
  pub room_archives : (r : Refusal) → SaysOf service_refusals (service_refusals r) (found_room dig ps root.archive t)
      → ArchivesAs dig ps root t time r
  unfolding found_archived
  room_archives (refused.BadPage page) is = (
    [],
    root.archive,
    bad_ends (found_room dig ps root.archive t) (λ room. appended dig (ps ++ []) root.head (Received t) root.archive
        time >>= (λ next. Is (Ok (receipt_at root.name next.value t)))) page is,
  )
  room_archives _ is = tt

  -- the step wasn't put behind the tree's pages
  module _ (tree_pages : Image) (archive : Root) (room : found_room dig ps root.archive t ≡ Is tt) where
    appended_archives : (page : ℕ) → appended dig (ps ++ tree_pages) root.head (Received t) archive time ≡ Bad page
        → found_archived dig ps root.name root.head root.archive t time tree_pages archive ≡ Bad page
    unfolding found_archived
    appended_archives page is =
        is_on (found_room dig ps root.archive t) (λ room. appended dig (ps ++ tree_pages) root.head (Received t) archive
        time >>= (λ next. Is (Ok (receipt_at root.name next.value t)))) tt room
        ∙ bad_ends (appended dig (ps ++ tree_pages) root.head (Received t) archive time)
        (λ next. Is (Ok (receipt_at root.name next.value t))) page is

    pub step_archives : (fault : ListFault) → SaysOf list_faults (list_faults fault)
        (appended dig (ps ++ tree_pages) root.head (Received t) archive time) → ArchivesAs dig ps root t time
        (list_refusal fault)
    step_archives (list.BadPage page) is = (tree_pages, archive, appended_archives page is)
    step_archives (list.NoStep last) is = tt
    step_archives list.DiskFault is = tt
    step_archives list.NoMemory is = tt
