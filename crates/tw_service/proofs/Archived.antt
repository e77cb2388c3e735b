-- What a step that archives a thread is found as.
use Rattle.std.proofs.Common.{◌≡◌, ℕ, ◌<◌, List, [], ◌++◌, refl, sym, ◌∙◌, arith}
use Rattle.std.specs.Prelude.{Option, Result, Ok, Err}
use Rattle.tw_base.specs.declared.history.content.Content.TheVariants.{Received}
use Rattle.tw_base.specs.declared.history.root.Root.{Root}
use Rattle.tw_base.specs.declared.history.thread.Thread.{Thread}
use Rattle.tw_base.specs.declared.kinds.limits.TheConstants.{LAST_STEP}
use Rattle.tw_base.specs.history.History.{History}
use Rattle.tw_base.specs.history.Sound.{IsSound}
use Rattle.tw_base.proofs.lemmas.kinds.DigestBytes.{IsDigest}
use Rattle.tw_archive.specs.Archives.{MayArchive}
use Rattle.tw_disk.specs.Answers.{Next}
use Rattle.tw_disk.specs.Found.{Found, ◌>>=◌}
use Rattle.tw_disk.specs.Found.Found.{Is, Bad}
use Rattle.tw_disk.specs.Image.{Image}
use Rattle.tw_disk.proofs.FoundLaws.{is_on}
use Rattle.tw_msg.specs.declared.receipt.Receipt.{Receipt}
use Rattle.tw_skiplist.specs.declared.head.Head.{Head}
use Rattle.tw_skiplist.specs.Appended.{appended}
use Rattle.tw_skiplist.proofs.Growing.{Keeps-grows}
use Rattle.tw_skiplist.proofs.KeptAppended.{grown}
use Rattle.tw_base.specs.declared.history.refusal.Refusal.{Refusal}
use Rattle.tw_base.specs.declared.history.refusal.Refusal.TheVariants.{BadPage, DiskFault, NoMemory}
use Rattle.tw_answers.specs.declared.root.RootRecord.{RootRecord}
use Rattle.tw_answers.specs.Refusals.{IsBadPageRefusal, IsFault}
use Rattle.tw_service.specs.Archiving.{AnswersArchived, ArchivesAs, IsStagedBehind}
use Rattle.tw_service.specs.Finds.{found_archived, found_room, receipt_at}
use Rattle.tw_service.specs.Stands.{KeepsWhole}
use Rattle.tw_service.proofs.Receptions.{room_kept}

module _ (dig : List ℕ → List ℕ) (ps : Image) (r : RootRecord) (t : Thread) (time : Option ℕ) (head : Head)
    (archive : Root) where
  -- nothing was told of the pages
  pub archived-fault : AnswersArchived dig ps r t time head archive (Err DiskFault)
  archived-fault = record { tree_pages = []; grown = r.archive; answer = tt; few = tt; put = tt; tree = tt; step = tt }

  -- a refused one tells a bad page that is found, behind pages of some tree
  pub archived-refused : (refusal : Refusal) → IsFault refusal → ArchivesAs dig ps r t time refusal
      → AnswersArchived dig ps r t time head archive (Err refusal)
  archived-refused (BadPage page) fault found =
      record { tree_pages = found.0; grown = found.1; answer = found.2; few = tt; put = tt; tree = tt; step = tt }
  archived-refused DiskFault fault found = archived-fault
  archived-refused NoMemory fault found =
      record { tree_pages = []; grown = r.archive; answer = tt; few = tt; put = tt; tree = tt; step = tt }
  archived-refused _ fault found = absurd fault

  -- one that was staged is found behind its pages
  pub archived-staged : (now : Option Image) → IsStagedBehind dig ps r t time now head archive → AnswersArchived dig ps
      r t time head archive (Ok (receipt_at r.name head t))
  unfolding found_archived
  archived-staged now staged = record {
    tree_pages = staged.tree_pages;
    grown = archive;
    answer = is_on (found_room dig ps r.archive t) (λ room. appended dig (ps ++ staged.tree_pages) r.head (Received t)
        archive time >>= (λ next. Is (Ok (receipt_at r.name next.value t)))) tt staged.room
        ∙ is_on (appended dig (ps ++ staged.tree_pages) r.head (Received t) archive time)
        (λ (next : Next Head). Is (Ok (receipt_at r.name next.value t))) (record { pages = staged.pages; value = head })
        staged.is;
    few = staged.few;
    put = staged.put;
    tree = (refl, staged.tree);
    step = (staged.pages, staged.is);
  }

-- where pages keep a history, a further step is found behind them, whatever stands behind them too
module _ (dig : List ℕ → List ℕ) (size : (text : List ℕ) → IsDigest (dig text)) (ps : Image) (h : History)
    (r : RootRecord) (whole : KeepsWhole dig ps h r) (sound : IsSound h) (t : Thread) (time : Option ℕ)
    (may : MayArchive h t time) (name : List ℕ) (tree_pages : Image) (archive : Root) where
  pub archived-is : (receipt : Receipt) × (found_archived dig ps name r.head r.archive t time tree_pages archive ≡ Is
      (Ok receipt))
  unfolding found_archived
  archived-is =
      let short : r.head.step < LAST_STEP = (let ends = whole.steps.step in let few = may.short in
      omega (arith, ends, few)) in
      let own = grown dig size (ps ++ tree_pages) h r.head (Keeps-grows dig ps tree_pages h r.head whole.steps).0
      (Received t) archive time short in (
        receipt_at name own.new t,
        is_on (found_room dig ps r.archive t) (λ room. appended dig (ps ++ tree_pages) r.head (Received t) archive time
            >>= (λ next. Is (Ok (receipt_at name next.value t)))) tt (room_kept dig ps h r whole t time sound may)
            ∙ is_on (appended dig (ps ++ tree_pages) r.head (Received t) archive time)
            (λ (next : Next Head). Is (Ok (receipt_at name next.value t))) _ own.is,
      )

  -- so no page is bad
  never_bad : (page : ℕ) → found_archived dig ps name r.head r.archive t time tree_pages archive ≡ Bad page → ⊥
  never_bad page bad = let both : ◌≡◌ {A = Found (Result Receipt Refusal)} (Is (Ok archived-is.0)) (Bad page) =
      sym archived-is.1 ∙ bad in cc

module _ (dig : List ℕ → List ℕ) (size : (text : List ℕ) → IsDigest (dig text)) (ps : Image) (h : History)
    (r : RootRecord) (whole : KeepsWhole dig ps h r) (sound : IsSound h) (t : Thread) (time : Option ℕ)
    (may : MayArchive h t time) where
  pub none-bad : (refusal : Refusal) → IsBadPageRefusal refusal → ArchivesAs dig ps r t time refusal → ⊥
  none-bad (BadPage page) bad found = never_bad dig size ps h r whole sound t time may r.name found.0 found.1 page
      found.2
  none-bad _ bad found = bad
