-- What a store makes of a message: where its archive was read, where the receipt was, and where a step was added.
use Rattle.std.proofs.Common.{◌≡◌, ◌≢◌, ◌⊎◌, ℕ, suc, ◌+◌, ◌<◌, ◌≤◌, List, [], length, refl, ap, sym, ◌∙◌, subst, arith}
use Rattle.std.proofs.Common.{inl, inr, ⊎_elim, Bool, true, false}
use Rattle.std.specs.Prelude.{Option, Some, None, Result, Ok, Err, IfErr, IfOk, IsErrAnd, OnErr, if◌then◌else◌}
use Rattle.std.specs.Str.{bytes_eq}
use Rattle.std.proofs.lemmas.Bool.{false_from_ne_true}
use Rattle.std.proofs.lemmas.Slice.Eq.{bytes_eq-Decides}
use Rattle.tw_base.specs.declared.kinds.limits.TheConstants.{LAST_STEP}
use Rattle.tw_base.specs.declared.history.root.Root.{Root}
use Rattle.tw_base.specs.history.Auth.{auth}
use Rattle.tw_base.specs.history.History.{History, plus}
use Rattle.tw_base.specs.history.Limits.{IsStep, IsThread, IsTimeWithinLimits}
use Rattle.tw_base.specs.history.Sound.{IsSound}
use Rattle.tw_base.specs.history.Tree.{entries, tree}
use Rattle.tw_base.specs.kinds.Faults.{Rose}
use Rattle.tw_base.proofs.lemmas.kinds.DigestBytes.{IsDigest}
use Rattle.tw_disk.specs.Answers.{IsShared, SaysOf, is_failed, is_of_disk}
use Rattle.tw_disk.specs.Disk.{DiskView}
use Rattle.tw_disk.specs.Found.{Found}
use Rattle.tw_disk.specs.Found.Found.{Is, Bad}
use Rattle.tw_disk.specs.Image.{Image}
use Rattle.tw_disk.proofs.FoundLaws.{same_found}
use Rattle.tw_msg.specs.declared.message.Message.{Message}
use Rattle.tw_msg.specs.declared.receipt.Receipt.{Receipt}
use Rattle.tw_msg.specs.Messages.{IsLinked}
use Rattle.tw_pages.specs.declared.store.Store.{Store}
use Rattle.tw_pages.specs.Records.{Written, written_record}
use Rattle.tw_pages.specs.Rests.{RestsWith}
use Rattle.tw_pages.proofs.Written.{still_rests, told_list}
use Rattle.tw_pages.specs.Same.{IsSameStore, store_list}
use Rattle.tw_pages.specs.SameSteps.{is_same_on}
use Rattle.tw_pages.specs.StoreValue.{is_broken, staged_of, store_disk}
use Rattle.tw_archive.specs.Archives.{MayArchive}
use Rattle.tw_archive.specs.Judging.{judged_message}
use Rattle.tw_skiplist.specs.declared.head.Head.{Head}
use Rattle.tw_base.specs.declared.history.refusal.Refusal.{Refusal}
use Rattle.tw_base.specs.declared.history.refusal.Refusal.TheVariants.{Own, BadPage, DiskFault, NoMemory}
use Rattle.tw_answers.specs.declared.root.RootRecord.{RootRecord}
use Rattle.tw_answers.specs.Finds.{IsFoundAnswer}
use Rattle.tw_answers.specs.Limits.{clock_refusal, own_refusal}
use Rattle.tw_answers.specs.Roots.{root_kind}
use Rattle.tw_answers.specs.Refusals.{IsBadPageRefusal, IsFault, service_refusals}
use Rattle.tw_answers.proofs.FoundAnswers.{table_found}
use Rattle.tw_answers.proofs.TableAnswers.{is_bad_fault}
use Rattle.tw_service.specs.declared.receiving.Reception.{Reception}
use Rattle.tw_service.specs.declared.receiving.Reception.TheVariants.{Refuse, Known, Archive}
use Rattle.tw_service.specs.Archiving.{AnswersArchived, ReceivesAs}
use Rattle.tw_service.specs.Finds.{found_receipt, found_reception, receipt_at, receipt_of}
use Rattle.tw_service.specs.Keeps.{StoreServes}
use Rattle.tw_service.specs.Machine.{Archives, IsStepOf, RepliesTo, receipt_by, received_as}
use Rattle.tw_service.specs.Machine.Call.{Receive}
use Rattle.tw_service.specs.Machine.Reply.{OfReceipt, Refused}
use Rattle.tw_service.specs.NextRecords.{next_record}
use Rattle.tw_service.specs.Receiving.{TellsOfMessage, reception, refuse_or}
use Rattle.tw_service.specs.Stands.{KeepsHistory, KeepsWhole, greatest_time}
use Rattle.tw_service.specs.TakingIn.{StepsIn, TakesIn}
use Rattle.tw_service.specs.Writing.{AddsThread, ArchivesTo, CommitsRoot, IsReceiptOfNext, IsReceiptOfRecord}
use Rattle.tw_service.proofs.Received.{taken_err, taken_known, tells_told}
use Rattle.tw_service.proofs.Receptions.{answer-knows, archive-accepts, may_archive, receipt_kept, reception_kept}
use Rattle.tw_service.proofs.Serving.{KeepsThread, few_written, keeps_thread, read_serves, since_read, written_leaves}
use Rattle.tw_service.proofs.Serving.{written_serves, written_tells}

abbrev fails : Refusal → Result Receipt Refusal
fails why = Err why

-- ---- refusals that were handed on

pub handed_on : (P : Result Receipt Refusal → Type 0) (result : Result Receipt Refusal) (r : Refusal)
    → IsErrAnd result (λ q. q ≡ r) → P (Err r) → P result
handed_on P (Ok x) r is holds = absurd is
handed_on P (Err q) r is holds = subst (λ (x : Refusal). P (Err x)) (sym is) holds

pub shared_fault : (r : Refusal) → IsShared (service_refusals r) → IsFault r
shared_fault (BadPage page) is = tt
shared_fault DiskFault is = tt
shared_fault NoMemory is = tt
shared_fault _ is = absurd is

-- after one that isn't of the disk the pages are unbroken
still_whole : (r : Refusal) → IsFault r → (broken : Bool) → (is_of_disk (service_refusals r) ≡ false → broken ≡ false)
    → (r ≡ DiskFault) ⊎ (broken ≡ false)
still_whole (BadPage page) fault broken good = inr (good refl)
still_whole DiskFault fault broken good = inl refl
still_whole NoMemory fault broken good = inr (good refl)
still_whole _ fault broken good = absurd fault

-- what is found of a message is no answer to a fault
module _ (dig : List ℕ → List ℕ) (ps : Image) (root : RootRecord) (m : Message) (time : Option ℕ) (head : Head)
    (archive : Root) where
  abbrev Answered : Refusal → Found Reception → Type 0
  Answered r found = ReceivesAs dig ps root m time head archive (Err r) found

  pub fault_answered : (r : Refusal) → IsFault r → (found : Found Reception) → SaysOf service_refusals
      (service_refusals r) found → Answered r found
  fault_answered (BadPage page) fault found is = subst (Answered (BadPage page)) (sym is) refl
  fault_answered DiskFault fault (Is Archive) is =
      record { tree_pages = []; grown = root.archive; answer = tt; few = tt; put = tt; tree = tt; step = tt }
  fault_answered DiskFault fault _ is = tt
  fault_answered NoMemory fault (Is Archive) is =
      record { tree_pages = []; grown = root.archive; answer = tt; few = tt; put = tt; tree = tt; step = tt }
  fault_answered NoMemory fault _ is = tt
  fault_answered _ fault found is = absurd fault

-- a bad page where something is found
no_bad : (r : Refusal) (found : Found Reception) (x : Reception) → found ≡ Is x → SaysOf service_refusals
    (service_refusals r) found → IsBadPageRefusal r → ⊥
no_bad (BadPage page) found x is there bad = (let both : ◌≡◌ {A = Found Reception} (Is x) (Bad page) = sym is ∙ there in
    cc)
no_bad _ found x is there bad = bad

no_bad_receipt : (r : Refusal) (found : Found (Result Receipt Refusal)) (x : Receipt) → found ≡ Is (Ok x)
    → IsFoundAnswer (fails r) found → IsBadPageRefusal r → ⊥
no_bad_receipt (BadPage page) found x is there bad = (let both : ◌≡◌ {A = Found (Result Receipt Refusal)} (Is (Ok x))
    (Bad page) = sym is ∙ there in cc)
no_bad_receipt _ found x is there bad = bad

-- ---- what becomes of a message by a history

pub own_none : (name from : List ℕ) → from ≢ name → own_refusal false name from ≡ None
unfolding own_refusal
own_none name from other = ap (λ (b : Bool). if b then Some Own else None) (false_from_ne_true (bytes_eq from name)
    (λ same. other ((bytes_eq-Decides from name).0 same)))

module _ (dig : List ℕ → List ℕ) (ps : Image) (h : History) (r : RootRecord) (whole : KeepsWhole dig ps h r)
    (m : Message) (time : Option ℕ) (named : h.name ≡ r.name) (other : m.thread.from ≢ r.name)
    (x : Reception) (found : found_reception dig ps r.name r.head r.archive r.time m time ≡ Is x) where
  abbrev becomes : Reception
  becomes = reception (length h.steps) (greatest_time h) time (judged_message dig (entries (tree h (length h.steps))) m)

  becomes_is : becomes ≡ x
  becomes_is = same_found becomes x (sym (reception_kept dig ps h r whole m r.name time) ∙ found)

  pub received_is : received_as dig h m time ≡ x
  received_is = ap (λ (o : Option Refusal). refuse_or o becomes)
      (own_none h.name m.thread.from (subst (λ (n : List ℕ). m.thread.from ≢ n) (sym named) other)) ∙ becomes_is

  pub refused_so : (refusal : Refusal) → x ≡ Refuse refusal → IsStepOf dig h (Receive m time) (Refused refusal) h
  refused_so refusal is = subst (λ (y : Reception). RepliesTo dig h m time (Refused refusal) h y)
      (sym (received_is ∙ is)) (refl, refl)

  pub known_so : (size : (text : List ℕ) → IsDigest (dig text)) (archived : ℕ) → x ≡ Known archived
      → (found_receipt dig ps r.name r.head archived m.thread ≡ Is
      (Ok (receipt_of r.name archived (auth dig h archived) m.thread)))
      × ((receipt : Receipt) → found_receipt dig ps r.name r.head archived m.thread ≡ Is (Ok receipt)
      → IsStepOf dig h (Receive m time) (OfReceipt receipt) h)
  known_so size archived is =
      let knows = answer-knows (length h.steps) (greatest_time h) time
      (judged_message dig (entries (tree h (length h.steps))) m) archived (becomes_is ∙ is) in
      let own = receipt_kept dig ps h r whole m size r.name archived knows in (
        own,
        λ receipt found_too.
            let same : receipt_of r.name archived (auth dig h archived) m.thread ≡ receipt =
            ok_ok _ receipt (same_found (Ok (receipt_of r.name archived (auth dig h archived) m.thread)) (Ok receipt)
            (sym own ∙ found_too)) in
            subst (λ (y : Reception). RepliesTo dig h m time (OfReceipt receipt) h y) (sym (received_is ∙ is)) (
              refl,
              ap OfReceipt
                  (sym same
                  ∙ (λ j. record {
                    by = record { from = sym named j; step = archived; auth = auth dig h archived };
                    thread = m.thread;
                  })),
            ),
      )
    where
      ok_ok : (y z : Receipt) → ◌≡◌ {A = Result Receipt Refusal} (Ok y) (Ok z) → y ≡ z
      ok_ok y z e = cc

  pub may_so : x ≡ Archive → IsLinked m → IsThread m.thread → IsTimeWithinLimits time → (r.head.step < LAST_STEP)
      × (clock_refusal r.time time ≡ None) → MayArchive h m.thread time
  may_so is linked is_thread within room =
      may_archive dig ps h r whole m time linked is_thread (subst (λ (n : List ℕ). m.thread.from ≢ n) (sym named) other)
      (archive-accepts (length h.steps) (greatest_time h) time (judged_message dig (entries (tree h (length h.steps)))
      m) (becomes_is ∙ is)).0 within
      (ap (λ (o : Option ℕ). clock_refusal o time) (sym whole.time) ∙ room.1) (let short = room.0 in let ends =
      whole.steps.step in omega (arith, short, ends))

-- ---- the archive was read

module _ {D : Type 0} {g : _} (view : D → DiskView) (only_now : (d : D) (c : Image) → (view d).left_since
    (view d).moment c → (view d).may_leave c) (dig : List ℕ → List ℕ) (size : (text : List ℕ) → IsDigest (dig text))
    (m : Message) (time : Option ℕ) (old mid : Store D g) (root : RootRecord) (same : IsSameStore view old mid)
    (clean : staged_of old ≡ []) (later : (view (store_disk old)).faults ≤ (view (store_disk mid)).faults) where
  abbrev finds : Image → Found Reception
  finds ps = found_reception dig ps root.name root.head root.archive root.time m time

  -- and met a fault
  pub taken_fault : (r : Refusal) → IsFault r → ((ps : Image) → store_list view old ≡ Some ps → SaysOf service_refusals
      (service_refusals r) (finds ps)) → (is_of_disk (service_refusals r) ≡ false → is_broken mid ≡ false)
      → (is_of_disk (service_refusals r) ≡ true → Rose (view (store_disk old)).faults (view (store_disk mid)).faults)
      → TakesIn dig view m time old mid root root (Err r)
  taken_fault r fault says good rose =
      taken_err view only_now dig m time old mid root same r (inl fault) (λ ps list. fault_answered dig ps root m time
      root.head root.archive r fault (finds ps) (says ps list)) (still_whole r fault (is_broken mid) good)
      (λ h rest other. (
        (λ no. absurd (no fault)),
        (λ bad. no_bad r (finds rest.pages) _ (reception_kept dig rest.pages h root rest.keeps.whole m root.name time)
            (says rest.pages (told_list view root_kind old (written_record root rest.pages) rest.rests clean)) bad),
      ))
      (λ is. rose (ap (λ (q : Refusal). is_of_disk (service_refusals q)) is)) later

  -- and the message is refused
  module _ (x : Reception) (found : (ps : Image) → store_list view old ≡ Some ps → finds ps ≡ Is x)
      (unbroken : is_broken mid ≡ false) where
    pub taken_refused : (r : Refusal) → x ≡ Refuse r → TellsOfMessage dig root.head.step root.time time m r
        → TakesIn dig view m time old mid root root (Err r)
    taken_refused r is tells =
        let told = tells_told dig root.head.step root.time time m r tells in
        taken_err view only_now dig m time old mid root same r (inr tells)
        (λ ps list. subst (ReceivesAs dig ps root m time root.head root.archive (Err r))
        (sym (found ps list ∙ ap (λ (y : Reception). Is y) is)) (table_found r (Is (Err r)) told.0 refl))
        (inr unbroken)
        (λ h rest other. (
          (λ no. refused_so dig rest.pages h root rest.keeps.whole m time rest.keeps.named other x
              (found rest.pages (told_list view root_kind old (written_record root rest.pages) rest.rests clean)) r is),
          (λ bad. told.0 (is_bad_fault r bad)),
        ))
        (λ fault. absurd (told.0 (subst IsFault (sym fault) tt))) later

    -- its thread is known, and the receipt was read
    module _ (archived : ℕ) (is : x ≡ Known archived) (is_step : IsStep archived) (new : Store D g)
        (same_now : IsSameStore view old new)
        (later_now : (view (store_disk old)).faults ≤ (view (store_disk new)).faults) where
      as_known : (result : Result Receipt Refusal) (ps : Image) → store_list view old ≡ Some ps → IsFoundAnswer result
          (found_receipt dig ps root.name root.head archived m.thread) → ReceivesAs dig ps root m time root.head
          root.archive result (finds ps)
      as_known result ps list answer = subst (ReceivesAs dig ps root m time root.head root.archive result)
          (sym (found ps list ∙ ap (λ (y : Reception). Is y) is)) answer

      pub taken_receipt : (result : Result Receipt Refusal) → ((ps : Image) → store_list view old ≡ Some ps
          → IsFoundAnswer result (found_receipt dig ps root.name root.head archived m.thread)) → IfErr result IsFault
          → IfOk result (λ receipt. (receipt.thread ≡ m.thread) × (receipt.by.from ≡ root.name)
          × (receipt.by.step ≡ archived) × (archived ≤ root.head.step))
          → (is_failed service_refusals result ≡ false → is_broken new ≡ false)
          → (is_failed service_refusals result ≡ true → Rose (view (store_disk old)).faults
          (view (store_disk new)).faults) → TakesIn dig view m time old new root root result
      taken_receipt (Ok receipt) answer own by good rose =
          taken_known view only_now dig m time old new root same_now receipt (λ ps list. as_known (Ok receipt) ps list
          (answer ps list)) (good refl) (by.0, by.1) (subst IsStep (sym by.2) is_step)
          (let step = by.2 in let low = by.3 in omega (arith, step, low))
          (λ h rest other.
          let list = told_list view root_kind old (written_record root rest.pages) rest.rests clean in
          let ps = rest.pages in
          (known_so dig ps h root rest.keeps.whole m time rest.keeps.named other x (found ps list) size archived is).1
          receipt (answer ps list))
          later_now
      taken_receipt (Err r) answer own by good rose =
          taken_err view only_now dig m time old new root same_now r (inl own)
          (λ ps list. as_known (Err r) ps list (answer ps list)) (still_whole r own (is_broken new) good)
          (λ h rest other. (
            (λ no. absurd (no own)),
            (λ bad.
                let list = told_list view root_kind old (written_record root rest.pages) rest.rests clean in
                let ps = rest.pages in
                no_bad_receipt r (found_receipt dig ps root.name root.head archived m.thread) _
                (known_so dig ps h root rest.keeps.whole m time rest.keeps.named other x (found ps list) size archived
                is).0 (answer ps list) bad),
          ))
          (λ fault. rose (ap (λ (q : Refusal). is_of_disk (service_refusals q)) fault)) later_now

    -- it was archived
    module _ (is : x ≡ Archive) (linked : IsLinked m) (is_thread : IsThread m.thread) (within : IsTimeWithinLimits time)
        (room : (root.head.step < LAST_STEP) × (clock_refusal root.time time ≡ None))
        (list_kept : store_list view mid ≡ store_list view old) (new : Store D g) (after : RootRecord) where
      may : (h : History) → StoreServes dig view old root h → m.thread.from ≢ root.name → MayArchive h m.thread time
      may h rest other =
          may_so dig rest.pages h root rest.keeps.whole m time rest.keeps.named other x
          (found rest.pages (told_list view root_kind old (written_record root rest.pages) rest.rests clean)) is linked
          is_thread within room

      becomes_so : (h : History) → StoreServes dig view old root h → m.thread.from ≢ root.name
          → received_as dig h m time ≡ Archive
      becomes_so h rest other =
          received_is dig rest.pages h root rest.keeps.whole m time rest.keeps.named other x
          (found rest.pages (told_list view root_kind old (written_record root rest.pages) rest.rests clean)) ∙ is

      abbrev OfResult : Result Receipt Refusal → Type 0
      OfResult result = IfOk result (λ receipt. (after ≡ next_record root after.head after.archive (root.threads + 1)
          time) × (after.head.step ≡ root.head.step + 1) × (receipt ≡ receipt_at root.name after.head m.thread))

      abbrev IsNext : (w next : Written RootRecord) → Type 0
      IsNext = AddsThread dig m.thread time

      abbrev OfWritten : Result Receipt Refusal → Type 0
      OfWritten result = (ps : Image) → RestsWith view root_kind mid (written_record root ps) → CommitsRoot view IsNext
          (IsReceiptOfNext dig m.thread time) mid new root after result ps

      -- since before the archive was read
      wrote : (result : Result Receipt Refusal) → OfWritten result → (ps : Image) → RestsWith view root_kind old
          (written_record root ps) → CommitsRoot view IsNext (IsReceiptOfNext dig m.thread time) old new root after
          result ps
      wrote result commits ps rest = since_read view only_now IsNext (IsReceiptOfNext dig m.thread time) old mid new
          root after result ps same rest (λ next to. to) (λ receipt next of. of)
          (commits ps (still_rests view root_kind old mid (written_record root ps) same rest))

      is_written : (result : Result Receipt Refusal) → OfWritten result → (ps : Image) → RestsWith view root_kind old
          (written_record root ps) → CommitsRoot view (ArchivesTo dig m time) (IsReceiptOfRecord dig m time) old new
          root after result ps
      is_written result commits ps rest =
          let accepted : finds ps ≡ Is Archive = found ps (told_list view root_kind old (written_record root ps) rest
          clean) ∙ ap (λ (y : Reception). Is y) is in
          let archives : (next : Written RootRecord) → AddsThread dig m.thread time (written_record root ps) next
          → ArchivesTo dig m time (written_record root ps) next =
          λ next adds. record { accepted = accepted; adds = adds } in
          since_read view only_now (ArchivesTo dig m time) (IsReceiptOfRecord dig m time) old mid new root after result
          ps same rest archives (λ receipt next of. inr (of.0, archives next of.1))
          (commits ps (still_rests view root_kind old mid (written_record root ps) same rest))

      -- the next history
      kept_thread : (h : History) (rest : StoreServes dig view old root h) → m.thread.from ≢ root.name
          → (next : Written RootRecord) → AddsThread dig m.thread time (written_record root rest.pages) next
          → KeepsThread dig size (written_record root rest.pages) next h rest.keeps m.thread time
      kept_thread h rest other next to =
          keeps_thread dig size (written_record root rest.pages) next h rest.keeps m.thread time to (may h rest other)
          room.0 (few_written view old (written_record root rest.pages) rest.rests)

      -- the receipt is that of the next history's last step
      own_receipt : (h next : History) (receipt : Receipt) → length h.steps ≡ root.head.step → OfResult (Ok receipt)
          → StoreServes dig view new after next → receipt ≡ receipt_by dig next (suc (length h.steps)) m.thread
      own_receipt h next receipt ends of rest =
          let step : length next.steps ≡ suc (length h.steps) = (let own = rest.keeps.whole.steps.step in let one =
          of.1 in omega (arith, own, one, ends)) in
          let named : root.name ≡ next.name = sym (rest.keeps.named ∙ ap (λ (r : RootRecord). r.name) of.0) in
          of.2
          ∙ (λ j. record {
            by = record {
              from = named j;
              step = (rest.keeps.whole.steps.step ∙ step) j;
              auth = (rest.keeps.whole.steps.auth ∙ ap (auth dig next) step) j;
            };
            thread = m.thread;
          })

      -- after a refusal
      still : (r : Refusal) → after ≡ root → (r ≡ DiskFault) ⊎ IsSameStore view mid new → (h : History)
          → StoreServes dig view old root h → (r ≡ DiskFault) ⊎ StoreServes dig view new after h
      still r stays either h rest =
          ⊎_elim (λ is_fault. inl is_fault)
          (λ same_too. inr (subst (λ (x : RootRecord). StoreServes dig view new x h) (sym stays)
          (read_serves view only_now dig old new root h (is_same_on view old mid new same same_too) rest))) either

      same_so : (r : Refusal) → (r ≡ DiskFault) ⊎ IsSameStore view mid new → (r ≡ DiskFault) ⊎ IsSameStore view old new
      same_so r either = ⊎_elim (λ is_fault. inl is_fault) (λ same_too. inr (is_same_on view old mid new same same_too))
          either

      abbrev Archived : Result Receipt Refusal → Type 0
      Archived result = (ps : Image) → store_list view mid ≡ Some ps → AnswersArchived dig ps root m.thread time
          after.head after.archive result

      as_archive : (result : Result Receipt Refusal) → Archived result → (ps : Image) → store_list view old ≡ Some ps
          → ReceivesAs dig ps root m time after.head after.archive result (finds ps)
      as_archive result answer ps list = subst (ReceivesAs dig ps root m time after.head after.archive result)
          (sym (found ps list ∙ ap (λ (y : Reception). Is y) is)) (answer ps (list_kept ∙ list))

      rose_on : Rose (view (store_disk mid)).faults (view (store_disk new)).faults → Rose (view (store_disk old)).faults
          (view (store_disk new)).faults
      rose_on rose = omega (arith, rose, later)

      -- what is said of a refused step by the next history
      module _ (r : Refusal) (own : IsFault r) (stays : after ≡ root) (same_after : (r ≡ DiskFault) ⊎ IsSameStore view
          mid new) (good : IsBadPageRefusal r → (h : History) → StoreServes dig view mid root h → MayArchive h m.thread
          time → ⊥)
          (h : History) (rest : StoreServes dig view old root h) (other : m.thread.from ≢ root.name)
          (it : CommitsRoot view IsNext (IsReceiptOfNext dig m.thread time) old new root after (fails r)
          rest.pages) where
        refused_with : (next : History) → (next ≡ h) ⊎ ((received_as dig h m time ≡ Archive) × Archives m.thread time h
            next × IsSound next)
            → (it.next ≡ written_record root rest.pages) ⊎ KeepsHistory dig it.next.pages it.next.root next
            → next.name ≡ root.name → StepsIn dig view m time old new root after (Err r) h
        refused_with next goes either named = record {
          next = next;
          is_next = goes;
          any_moment = written_leaves view only_now IsNext (IsReceiptOfNext dig m.thread time) dig old new root after
              (Err r) h next rest it either named;
          told = written_tells view only_now IsNext (IsReceiptOfNext dig m.thread time) dig old new root after (Err r) h
              next rest it either named;
          done = tt;
          kept = still r stays same_after h rest;
          refused = λ no. absurd (no own);
          good = λ bad. good bad h (read_serves view only_now dig old mid root h same rest) (may h rest other);
        }

        refused_steps : StepsIn dig view m time old new root after (Err r) h
        refused_steps = ⊎_elim
            (λ stayed. refused_with h (inl refl) (inl stayed) rest.keeps.named)
            (λ to. let next = kept_thread h rest other it.next to in
            refused_with (plus h next.step)
            (inr (becomes_so h rest other, (next.step, refl, next.content, next.at_time), next.keeps_next.sound))
            (inr next.keeps_next) rest.keeps.named) it.is_next

      pub taken_archived : (result : Result Receipt Refusal) → OfResult result → IfErr result IsFault → OnErr result
          (after ≡ root) → OfWritten result → IfErr result (λ r. (r ≡ DiskFault) ⊎ IsSameStore view mid new)
          → Archived result
          → IfErr result (λ r. IsBadPageRefusal r → (h : History) → StoreServes dig view mid root h
          → MayArchive h m.thread time → ⊥)
          → (result ≡ Err DiskFault) ⊎ (is_broken new ≡ false)
          → (result ≡ Err DiskFault → Rose (view (store_disk mid)).faults (view (store_disk new)).faults)
          → (view (store_disk mid)).faults ≤ (view (store_disk new)).faults → TakesIn dig view m time old new root after
          result
      taken_archived (Ok receipt) of own kept commits same_after answer good whole fault later_on = record {
        tells = tt;
        answer = as_archive (Ok receipt) answer;
        steps = λ h rest other.
            let accepted = becomes_so h rest other in
            let it = wrote (Ok receipt) commits rest.pages rest.rests in
            let next = kept_thread h rest other it.next it.done.0.1 in
            let served = written_serves view only_now IsNext (IsReceiptOfNext dig m.thread time) dig old new root after
            (Ok receipt) h (plus h next.step) rest it (inr next.keeps_next) rest.keeps.named next.keeps_next
            (it.done.1, it.done.2) in
            let archives : Archives m.thread time h (plus h next.step) = (next.step, refl, next.content, next.at_time)
            in
            record {
              next = plus h next.step;
              is_next = inr (accepted, archives, next.keeps_next.sound);
              any_moment = written_leaves view only_now IsNext (IsReceiptOfNext dig m.thread time) dig old new root
                  after (Ok receipt) h (plus h next.step) rest it (inr next.keeps_next) rest.keeps.named;
              told = written_tells view only_now IsNext (IsReceiptOfNext dig m.thread time) dig old new root after
                  (Ok receipt) h (plus h next.step) rest it (inr next.keeps_next) rest.keeps.named;
              done = (
                subst (λ (y : Reception). RepliesTo dig h m time (OfReceipt receipt) (plus h next.step) y)
                    (sym accepted) (
                      archives,
                      next.keeps_next.sound,
                      ap OfReceipt (own_receipt h (plus h next.step) receipt (sym rest.keeps.whole.steps.step) of
                          served),
                    ),
                served,
              );
              kept = tt;
              refused = tt;
              good = tt;
            };
        written = is_written (Ok receipt) commits;
        receipt = (ap (λ (x : Receipt). x.thread) of.2, ap (λ (x : Receipt). x.by.from) of.2);
        record_is = inr (of.2, of.1, of.0);
        kept = tt;
        same = tt;
        whole = whole;
        fault = λ e. rose_on (fault e);
        later = omega (arith, later, later_on);
      }
      taken_archived (Err r) of own kept commits same_after answer good whole fault later_on = record {
        tells = inl own;
        answer = as_archive (Err r) answer;
        steps = λ h rest other. refused_steps r own kept same_after good h rest other
            (wrote (Err r) commits rest.pages rest.rests);
        written = is_written (Err r) commits;
        receipt = tt;
        record_is = tt;
        kept = kept;
        same = same_so r same_after;
        whole = whole;
        fault = λ e. rose_on (fault e);
        later = omega (arith, later, later_on);
      }
