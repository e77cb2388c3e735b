-- From what a service answers to a message to what the command comes to.
use Rattle.std.proofs.Common.{◌≡◌, ◌∙◌, ℕ, ◌+◌, ◌<◌, ◌≤◌, Bool, false, refl, ap, sym, subst, inl, inr, ◌⊎◌}
use Rattle.std.specs.Prelude.{Option, Some, None, Result, Ok, Err, MatchOption}
use Rattle.sha2.specs.Sha256.{sha256}
use Rattle.tw_base.specs.declared.history.root.Root.{Root}
use Rattle.tw_base.specs.history.History.{History}
use Rattle.tw_base.specs.kinds.Faults.{Rose}
use Rattle.tw_disk.specs.Image.{Image}
use Rattle.tw_msg.specs.declared.message.Message.{Message}
use Rattle.tw_msg.specs.declared.receipt.Receipt.{Receipt}
use Rattle.tw_skiplist.specs.declared.head.Head.{Head}
use Rattle.tw_base.specs.declared.history.refusal.Refusal.{Refusal}
use Rattle.tw_base.specs.declared.history.refusal.Refusal.TheVariants as service
use Rattle.tw_answers.specs.declared.root.RootRecord.{RootRecord}
use Rattle.tw_answers.specs.Limits.{own_refusal}
use Rattle.tw_answers.specs.Refusals.{IsBadPageRefusal, IsFault}
use Rattle.tw_service.specs.Archiving.{ReceivesAs}
use Rattle.tw_service.specs.Finds.{found_reception}
use Rattle.tw_service.specs.Machine.{AnswersByMachine, IsStepOf}
use Rattle.tw_service.specs.Machine.Call.{Receive}
use Rattle.tw_service.specs.Machine.Reply.{OfReceipt}
use Rattle.tw_service.specs.Receiving.{TellsOfMessage}
use Rattle.tw_text.specs.declared.fault.CommandFault.{CommandFault}
use Rattle.tw_diskcmd.specs.Answers.{IsOpened}
use Rattle.tw_diskcmd.specs.Disks.{FoundDisk, ReadsAsHistory}
use Rattle.tw_diskcmd.specs.Faults.{fault_of_service}
use Rattle.tw_diskcmd.specs.Receiving.{AnswersMessage, IsReceivedOver, MachineReceives, ReceivedMessageComes}
use Rattle.tw_diskcmd.specs.Receiving.{RefusesMessage, TableReceives}
use Rattle.tw_diskcmd.proofs.Results.{CanCome, IsByTable, TellsOfDisk, allowed, fault_can, machine_refuses, no_never}
use Rattle.tw_diskcmd.proofs.Results.{opened_refusal, opened_result, same_err}
use Rattle.tw_diskcmd.proofs.Tables.{own_can}

module _ (m : Message) (time : Option ℕ) (t : FoundDisk) (is_broken : Bool) (root : RootRecord) (pages : Option Image)
    (opens : IsOpened t.found root pages) (whole : is_broken ≡ false)
    (OldServes NewServes : History → Type 0) (serves : (h : History) → ReadsAsHistory t.found h → OldServes h)
    (head : Head) (archive : Root) where
  abbrev own : Bool → Option Refusal
  own b = own_refusal b root.name m.thread.from

  abbrev Tells : Refusal → Type 0
  Tells r = TellsOfMessage sha256 root.head.step root.time time m r

  abbrev Else : Refusal → Type 0
  Else r = IsFault r ⊎ Tells r

  abbrev Table : Option Refusal → Result Receipt Refusal → Type 0
  Table o result = IsByTable Else o result

  -- what becomes of the message in these pages, and the answer by that
  abbrev Becomes : Result Receipt Refusal → Image → Type 0
  Becomes result ps = ReceivesAs sha256 ps root m time head archive result
      (found_reception sha256 ps root.name root.head root.archive root.time m time)

  abbrev Found : Result Receipt Refusal → Type 0
  Found result = own is_broken ≡ None → (ps : Image) → pages ≡ Some ps → Becomes result ps

  whole_table : (result : Result Receipt Refusal) → Table (own is_broken) result → Table (own false) result
  whole_table result table = subst (λ (b : Bool). Table (own b) result) whole table

  answers : (result : Result Receipt Refusal) → Table (own is_broken) result → Found result → (ps : Image)
      → pages ≡ Some ps → AnswersMessage m time root ps result
  answers result table found ps told = by (own false) refl (whole_table result table)
    where
      by : (o : Option Refusal) → own false ≡ o → Table o result → MatchOption o ((h : Head) × (a : Root)
          × ReceivesAs sha256 ps root m time h a result (found_reception sha256 ps root.name root.head root.archive
          root.time m time)) (λ r. result ≡ Err r)
      by None is table = (head, archive, found (ap own whole ∙ is) ps told)
      by (Some q) is table = table

  -- ---- what the table says

  bad_page : (r : Refusal) → TellsOfDisk r → IsFault r → IsBadPageRefusal r
  bad_page (service.BadPage page) tells fault = tt
  bad_page service.DiskFault tells fault = absurd tells
  bad_page service.NoMemory tells fault = absurd tells
  bad_page _ tells fault = absurd fault

  of_page : (r : Refusal) → IsBadPageRefusal r → TableReceives m time (Err (fault_of_service r))
  of_page (service.BadPage page) is = tt
  of_page _ is = absurd is

  of_record : (r : Refusal) → RefusesMessage m time root r → TableReceives m time (Err (fault_of_service r))
  of_record (service.BadPage page) is = tt
  of_record r is = (r, refl, (root, is))

  refuses : (o : Option Refusal) → own false ≡ o → (r : Refusal) → TellsOfDisk r → Table o (Err r)
      → TableReceives m time (Err (fault_of_service r))
  refuses None is r tells (inl fault) = of_page r (bad_page r tells fault)
  refuses None is r tells (inr of) = of_record r (subst (λ (o : Option Refusal). MatchOption o (Tells r) (λ q. r ≡ q))
      (sym is) of)
  refuses (Some q) is r tells same = of_record r (subst (λ (o : Option Refusal). MatchOption o (Tells r) (λ q. r ≡ q))
      (sym is) (sym (same_err {X = Receipt} r q same)))

  else_can : (r : Refusal) → Else r → CanCome r
  else_can r (inl fault) = fault_can r fault
  else_can service.Reopen (inr of) = λ never. of
  else_can (service.Malformed place) (inr of) = λ never. of
  else_can _ (inr of) = λ never. never

  -- ---- what the command comes to

  pub received_done : (receipt : Receipt) → Table (own is_broken) (Ok receipt) → Found (Ok receipt)
      → (receipt.thread ≡ m.thread) × (receipt.by.from ≡ root.name)
      → (0 < receipt.by.step) × (receipt.by.step ≤ root.head.step + 1)
      → ((h : History) → OldServes h → (next : History) × IsStepOf sha256 h (Receive m time) (OfReceipt receipt) next)
      → ReceivedMessageComes m time t (Ok receipt)
  received_done receipt table found of step moves =
      opened_result (IsReceivedOver m time) (TableReceives m time) (MachineReceives m time) t root pages opens
      (Ok receipt)
      (λ ps told. (Ok receipt, answers (Ok receipt) table found ps told, refl)) (
        root,
        record {
          other = allowed Else (own false) receipt (whole_table (Ok receipt) table);
          by = of.1;
          step = step;
          thread = of.0;
        },
      )
      (λ h reads. moves h (serves h reads))

  pub received_refused : (r : Refusal) (came : CommandFault) → came ≡ fault_of_service r → Table (own is_broken) (Err r)
      → Found (Err r)
      → ((h : History) → OldServes h → AnswersByMachine sha256 h (Receive m time) (λ x. OfReceipt x) (Err r) NewServes)
      → (◌≡◌ {A = Result Receipt Refusal} (Err r) (Err service.DiskFault) → Rose t.before t.after)
      → ReceivedMessageComes m time t (Err came)
  received_refused r came is table found machine rose =
      opened_refusal (IsReceivedOver m time) (TableReceives m time) (MachineReceives m time) t root pages opens r came
      is
      (no_never Receipt Else (own false) (own_can root.name m.thread.from) else_can r (whole_table (Err r) table)) rose
      (λ tells.
      opened_result (IsReceivedOver m time) (TableReceives m time) (MachineReceives m time) t root pages opens
      (Err (fault_of_service r))
      (λ ps told. (Err r, answers (Err r) table found ps told, refl))
      (refuses (own false) refl r tells (whole_table (Err r) table))
      (λ h reads. machine_refuses h (Receive m time) (λ x. OfReceipt x) NewServes r tells (machine h (serves h reads))))
