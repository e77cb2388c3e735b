-- From what a service answers to a call that only reads, each of whose refusals is its table's or a fault, or one that
-- it finds, to what the
-- command comes to.
use Rattle.std.proofs.Common.{◌≡◌, ℕ, refl, sym, ◌⊎◌, ⊎_elim}
use Rattle.std.specs.Prelude.{Option, Some, None, Result, Ok, Err}
use Rattle.sha2.specs.Sha256.{sha256}
use Rattle.tw_base.specs.kinds.Faults.{Rose}
use Rattle.tw_base.specs.history.History.{History}
use Rattle.tw_disk.specs.Found.{Found}
use Rattle.tw_disk.specs.Found.Found.{Is}
use Rattle.tw_disk.specs.Image.{Image}
use Rattle.tw_base.specs.declared.history.refusal.Refusal.{Refusal}
use Rattle.tw_base.specs.declared.history.refusal.Refusal.TheVariants as service
use Rattle.tw_answers.specs.declared.root.RootRecord.{RootRecord}
use Rattle.tw_answers.specs.Finds.{IsRefusalFound}
use Rattle.tw_service.specs.Machine.{AnswersByMachine, Call, Reply}
use Rattle.tw_answers.specs.Refusals.{IsFault}
use Rattle.tw_answers.proofs.TableAnswers.{Of}
use Rattle.tw_text.specs.declared.fault.CommandFault.{CommandFault}
use Rattle.tw_diskcmd.specs.Answers.{ComesTo, IsOpened, MachineAnswers, TableAnswersOr}
use Rattle.tw_diskcmd.specs.Disks.{FoundDisk, ReadsAsHistory}
use Rattle.tw_diskcmd.specs.Faults.{fault_of_service}
use Rattle.tw_diskcmd.proofs.Results.{CanCome, IsByTable, by_table_or, done, fault_can, machine_refuses, no_never}
use Rattle.tw_diskcmd.proofs.Results.{refused, same_err}

module _ {X : Type 0} (finds : RootRecord → Image → Found (Result X Refusal)) (table : (last : ℕ) → Option Refusal)
    (call : History → Call) (Makes : X → History → Type 0)
    (t : FoundDisk) (root : RootRecord) (pages : Option Image) (opens : IsOpened t.found root pages) where
  -- of a call that has refusals besides, which it finds
  module _ (Further : Refusal → Type 0) (further_can : (q : Refusal) → Further q → CanCome q) where
    abbrev ComesOr : Result X CommandFault → Type 0
    ComesOr result = ComesTo finds (TableAnswersOr Further table) (MachineAnswers call Makes) t result

    abbrev Else : Refusal → Type 0
    Else q = IsFault q ⊎ Further q

    pub further_done : (x : X) → table root.head.step ≡ None → ((ps : Image) → pages ≡ Some ps
        → finds root ps ≡ Is (Ok x)) → ((h : History) → ReadsAsHistory t.found h → Makes x h) → ComesOr (Ok x)
    further_done x allows is makes = done finds (TableAnswersOr Further table) (MachineAnswers call Makes) t root pages
        opens x is (root.head.step, allows) makes

    pub further_refused : (T : Type 0) (reply : T → Reply) (NewServes : History → Type 0) (r : Refusal)
        (came : CommandFault) → came ≡ fault_of_service r → Of CanCome (table root.head.step)
        → IsByTable {X = T} Else (table root.head.step) (Err r) → ((h : History) → ReadsAsHistory t.found h
        → AnswersByMachine sha256 h (call h) reply (Err r) NewServes)
        → (r ≡ service.DiskFault → Rose t.before t.after)
        → ((ps : Image) → pages ≡ Some ps → IsRefusalFound r (finds root ps)) → ComesOr (Err came)
    further_refused T reply NewServes r came is can by machine rose found =
        refused finds (TableAnswersOr Further table) (MachineAnswers call Makes) t root pages opens r came is
        (no_never T Else (table root.head.step) can (λ q. ⊎_elim (λ fault. fault_can q fault)
        (λ further. further_can q further)) r by)
        (λ same. rose (sym (same_err {X = X} r service.DiskFault same))) found
        (λ tells. by_table_or X Further table root.head.step T (table root.head.step) refl r tells by)
        (λ tells h reads. machine_refuses h (call h) reply NewServes r tells (machine h reads))
