-- What holds of each command over a service's disk: each of its faults has its cause, and whatever it leaves is safe.
use Rattle.std.proofs.Common.{◌≡◌, ℕ, List, inl, inr, ⊎_elim}
use Rattle.std.specs.Prelude.{Option, Some}
use Rattle.sha2.specs.Sha256.{sha256}
use Rattle.tw_base.specs.declared.history.question.Question.{Question}
use Rattle.tw_disk.specs.Disk.{DiskView}
use Rattle.tw_disk.specs.Image.{Image}
use Rattle.tw_answers.specs.Roots.{root_kind}
use Rattle.tw_outside.specs.Asked.{Asked}
use Rattle.tw_outside.specs.Files.{Files}
use Rattle.tw_service.specs.Machine.{last_thread}
use Rattle.tw_service.specs.Machine.Call.{Append, Receive}
use Rattle.tw_service.specs.Machine.Reply.{OfReceipt, OfThread}
use Rattle.tw_service.specs.Stands.{IsImageOfHistory, no_history}
use Rattle.tw_service.specs.Writing.{AppendsTo, ArchivesTo, IsReceiptOfRecord, IsThreadOfNext}
use Rattle.tw_diskcmd.specs.Comes.{FoundDisk}
use Rattle.tw_diskcmd.specs.Files.{IsBadMessageByte, IsMessageIn}
use Rattle.tw_diskcmd.specs.Leaves.{StaysOr}
use Rattle.tw_diskcmd.proofs.StoreCommandLaws.{HasCauses, IsSafe, file_causes, make_causes, making_is_safe}
use Rattle.tw_diskcmd.proofs.StoreCommandLaws.{reading_is_safe, writing_is_safe}
use Rattle.tw_diskcmd.specs.Appending.{AppendComes, AppendLeaves, AppendSafe, AreEventsOf, IsBadEventsByte}
use Rattle.tw_diskcmd.specs.Appending.{IsStepResult}
use Rattle.tw_diskcmd.specs.Asking.{AskComes}
use Rattle.tw_diskcmd.specs.Disks.{IsLeft, KeepsServiceDisk, NextBy, ReadLeavesHistory, StepsBy}
use Rattle.tw_diskcmd.specs.Init.{InitComes, InitLeaves, InitSafe}
use Rattle.tw_diskcmd.specs.Receiving.{IsReceived, ReceiveComes, ReceiveLeaves, ReceiveSafe}

module _ (a : Asked) (t : FoundDisk) where
  pub init_causes : (name : List ℕ) → HasCauses (IsImageOfHistory sha256) a t ⊥ (Unit {0}) (InitComes t name)
  init_causes name = make_causes (IsImageOfHistory sha256) a t (last_thread sha256 (no_history name))

  pub append_causes : (file : List ℕ) (time : Option ℕ) → HasCauses (IsImageOfHistory sha256) a t (Unit {0}) (Unit {0})
      (AppendComes a t file time)
  append_causes file time =
      file_causes (IsImageOfHistory sha256) a t file IsBadEventsByte (AreEventsOf a.told file)
      (λ events found came. IsStepResult found events time came) (λ events h reads why is. is.machine h reads)

  pub receive_causes : (file : List ℕ) (time : Option ℕ) → HasCauses (IsImageOfHistory sha256) a t (Unit {0}) (Unit {0})
      (ReceiveComes a t file time)
  receive_causes file time =
      file_causes (IsImageOfHistory sha256) a t file IsBadMessageByte (IsMessageIn a.told file)
      (λ m found came. IsReceived m time found came) (λ m h reads why is. is.machine h reads)

  pub ask_causes : (q : Question) → HasCauses (IsImageOfHistory sha256) a t ⊥ (Unit {0}) (AskComes t q)
  unfolding AskComes
  ask_causes q = record {
    input = λ came. absurd came;
    disk = λ rose. (tt, rose);
    serves = λ h reads why came. came.machine h reads;
    memory = tt;
  }

module _ {D : Type 0} (view : D → DiskView) (old new : D) where
  pub asking_is_safe : {X : Type 0} → IsSafe view old new {X = X} (ReadLeavesHistory view old new)
      (IsLeft view old new × KeepsServiceDisk view old new)
  asking_is_safe = reading_is_safe root_kind (IsImageOfHistory sha256) view old new

module _ {D : Type 0} (view : D → DiskView) (old new : D)
    (only_now : (d : D) (image : Image) → (view d).left_since (view d).moment image → (view d).may_leave image)
    (as_it_reads : (d : D) (image : Image) → (view d).content ≡ Some image → (view d).may_leave image) where
  pub init_is_safe : (name : List ℕ) → IsSafe view old new (InitLeaves view old new name) (InitSafe view old new name)
  init_is_safe name = making_is_safe root_kind (IsImageOfHistory sha256) view old new as_it_reads (no_history name)

  pub append_is_safe : (told : Option Files) (file : List ℕ) (time : Option ℕ)
      → IsSafe view old new (AppendLeaves view old new told file time) (AppendSafe view old new told file time)
  append_is_safe told file time =
      writing_is_safe root_kind (IsImageOfHistory sha256) view old new as_it_reads only_now (AreEventsOf told file)
      (λ events. NextBy (Append events time)) (λ events. StaysOr (AppendsTo sha256 events time))
      (λ events found came. IsStepResult found events time came) (λ events thread. StepsBy (Append events time)
      (OfThread thread)) (λ events thread. IsThreadOfNext sha256 events time thread)
      (λ events thread h next steps. steps.0) (λ events thread w next is. inr is.1)

  pub receive_is_safe : (told : Option Files) (file : List ℕ) (time : Option ℕ)
      → IsSafe view old new (ReceiveLeaves view old new told file time) (ReceiveSafe view old new told file time)
  receive_is_safe told file time =
      writing_is_safe root_kind (IsImageOfHistory sha256) view old new as_it_reads only_now (IsMessageIn told file)
      (λ m. NextBy (Receive m time)) (λ m. StaysOr (ArchivesTo sha256 m time))
      (λ m found came. IsReceived m time found came) (λ m receipt. StepsBy (Receive m time) (OfReceipt receipt))
      (λ m receipt. IsReceiptOfRecord sha256 m time receipt)
      (λ m receipt h next steps. steps.0) (λ m receipt w next is. ⊎_elim (λ same. inl same.0) (λ made. inr made.1) is)
