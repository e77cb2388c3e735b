-- What a call of a service makes that only reads.
use Rattle.std.specs.Prelude.{◌≡◌, ◌⊎◌, ◌↔◌, ℕ, ◌≤◌, List, Option, Some, Result, Err, IfErr, IfOk, IsTrue, MatchOption, false}
use Rattle.tw_base.specs.history.History.{History}
use Rattle.tw_base.specs.kinds.Faults.{Rose}
use Rattle.tw_disk.specs.Disk.{DiskView, LeavesOnly}
use Rattle.tw_disk.specs.Found.{Found}
use Rattle.tw_disk.specs.Image.{Image}
use Rattle.tw_pages.specs.Records.{IsWritten, written_record}
use Rattle.tw_base.specs.declared.history.refusal.Refusal.{Refusal}
use Rattle.tw_answers.specs.Roots.{root_kind}
use Rattle.tw_base.specs.declared.history.refusal.Refusal.TheVariants.{DiskFault}
use Rattle.tw_service.specs.declared.service.Service.{Service}
use Rattle.tw_answers.specs.Finds.{IsFoundAnswer}
use Rattle.tw_service.specs.Answered.{HasFewFor, IsAcceptedFor}
use Rattle.tw_service.specs.Machine.{AnswersByMachine, Call, Makes, Reply}
use Rattle.tw_service.specs.Machine.Call.{Ask}
use Rattle.tw_service.specs.Machine.Reply.{OfBytes}
use Rattle.tw_base.specs.declared.history.question.Question.{Question}
use Rattle.tw_service.specs.Questions.{Besides, found_answer, question_refusal}
use Rattle.tw_answers.specs.Refusals.{IsFault}
use Rattle.tw_service.specs.Serves.{HasSameDisk, IsOver, Serves, disk_of, has_failed, head_of, name_of, pages_of, record_of, steps_of}
use Rattle.tw_service.specs.Stands.{StandsFor}

module _ {D H : Type 0} {g : _} {k : _} (dig : List ℕ → List ℕ) (view : D → DiskView) where
  -- the call, whose table says this, over pages in which this is found, maybe with a refusal of its own
  pub record AsksOr {T : Type 0} (Own : Refusal → Type 0) (call : Call) (reply : T → Reply) (refusal : Option Refusal) (found : Image → Found (Result T Refusal)) (old new : Service D H g k) (result : Result T Refusal) : Type 0 where
    -- each refusal of the table comes exactly where its line is the first that stands; else only those of its own and faults of the disk,
    -- of its pages and of memory are left
    pub table : MatchOption refusal (IfErr result (λ why. IsFault why ⊎ Own why)) (λ why. result ≡ Err why)
    -- over told pages, whatever they keep, the answer is what is found in them, a disk fault and want of memory excepted
    pub answer : (ps : Image) → pages_of view old ≡ Some ps → IsFoundAnswer result (found ps)
    -- where a history is served and no earlier call met a disk fault, the call is a step of the machine, with the same exceptions
    pub machine : has_failed old ≡ false → (h : History) → Serves dig view old h → AnswersByMachine dig h call reply result (Serves dig view new)
    -- whatever the answer, the history is served as before, at rest, and nothing is written
    pub same : (h : History) → Serves dig view old h → Serves dig view new h × LeavesOnly (view (disk_of old)) (view (disk_of new)) (λ i. StandsFor dig i (name_of old) h)
    pub unwritten : HasSameDisk view old new
    -- whatever its pages keep, it is at rest as before, and each image opens with its record and them
    pub over : (ps : Image) → IsOver view old ps → IsOver view new ps × LeavesOnly (view (disk_of old)) (view (disk_of new)) (IsWritten root_kind (written_record (record_of old) ps))
    -- the root record, and with it name, head, archive and greatest time, is as before
    pub kept : record_of new ≡ record_of old
    -- that a call answered a disk fault is remembered, and nothing else is remembered so
    pub broken : IsTrue (has_failed new) ↔ (IsTrue (has_failed old) ⊎ (result ≡ Err DiskFault))
    -- a disk fault comes only where the disk's count of faults rose, which never falls
    pub fault : result ≡ Err DiskFault → Rose (view (disk_of old)).faults (view (disk_of new)).faults
    pub later : (view (disk_of old)).faults ≤ (view (disk_of new)).faults

  -- the same of a call that has no refusal of its own
  abbrev pub Asks : {T : Type 0} → (call : Call) (reply : T → Reply) (refusal : Option Refusal) (found : Image → Found (Result T Refusal)) (old new : Service D H g k) (result : Result T Refusal) → Type 0
  Asks call reply refusal found old new result = AsksOr (λ why. ⊥) call reply refusal found old new result

  -- what asking a question makes: all of the above, and the bytes of an answer are what the history makes of it
  pub record AsksFor (q : Question) (old new : Service D H g k) (result : Result (List ℕ) Refusal) : Type 0 where
    pub asks : AsksOr (Besides q) (Ask q) (λ bytes. OfBytes bytes) (question_refusal (has_failed old) (steps_of old) q)
        (λ ps. found_answer dig ps (name_of old) (head_of old) (has_failed old) q) old new result
    pub made : IfOk result (λ bytes. (h : History) → Serves dig view old h → Makes dig h q bytes)
    -- a proof is accepted under every list of anchors that has the history's authenticator of the top, and a file is read as the history
    pub accepted : IfOk result (λ bytes. (h : History) → Serves dig view old h → IsAcceptedFor dig h q bytes)
    -- the tree proof that a thread was received, or wasn't, and that of a map file, has at most 9 nodes for each level of the tree, and at most 99;
    -- it follows of `made`, since the history fixes the bytes, and of the trees that the pages keep
    pub few : IfOk result (λ bytes. (h : History) → Serves dig view old h → HasFewFor h q bytes)
