-- What is shown behind a first reading, where a proof is made of it: a refusal is handed on, and else the proof is written.
use Rattle.std.proofs.Common.{◌≡◌, ◌≤◌, ◌∙◌, ℕ, List, Bool, false, ap, arith, refl, sym, subst}
use Rattle.std.specs.Prelude.{Result, Ok, Err, IfErr, IsErrAnd, Some}
use Rattle.tw_disk.specs.Answers.{AnswersOr, FaultSort, ReadsBy, RefusesAs, is_failed, is_of_disk}
use Rattle.tw_disk.specs.Answers.FaultSort.{OfPage, OfCall}
use Rattle.tw_disk.specs.Found.{Found, ◌>>=◌}
use Rattle.tw_disk.specs.Found.Found.{Is}
use Rattle.tw_disk.specs.Image.{Image}
use Rattle.tw_disk.specs.Pages.{OnlyReads, PagesView}
use Rattle.tw_disk.proofs.FoundLaws.{is_on}
use Rattle.tw_disk.proofs.ReadingLaws.{only_reads_on}
use Rattle.tw_base.specs.declared.history.refusal.Refusal.{Refusal}
use Rattle.tw_answers.specs.Finds.{written_found}
use Rattle.tw_answers.specs.Refusals.{service_refusals}

module _ {X : Type 0} (bytes_of : X → List ℕ) where
  stays : (sort : FaultSort) (fault : Refusal) (found : Found (Result X Refusal)) → RefusesAs service_refusals sort
      fault found → RefusesAs service_refusals sort fault (found >>= written_found bytes_of)
  stays (OfPage page) fault found is = ap (λ (f : Found (Result X Refusal)). f >>= written_found bytes_of) is
  stays OfCall fault found is = ap (λ (f : Found (Result X Refusal)). f >>= written_found bytes_of) is
  stays _ fault found is = tt

  -- what is shown and written is refused as what is shown is
  pub handed-answer : (result : Result (List ℕ) Refusal) (fault : Refusal) (found : Found (Result X Refusal))
      → IsErrAnd result (λ e. e ≡ fault) → RefusesAs service_refusals (service_refusals fault) fault found
      → AnswersOr service_refusals (λ (b : List ℕ). b) result (found >>= written_found bytes_of)
  handed-answer (Ok b) fault found is there = absurd is
  handed-answer (Err e) fault found is there =
      subst (λ (f : Refusal). RefusesAs service_refusals (service_refusals f) f (found >>= written_found bytes_of))
      (sym is) (stays (service_refusals fault) fault found there)

pub handed-own : (result : Result (List ℕ) Refusal) (fault : Refusal) (Own : Refusal → Type 0)
    → IsErrAnd result (λ e. e ≡ fault) → Own fault → IfErr result Own
handed-own (Ok b) fault Own is own = absurd is
handed-own (Err e) fault Own is own = subst Own (sym is) own

-- it tells of the disk where it did
pub handed-failed : (result : Result (List ℕ) Refusal) (fault : Refusal) → IsErrAnd result (λ e. e ≡ fault)
    → is_failed service_refusals result ≡ is_of_disk (service_refusals fault)
handed-failed (Ok b) fault is = absurd is
handed-failed (Err e) fault is = ap (λ (f : Refusal). is_of_disk (service_refusals f)) is

-- where what is shown behind a first reading is refused, so is the whole
pub handed-reads : {P X : Type 0} (view : P → PagesView) (same : P → P → Type 0)
    (same_on : (x y z : P) → same x y → same y z → same x z) (old mid new : P) (bytes_of : X → List ℕ)
    (result : Result (List ℕ) Refusal) (fault : Refusal) (Own : Refusal → Type 0)
    (found : Image → Found (Result (List ℕ) Refusal)) (shown : Image → Found (Result X Refusal))
    → IsErrAnd result (λ e. e ≡ fault) → OnlyReads view same old mid (◌≡◌ {A = Bool} false false)
    → (view old).faults ≤ (view mid).faults
    → ((ps : Image) → (view old).list ≡ Some ps → found ps ≡ (shown ps >>= written_found bytes_of))
    → ReadsBy service_refusals view same mid new (Err fault) (Own fault) (AnswersOr service_refusals (λ (x : X). x))
    shown → ReadsBy service_refusals view same old new result (IfErr result Own)
    (AnswersOr service_refusals (λ (b : List ℕ). b)) found
handed-reads view same same_on old mid new bytes_of result fault Own found shown handed kept later told_so reads =
    let failed = sym (handed-failed result fault handed) in
    record {
      answer = λ ps told.
          subst (AnswersOr service_refusals (λ (b : List ℕ). b) result) (sym (told_so ps told))
          (handed-answer bytes_of result fault (shown ps) handed (reads.answer ps (kept.list_kept ∙ told)));
      own = handed-own result fault Own handed reads.own;
      kept = only_reads_on view same old mid new _ _ _ same_on (λ good. refl) (λ good. failed ∙ good) kept reads.kept;
      faults = record {
        later = omega (arith, later, reads.faults.later);
        rose = λ rose. let more = reads.faults.rose (failed ∙ rose) in omega (arith, later, more);
      };
    }

-- where it is shown, the whole is the bytes of the proof
pub written-reads : {P X : Type 0} (view : P → PagesView) (same : P → P → Type 0)
    (same_on : (x y z : P) → same x y → same y z → same x z) (old mid new : P) (bytes_of : X → List ℕ)
    (bytes : List ℕ) (x : X) (found : Image → Found (Result (List ℕ) Refusal))
    (shown : Image → Found (Result X Refusal)) → bytes ≡ bytes_of x
    → OnlyReads view same old mid (◌≡◌ {A = Bool} false false) → (view old).faults ≤ (view mid).faults
    → ((ps : Image) → (view old).list ≡ Some ps → found ps ≡ (shown ps >>= written_found bytes_of))
    → ReadsBy service_refusals view same mid new (Ok x) (Unit {0}) (AnswersOr service_refusals (λ (x : X). x)) shown
    → ReadsBy service_refusals view same old new (Ok bytes) (Unit {0})
    (AnswersOr service_refusals (λ (b : List ℕ). b)) found
written-reads view same same_on old mid new bytes_of bytes x found shown is kept later told_so reads = record {
  answer = λ ps told.
      told_so ps told ∙ is_on (shown ps) (written_found bytes_of) (Ok x) (reads.answer ps (kept.list_kept ∙ told))
      ∙ ap (λ (b : List ℕ). Is (Ok b)) (sym is);
  own = tt;
  kept = only_reads_on view same old mid new _ _ _ same_on (λ good. refl) (λ good. refl) kept reads.kept;
  faults = record { later = omega (arith, later, reads.faults.later); rose = λ failed. cc };
}
