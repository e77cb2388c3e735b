-- What is read for a map file behind a step that was found, and a fault of it, handed on.
use Rattle.std.proofs.Common.{◌≡◌, ℕ, ◌-◌, ◌<◌, ◌≤◌, List, Bool, false, ap, arith, refl, sym, ◌∙◌, subst}
use Rattle.std.specs.Prelude.{Option, Some, None, Result, Ok, Err, IfErr, IsErrAnd, if◌then◌else◌}
use Rattle.std.proofs.lemmas.Bool.{le-leb, lt-leb}
use Rattle.tw_base.specs.declared.history.tree_proof.Ask.{Ask}
use Rattle.tw_disk.specs.Answers.{AnswersAs, AnswersOr, FaultSort, FaultsRise, ReadsBy, RefusesAs, SaysOf, is_failed}
use Rattle.tw_disk.specs.Answers.{is_of_disk}
use Rattle.tw_disk.specs.Answers.FaultSort.{OfPage}
use Rattle.tw_disk.specs.Found.{Found, ◌>>=◌}
use Rattle.tw_disk.specs.Found.Found.{Is}
use Rattle.tw_disk.specs.Image.{Image}
use Rattle.tw_disk.specs.Pages.{OnlyReads, PagesView}
use Rattle.tw_disk.proofs.FoundLaws.{is_on}
use Rattle.tw_disk.proofs.ReadingLaws.{only_reads_on}
use Rattle.tw_skiplist.specs.declared.head.Head.{Head}
use Rattle.tw_skiplist.specs.declared.info.StepProof.{StepProof}
use Rattle.tw_skiplist.specs.declared.info.StepInfo.{StepInfo}
use Rattle.tw_skiplist.specs.Readings.{found_proof, found_step}
use Rattle.tw_tmap.specs.declared.map_file.LowPart.{LowPart}
use Rattle.tw_tmap.specs.MapFiles.{high_bytes}
use Rattle.tw_base.specs.declared.history.refusal.Refusal.{Refusal}
use Rattle.tw_base.specs.declared.history.refusal.Refusal.TheVariants.{BadPage, DiskFault, NoMemory}
use Rattle.tw_answers.specs.Finds.{tree_shown}
use Rattle.tw_answers.specs.Refusals.{IsFault, service_refusals}
use Rattle.tw_tmap.specs.Checking.{first_after, last_before}
use Rattle.tw_service.specs.Mapping.{high_file, high_with, low_before, mapped_low_part}

abbrev fails : (T : Type 0) → Refusal → Result T Refusal
fails T why = Err why

-- a call that reads, behind one that answered
pub both_read : {P T U Y : Type 0} (view : P → PagesView) (same : P → P → Type 0)
    (same_on : (x y z : P) → same x y → same y z → same x z) (start here new : P) (second : Result T Refusal)
    (result : Result U Refusal) (Own : Type 0) (Answers : Result U Refusal → Found Y → Type 0) (found : Image → Found Y)
    → OnlyReads view same start here (◌≡◌ {A = Bool} false false) → (view start).faults ≤ (view here).faults
    → OnlyReads view same here new (is_failed service_refusals second ≡ false)
    → FaultsRise service_refusals view same here new second
    → is_failed service_refusals result ≡ is_failed service_refusals second
    → ((ps : Image) → (view start).list ≡ Some ps → Answers result (found ps)) → Own
    → ReadsBy service_refusals view same start new result Own Answers found
both_read view same same_on start here new second result Own Answers found before later kept faults alike answer own =
    record {
      answer = answer;
      own = own;
      kept = only_reads_on view same start here new _ _ _ same_on (λ good. refl) (λ good. sym alike ∙ good) before kept;
      faults = record {
        later = omega (arith, later, faults.later);
        rose = λ failed. let rose = faults.rose (sym alike ∙ failed) in omega (arith, later, rose);
      };
    }

module _ {X Y T : Type 0} (next : X → Found Y) (value : T → Y) where
  stays : (sort : FaultSort) (found : Found X) → SaysOf service_refusals sort found → SaysOf service_refusals sort
      (found >>= next)
  stays (OfPage page) found is = ap (λ (f : Found X). f >>= next) is
  stays _ found is = tt

  pub handed-says : (result : Result T Refusal) (fault : Refusal) (found : Found X) → IsErrAnd result (λ e. e ≡ fault)
      → SaysOf service_refusals (service_refusals fault) found → AnswersAs service_refusals value result
      (found >>= next)
  handed-says (Ok x) fault found is there = absurd is
  handed-says (Err e) fault found is there = subst (λ (f : Refusal). SaysOf service_refusals (service_refusals f)
      (found >>= next)) (sym is) (stays (service_refusals fault) found there)

module _ {X Y T : Type 0} (next : X → Found (Result Y Refusal)) (value : T → Y) where
  refuses : (fault : Refusal) (found : Found X) → IsFault fault → SaysOf service_refusals (service_refusals fault) found
      → RefusesAs service_refusals (service_refusals fault) fault (found >>= next)
  refuses (BadPage page) found of is = ap (λ (f : Found X). f >>= next) is
  refuses DiskFault found of is = tt
  refuses NoMemory found of is = tt
  refuses _ found of is = absurd of

  pub handed-refuses : (result : Result T Refusal) (fault : Refusal) (found : Found X)
      → IsErrAnd result (λ e. e ≡ fault) → IsFault fault → SaysOf service_refusals (service_refusals fault) found
      → AnswersOr service_refusals value result (found >>= next)
  handed-refuses (Ok x) fault found is of there = absurd is
  handed-refuses (Err e) fault found is of there =
      subst (λ (f : Refusal). RefusesAs service_refusals (service_refusals f) f (found >>= next)) (sym is)
      (refuses fault found of there)

module _ {T : Type 0} (result : Result T Refusal) (fault : Refusal) where
  own_by : (r : Result T Refusal) → IsErrAnd r (λ e. e ≡ fault) → IsFault fault → IfErr r IsFault
  own_by (Ok x) is own = absurd is
  own_by (Err e) is own = subst IsFault (sym is) own

  pub handed-fault : IsErrAnd result (λ e. e ≡ fault) → IsFault fault → IfErr result IsFault
  handed-fault is own = own_by result is own

  failed_by : (r : Result T Refusal) → IsErrAnd r (λ e. e ≡ fault) → is_failed service_refusals r ≡ is_of_disk
      (service_refusals fault)
  failed_by (Ok x) is = absurd is
  failed_by (Err e) is = ap (λ (f : Refusal). is_of_disk (service_refusals f)) is

  -- it tells of the disk where it did
  pub handed-tells : IsErrAnd result (λ e. e ≡ fault) → is_failed service_refusals result ≡ is_of_disk
      (service_refusals fault)
  handed-tells is = failed_by result is

-- from step 2 on, where the step before is found, what is shown in its archive is told
pub before-told : (dig : List ℕ → List ℕ) (ps : Image) (head : Head) (step : ℕ) (peer : List ℕ) (top : ℕ)
    (proof : StepProof) (asked : Ask) → 1 < step → found_proof dig ps head top (step - 1) ≡ Is proof
    → asked ≡ last_before peer
    → low_before dig ps head step peer top ≡ (tree_shown dig ps proof.info.archive asked
    >>= (λ tree. Is (Some (mapped_low_part proof tree))))
unfolding low_before
before-told dig ps head step peer top proof asked more is asks =
    let later : Found (Option LowPart) = found_proof dig ps head top (step - 1) >>= (λ proof. tree_shown dig ps
    proof.info.archive (last_before peer) >>= (λ tree. Is (Some (mapped_low_part proof tree)))) in
    ap (λ (b : Bool). if b then Is None else later) (lt-leb step 1 more)
    ∙ is_on (found_proof dig ps head top (step - 1)) (λ proof. tree_shown dig ps proof.info.archive (last_before peer)
    >>= (λ tree. Is (Some (mapped_low_part proof tree)))) proof is
    ∙ ap (λ (a : Ask). tree_shown dig ps proof.info.archive a >>= (λ tree. Is (Some (mapped_low_part proof tree))))
    (sym asks)

-- of step 1 no step before is shown
pub before-none : (dig : List ℕ → List ℕ) (ps : Image) (head : Head) (step : ℕ) (peer : List ℕ) (top : ℕ) → step ≤ 1
    → low_before dig ps head step peer top ≡ Is None
unfolding low_before
before-none dig ps head step peer top end =
    ap (λ (b : Bool). if b then Is None else (found_proof dig ps head top (step - 1) >>= (λ proof. tree_shown dig ps
    proof.info.archive (last_before peer) >>= (λ tree. Is (Some (mapped_low_part proof tree)))))) (le-leb step 1 end)

-- where the top is found, what is shown in its archive is written
pub high-told : (dig : List ℕ → List ℕ) (ps : Image) (head : Head) (step : ℕ) (peer : List ℕ) (top : ℕ) (name : List ℕ)
    (info : StepInfo) (asked : Ask) → found_step dig ps head top ≡ Is info → asked ≡ first_after peer step
    → high_file dig ps head step peer top name ≡ (tree_shown dig ps info.archive asked
    >>= (λ tree. Is (Ok (high_bytes (high_with name step peer top info tree)))))
unfolding high_file
high-told dig ps head step peer top name info asked is asks =
    is_on (found_step dig ps head top) (λ info. tree_shown dig ps info.archive (first_after peer step)
    >>= (λ tree. Is (Ok (high_bytes (high_with name step peer top info tree))))) info is
    ∙ ap (λ (a : Ask). tree_shown dig ps info.archive a
    >>= (λ tree. Is (Ok (high_bytes (high_with name step peer top info tree))))) (sym asks)

-- a fault of what is read behind a step, handed on
pub stopped_behind : {P U Y T : Type 0} (view : P → PagesView) (same : P → P → Type 0)
    (same_on : (x y z : P) → same x y → same y z → same x z) (start here new : P) (fault : Refusal)
    (result : Result U Refusal) (Answers : Result U Refusal → Found Y → Type 0) (found : Image → Found Y)
    → IsErrAnd result (λ e. e ≡ fault) → IsFault fault → OnlyReads view same start here (◌≡◌ {A = Bool} false false)
    → (view start).faults ≤ (view here).faults
    → OnlyReads view same here new (is_of_disk (service_refusals fault) ≡ false)
    → FaultsRise service_refusals view same here new (fails T fault)
    → ((ps : Image) → (view start).list ≡ Some ps → Answers result (found ps))
    → ReadsBy service_refusals view same start new result (IfErr result IsFault) Answers found
stopped_behind {T = T} view same same_on start here new fault result Answers found handed own before later kept faults
    answer = both_read view same same_on start here new (fails T fault) result (IfErr result IsFault) Answers found
    before later kept faults (handed-tells result fault handed) answer (handed-fault result fault handed own)
