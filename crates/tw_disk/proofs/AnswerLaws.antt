-- A reading that stops at a fault, behind others.
use Rattle.std.specs.Prelude.{Result, Ok, Err, IsErrAnd}
use Rattle.std.proofs.Common.{◌≡◌, ℕ, ◌≤◌, ◌∙◌, Bool, true, false, Some, ap, sym, subst, arith}
use Rattle.tw_disk.specs.Answers.{FaultSort, IsShared, ReadsOr, ReadsPages, RefusesAs, SaysOf, is_of_disk}
use Rattle.tw_disk.specs.Answers.FaultSort.{OfPage, OfDisk, OfMemory, OfCall}
use Rattle.tw_disk.specs.Found.{Found}
use Rattle.tw_disk.specs.Found.Found.{Bad}
use Rattle.tw_disk.specs.Image.{Image}
use Rattle.tw_disk.specs.Pages.{OnlyReads, PagesView}
use Rattle.tw_disk.proofs.ReadingLaws.{only_reads_on}

module _ {F G X Y : Type 0} (sort : F → FaultSort) (wide : G → FaultSort) where
  says_on : (s : FaultSort) (one : Found X) (all : Found Y) → ((page : ℕ) → one ≡ Bad page → all ≡ Bad page)
      → SaysOf sort s one → SaysOf wide s all
  says_on (OfPage page) one all on is = on page is
  says_on _ one all on is = tt

module _ {F G T U X Y P : Type 0} (sort : F → FaultSort) (wide : G → FaultSort) (view : P → PagesView)
    (same : P → P → Type 0) (same_on : (x y z : P) → same x y → same y z → same x z) where
  -- a fault that `?` hands on is one of the whole, where a bad page of the reading here is a bad page of the whole
  pub stopped : (start here new : P) (value : T → X) (whole_value : U → Y) (found : Image → Found X)
      (all : Image → Found Y) (fault : F) (handed : G) (result : Result U G)
      → OnlyReads view same start here (Unit {0}) → (view start).faults ≤ (view here).faults → wide handed ≡ sort fault
      → IsErrAnd result (λ e. e ≡ handed)
      → ((ps : Image) → (view start).list ≡ Some ps → (page : ℕ) → found ps ≡ Bad page → all ps ≡ Bad page)
      → ReadsPages sort view same here new value (Err fault) found → ReadsPages wide view same start new whole_value
      result all
  stopped start here new value whole_value found all fault handed (Ok x) kept later says is on reads = absurd is
  stopped start here new value whole_value found all fault handed (Err other) kept later says is on reads =
      let same_sort : wide other ≡ sort fault = ap wide is ∙ says in
      record {
        answer = λ ps told. subst (λ (s : FaultSort). SaysOf wide s (all ps)) (sym same_sort)
            (says_on sort wide (sort fault) (found ps) (all ps) (on ps told) (reads.answer ps (kept.list_kept ∙ told)));
        own = subst IsShared (sym same_sort) reads.own;
        kept = only_reads_on view same start here new (Unit {0}) _ _ same_on (λ good. tt)
            (λ good. ap is_of_disk (sym same_sort) ∙ good) kept reads.kept;
        faults = record {
          later = omega (arith, later, reads.faults.later);
          rose = λ failed. let rose = reads.faults.rose (ap is_of_disk (sym same_sort) ∙ failed) in
              omega (arith, later, rose);
        };
      }

module _ {G Z : Type 0} (wide : G → FaultSort) where
  or_says : (s : FaultSort) (e : G) (found : Found (Result Z G)) → IsShared s → SaysOf wide s found
      → RefusesAs wide s e found
  or_says (OfPage page) e found shared is = is
  or_says OfCall e found shared is = absurd shared
  or_says _ e found shared is = tt

module _ {G U Z P : Type 0} (wide : G → FaultSort) (view : P → PagesView) (same : P → P → Type 0) where
  -- a fault that is no refusal of the call's own answers a call that has some, too
  pub as_or : (start new : P) (any : U → Result Z G) (value : U → Z) (result : Result U G) (Is : G → Type 0)
      (all : Image → Found (Result Z G)) (Own : Type 0)
      → IsErrAnd result Is → Own → ReadsPages wide view same start new any result all → ReadsOr wide view same start new
      value result Own all
  as_or start new any value (Ok x) Is all Own is own reads = absurd is
  as_or start new any value (Err e) Is all Own is own reads =
      record {
        answer = λ ps told. or_says wide (wide e) e (all ps) reads.own (reads.answer ps told);
        own = own;
        kept = reads.kept;
        faults = reads.faults;
      }
