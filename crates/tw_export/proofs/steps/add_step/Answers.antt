use Rattle.std.proofs.Common.{◌≡◌, ◌∙◌, ℕ, ap, refl, subst, sym, Result, Ok, Err}
use Rattle.tw_disk.specs.Answers.{AnswersAs, FaultSort, SaysOf}
use Rattle.tw_disk.specs.Answers.FaultSort.{OfPage}
use Rattle.tw_disk.specs.Found.{Found}
use Rattle.tw_disk.specs.Found.Found.{Is, Bad}
use Rattle.tw_skiplist.specs.declared.fault.ListFault.{ListFault}
use Rattle.tw_skiplist.specs.ListFaults.{list_faults}
use Rattle.tw_export.specs.Exporting.{SoFar}
use Rattle.tw_export.specs.Told.{so_far_of}
use Rattle.tw_export.proofs.ReceivedLaws.{step_received}
use Rattle.tw_export.proofs.steps.add_step.Goals as goal

number : Found (Unit {0}) → ℕ
number (Bad page) = page
number (Is done) = 0

abbrev bad_page : ℕ → Found (Unit {0})
bad_page page = Bad page

-- a page that is told as bad
module _ (value : Unit {0} → SoFar) (page : ℕ) (found : Found SoFar) (bad : found ≡ Bad page) where
  says : (s : FaultSort) → SaysOf list_faults s (bad_page page) → SaysOf list_faults s found
  unfolding number
  says (OfPage p) is = bad ∙ ap (λ (q : ℕ). Bad q) (ap number is)
  says _ is = tt

  told : (result : Result (Unit {0}) ListFault) → AnswersAs list_faults (λ (done : Unit {0}). done) result
      (bad_page page) → AnswersAs list_faults value result found
  told (Ok done) is = cc
  told (Err fault) is = says (list_faults fault) is

pub returns-then-lacks_events : goal.returns-then-lacks_events
returns-then-lacks_events g c =
    let reads = c.tell_bad.ensures.reads in
    let before = so_far_of c.args.so_far.now in
    let r = c.args.recorded.now in
    record {
      reads = record {
        answer = λ ps is. told (λ _. before) r.page _ (c.if-lacks_events.ensures refl g.H.Hasher.dig ps before)
            c.tell_bad.result (reads.answer ps is);
        own = reads.own;
        kept = reads.kept;
        faults = reads.faults;
      };
    }

pub returns-in-Some : goal.returns-in-Some
returns-in-Some g c =
    let reads = c.add_received.ensures.reads in
    let before = so_far_of c.args.so_far.now in
    record {
      reads = record {
        answer = λ ps is.
            subst (λ (found : Found SoFar). AnswersAs list_faults
            (λ (done : Unit {0}). so_far_of c.add_received.new.so_far) c.add_received.result found)
            (sym (step_received g.H.Hasher.dig ps before c.args.recorded.now c.in-Some.thread c.in-Some.is))
            (reads.answer ps is);
        own = reads.own;
        kept = reads.kept;
        faults = reads.faults;
      };
    }
