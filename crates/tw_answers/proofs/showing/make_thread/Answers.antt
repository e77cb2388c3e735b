use Rattle.std.proofs.Common.{◌⊎◌}
use Rattle.tw_disk.proofs.FoundLaws.{is_on}
use Rattle.tw_skiplist.specs.Readings.{found_proof}
use Rattle.tw_answers.specs.Finds.{found_thread_of, thread_bytes, thread_proof}
use Rattle.tw_answers.specs.Refusals.{IsFault, IsNoThread}
use Rattle.tw_answers.proofs.HandedOn.{handed-reads, written-reads}
use Rattle.tw_answers.proofs.showing.make_thread.Goals as goal

pub returns-in_err-shown : goal.returns-in_err-shown
unfolding thread_proof
returns-in_err-shown g c = record {
  reads = handed-reads g.P.Pages.view g.P.Pages.same g.met.P.Pages.same_on _ _ _
      (thread_bytes c.args.name.now c.args.top c.in_ok-proof.proof) c.from_residual-in_err-shown.result
      c.in_err-shown.field-0.0 (λ why. IsFault why ⊎ IsNoThread why) _
      (λ ps. found_thread_of g.H.Hasher.dig ps c.in_ok-proof.proof.info.archive c.args.key.now)
      c.from_residual-in_err-shown.ensures.1 c.in_ok-proof.ensures.reads.kept c.in_ok-proof.ensures.reads.faults.later
      (λ ps told. is_on (found_proof g.H.Hasher.dig ps c.args.head.now c.args.top c.args.step) _ c.in_ok-proof.proof
      (c.in_ok-proof.ensures.reads.answer ps told)) c.in_err-shown.ensures.reads;
}

pub returns : goal.returns
unfolding thread_proof
returns g c = record {
  reads = written-reads g.P.Pages.view g.P.Pages.same g.met.P.Pages.same_on _ _ _
      (thread_bytes c.args.name.now c.args.top c.in_ok-proof.proof) _ c.in_ok-shown.shown _
      (λ ps. found_thread_of g.H.Hasher.dig ps c.in_ok-proof.proof.info.archive c.args.key.now) c.in_ok-write_thread.ensures
      c.in_ok-proof.ensures.reads.kept c.in_ok-proof.ensures.reads.faults.later
      (λ ps told. is_on (found_proof g.H.Hasher.dig ps c.args.head.now c.args.top c.args.step) _ c.in_ok-proof.proof
      (c.in_ok-proof.ensures.reads.answer ps told)) c.in_ok-shown.ensures.reads;
}
