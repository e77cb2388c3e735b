use Rattle.std.proofs.Common.{◌⊎◌}
use Rattle.tw_disk.proofs.FoundLaws.{is_on}
use Rattle.tw_skiplist.specs.Readings.{found_proof}
use Rattle.tw_answers.specs.Finds.{absence_bytes, absence_proof, found_absence_of}
use Rattle.tw_answers.specs.Refusals.{IsFault, IsHasThread}
use Rattle.tw_answers.proofs.HandedOn.{handed-reads, written-reads}
use Rattle.tw_answers.proofs.showing.make_absence.Goals as goal

pub returns-in_err-tree : goal.returns-in_err-tree
unfolding absence_proof
returns-in_err-tree g c = record {
  reads = handed-reads g.P.Pages.view g.P.Pages.same g.met.P.Pages.same_on _ _ _
      (absence_bytes c.args.name.now c.args.key.now c.args.top c.in_ok-proof.proof) c.from_residual-in_err-tree.result
      c.in_err-tree.field-0.0 (λ why. IsFault why ⊎ IsHasThread why) _
      (λ ps. found_absence_of g.H.Hasher.dig ps c.in_ok-proof.proof.info.archive c.args.key.now)
      c.from_residual-in_err-tree.ensures.1 c.in_ok-proof.ensures.reads.kept c.in_ok-proof.ensures.reads.faults.later
      (λ ps told. is_on (found_proof g.H.Hasher.dig ps c.args.head.now c.args.top c.args.step) _ c.in_ok-proof.proof
      (c.in_ok-proof.ensures.reads.answer ps told)) c.in_err-tree.ensures.reads;
}

pub returns : goal.returns
unfolding absence_proof
returns g c = record {
  reads = written-reads g.P.Pages.view g.P.Pages.same g.met.P.Pages.same_on _ _ _
      (absence_bytes c.args.name.now c.args.key.now c.args.top c.in_ok-proof.proof) _ c.in_ok-tree.tree _
      (λ ps. found_absence_of g.H.Hasher.dig ps c.in_ok-proof.proof.info.archive c.args.key.now) c.in_ok-write_absence.ensures
      c.in_ok-proof.ensures.reads.kept c.in_ok-proof.ensures.reads.faults.later
      (λ ps told. is_on (found_proof g.H.Hasher.dig ps c.args.head.now c.args.top c.args.step) _ c.in_ok-proof.proof
      (c.in_ok-proof.ensures.reads.answer ps told)) c.in_ok-tree.ensures.reads;
}
