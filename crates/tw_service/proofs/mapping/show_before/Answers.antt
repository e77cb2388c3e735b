use Rattle.std.proofs.Common.{◌<◌, ◌∙◌, ap, refl, sym, subst, arith}
use Rattle.std.specs.Prelude.{Ok, Option, Some}
use Rattle.tw_disk.specs.Answers.{AnswersAs}
use Rattle.tw_disk.specs.Found.Found.{Is}
use Rattle.tw_disk.proofs.FoundLaws.{is_on}
use Rattle.tw_tmap.specs.declared.map_file.LowPart.{LowPart}
use Rattle.tw_answers.specs.Finds.{tree_shown}
use Rattle.tw_answers.specs.Refusals.{service_refusals}
use Rattle.tw_service.specs.Mapping.{low_before, mapped_low_part}
use Rattle.tw_service.proofs.MapAnswers.{before-told, both_read, handed-says, stopped_behind}
use Rattle.tw_service.proofs.mapping.show_before.Goals as goal

pub returns-in_err-tree : goal.returns-in_err-tree
returns-in_err-tree g c =
    let more : 1 < c.args.step = omega (arith, c.if-step-le1.false) in
    let before = c.in_ok-proof.ensures.reads in
    let reads = c.in_err-tree.ensures.reads in
    record {
      reads = stopped_behind g.P.Pages.view g.P.Pages.same g.met.P.Pages.same_on _ _ _ c.in_err-tree.field-0.0
          c.from_residual-in_err-tree.result (AnswersAs service_refusals (λ (shown : Option LowPart). shown))
          (λ ps. low_before g.H.Hasher.dig ps c.args.head.now c.args.step c.args.peer.now c.args.top)
          c.from_residual-in_err-tree.ensures.1 reads.own before.kept before.faults.later reads.kept reads.faults
          (λ ps told. subst (AnswersAs service_refusals (λ (shown : Option LowPart). shown)
          c.from_residual-in_err-tree.result)
          (sym (before-told g.H.Hasher.dig ps c.args.head.now c.args.step c.args.peer.now c.args.top
          c.in_ok-proof.proof c.ask_last.result more (before.answer ps told) c.ask_last.ensures))
          (handed-says (λ tree. Is (Some (mapped_low_part c.in_ok-proof.proof tree)))
          (λ (shown : Option LowPart). shown) c.from_residual-in_err-tree.result c.in_err-tree.field-0.0
          (tree_shown g.H.Hasher.dig ps c.in_ok-proof.proof.info.archive c.ask_last.result)
          c.from_residual-in_err-tree.ensures.1 (reads.answer ps (before.kept.list_kept ∙ told))));
    }

pub returns : goal.returns
returns g c =
    let more : 1 < c.args.step = omega (arith, c.if-step-le1.false) in
    let before = c.in_ok-proof.ensures.reads in
    let reads = c.in_ok-tree.ensures.reads in
    record {
      reads = both_read g.P.Pages.view g.P.Pages.same g.met.P.Pages.same_on _ _ _ (Ok c.in_ok-tree.tree)
          (Ok (Some c.part_of.result)) _ (AnswersAs service_refusals (λ (shown : Option LowPart). shown))
          (λ ps. low_before g.H.Hasher.dig ps c.args.head.now c.args.step c.args.peer.now c.args.top)
          before.kept before.faults.later reads.kept reads.faults refl
          (λ ps told. before-told g.H.Hasher.dig ps c.args.head.now c.args.step c.args.peer.now c.args.top
          c.in_ok-proof.proof c.ask_last.result more (before.answer ps told) c.ask_last.ensures
          ∙ is_on (tree_shown g.H.Hasher.dig ps c.in_ok-proof.proof.info.archive c.ask_last.result)
          (λ tree. Is (Some (mapped_low_part c.in_ok-proof.proof tree))) c.in_ok-tree.tree
          (reads.answer ps (before.kept.list_kept ∙ told))
          ∙ ap (λ (part : LowPart). Is (Some part)) (sym c.part_of.ensures)) tt;
    }
