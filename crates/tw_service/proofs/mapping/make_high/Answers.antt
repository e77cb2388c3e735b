use Rattle.std.proofs.Common.{◌∙◌, List, ℕ, ap, refl, sym, subst}
use Rattle.std.specs.Prelude.{Ok}
use Rattle.tw_disk.specs.Answers.{AnswersOr}
use Rattle.tw_disk.specs.Found.Found.{Is}
use Rattle.tw_disk.proofs.FoundLaws.{is_on}
use Rattle.tw_tmap.specs.MapFiles.{high_bytes}
use Rattle.tw_answers.specs.Finds.{tree_shown}
use Rattle.tw_answers.specs.Refusals.{service_refusals}
use Rattle.tw_service.specs.Mapping.{high_file, high_with}
use Rattle.tw_service.proofs.MapAnswers.{both_read, handed-refuses, high-told, stopped_behind}
use Rattle.tw_service.proofs.mapping.make_high.Goals as goal

pub returns-in_err-tree : goal.returns-in_err-tree
returns-in_err-tree g c =
    let before = c.in_ok-info.ensures.reads in
    let reads = c.in_err-tree.ensures.reads in
    let info = c.in_ok-info.info in
    record {
      reads = stopped_behind g.P.Pages.view g.P.Pages.same g.met.P.Pages.same_on _ _ _ c.in_err-tree.field-0.0
          c.from_residual-in_err-tree.result (AnswersOr service_refusals (λ (b : List ℕ). b))
          (λ ps. high_file g.H.Hasher.dig ps c.args.head.now c.args.step c.args.peer.now c.args.top c.args.name.now)
          c.from_residual-in_err-tree.ensures.1 reads.own before.kept before.faults.later reads.kept reads.faults
          (λ ps told. subst (AnswersOr service_refusals (λ (b : List ℕ). b) c.from_residual-in_err-tree.result)
          (sym (high-told g.H.Hasher.dig ps c.args.head.now c.args.step c.args.peer.now c.args.top c.args.name.now info
          c.ask_first.result (before.answer ps told) c.ask_first.ensures))
          (handed-refuses (λ tree. Is (Ok (high_bytes (high_with c.args.name.now c.args.step c.args.peer.now c.args.top
          info tree)))) (λ (b : List ℕ). b) c.from_residual-in_err-tree.result c.in_err-tree.field-0.0
          (tree_shown g.H.Hasher.dig ps info.archive c.ask_first.result) c.from_residual-in_err-tree.ensures.1 reads.own
          (reads.answer ps (before.kept.list_kept ∙ told))));
    }

pub returns : goal.returns
returns g c =
    let before = c.in_ok-info.ensures.reads in
    let reads = c.in_ok-tree.ensures.reads in
    let info = c.in_ok-info.info in
    record {
      reads = both_read g.P.Pages.view g.P.Pages.same g.met.P.Pages.same_on _ _ _ (Ok c.in_ok-tree.tree)
          (Ok c.in_ok-bytes.field-0) _ (AnswersOr service_refusals (λ (b : List ℕ). b))
          (λ ps. high_file g.H.Hasher.dig ps c.args.head.now c.args.step c.args.peer.now c.args.top c.args.name.now)
          before.kept before.faults.later reads.kept reads.faults refl
          (λ ps told. high-told g.H.Hasher.dig ps c.args.head.now c.args.step c.args.peer.now c.args.top
          c.args.name.now info c.ask_first.result (before.answer ps told) c.ask_first.ensures
          ∙ is_on (tree_shown g.H.Hasher.dig ps info.archive c.ask_first.result)
          (λ tree. Is (Ok (high_bytes (high_with c.args.name.now c.args.step c.args.peer.now c.args.top info tree))))
          c.in_ok-tree.tree (reads.answer ps (before.kept.list_kept ∙ told))
          ∙ ap (λ (b : List ℕ). Is (Ok b)) (sym c.in_ok-bytes.ensures.bytes)) tt;
    }
