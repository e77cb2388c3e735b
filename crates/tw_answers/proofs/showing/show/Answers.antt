use Rattle.std.proofs.Common.{◌≡◌, ◌∙◌, ap, sym, subst}
use Rattle.tw_disk.specs.Answers.{SaysOf, is_of_disk}
use Rattle.tw_disk.proofs.ReadingLaws.{reads_weaker}
use Rattle.tw_rbtree.specs.FaultWords.{tree_faults}
use Rattle.tw_answers.specs.Finds.{tree_shown}
use Rattle.tw_answers.specs.Refusals.{IsFault, service_refusals}
use Rattle.tw_base.specs.declared.history.refusal.Refusal.{Refusal}
use Rattle.tw_answers.proofs.TreeAnswers.{shown-says, shown-told, tree-failed, tree-fault}
use Rattle.tw_answers.proofs.showing.show.Goals as goal

pub returns-in-Ok : goal.returns-in-Ok
returns-in-Ok g c =
    let reads = c.in-Ok.ensures.reads in
    record {
      reads = record {
        answer = λ ps told. shown-told g.H.Hasher.dig ps c.args.root.now c.args.ask.now c.in-Ok.tree
            (reads.answer ps told);
        own = tt;
        kept = reads.kept;
        faults = record { later = reads.faults.later; rose = reads.faults.rose };
      };
    }

pub returns-in-Err : goal.returns-in-Err
returns-in-Err g c =
    let reads = c.in-Err.ensures.reads in
    let dig = g.H.Hasher.dig in
    let root = c.args.root.now in
    let asked = c.args.ask.now in
    let fault = c.in-Err.fault in
    let is = c.refusal_of_tree.ensures in
    let failed : is_of_disk (service_refusals c.refusal_of_tree.result) ≡ is_of_disk (tree_faults fault) =
    ap (λ (r : Refusal). is_of_disk (service_refusals r)) is ∙ tree-failed root fault in
    record {
      reads = record {
        answer = λ ps told. subst (λ (r : Refusal). SaysOf service_refusals (service_refusals r)
            (tree_shown dig ps root asked)) (sym is) (shown-says dig ps root asked fault reads.own
            (reads.answer ps told));
        own = subst IsFault (sym is) (tree-fault root fault);
        kept = reads_weaker g.P.Pages.view g.P.Pages.same _ _ _ _ (λ good. sym failed ∙ good) reads.kept;
        faults = record { later = reads.faults.later; rose = λ rose. reads.faults.rose (sym failed ∙ rose) };
      };
    }
